-- `some` reads what its last try reads: a try that fails takes nothing from the reader.
use Rattle.std.specs.Io.KnownBytes.{Keeps}
use Rattle.pipes.proofs.some.Given as goal

abbrev pub invariant-loop-read : goal.invariant-loop-read
invariant-loop-read g l = Keeps (g.R.Read.remaining l.initial.input) (g.R.Read.remaining l.input)

-- The range counts the tries,
-- so that the loop needs no measure.
