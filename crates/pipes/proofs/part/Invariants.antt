-- `part` writes the bytes that it was lent: a try that fails leaves them as they are.
use Rattle.std.proofs.Common.{◌≡◌}
use Rattle.pipes.proofs.part.Given as goal

abbrev pub invariant-loop-write : goal.invariant-loop-write
invariant-loop-write g l = l.bytes ≡ l.initial.bytes

-- The range counts the tries,
-- so that the loop needs no measure.
