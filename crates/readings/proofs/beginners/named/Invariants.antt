-- `named` meets its contract: before block k the line has the names of the blocks below it behind it, each of at most three bytes.
use Rattle.std.proofs.Common.{◌*◌, ◌-◌}
use Rattle.lines.specs.Lines.{Fits}
use Rattle.readings.specs.Readings.{beginners, names_of}
use Rattle.readings.proofs.beginners.named.Given as goal

abbrev pub invariant-loop-k : goal.invariant-loop-k
invariant-loop-k l = Fits l.initial.line (names_of (beginners l.before l.after (l.k - 1))) ((l.k - 1) * 3) l.line
