-- `changed` meets its contract: before block k the line has the readings of the blocks below it behind it that are others, each of at most 14 bytes.
use Rattle.std.proofs.Common.{◌*◌, ◌-◌}
use Rattle.lines.specs.Lines.{Fits}
use Rattle.readings.specs.Readings.{changed_of}
use Rattle.readings.proofs.changed.Given as goal

abbrev pub invariant-loop-k : goal.invariant-loop-k
invariant-loop-k l = Fits l.initial.line (changed_of l.before l.after (l.k - 1)) ((l.k - 1) * 14) l.line
