-- `first` meets its contract: before block k none of the blocks below it begins to wait.
use Rattle.std.proofs.Common.{◌≡◌, ◌-◌, []}
use Rattle.readings.specs.Readings.{beginners}
use Rattle.readings.proofs.beginners.first.Given as goal

abbrev pub invariant-loop-k : goal.invariant-loop-k
invariant-loop-k l = beginners l.before l.after (l.k - 1) ≡ []
