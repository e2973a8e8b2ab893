-- `phrases::with_range` meets its contract: a turn puts in one event, and there is none where the last is below the first.
use Rattle.std.proofs.Common.{◌≡◌, ◌<◌}
use Rattle.phrases.specs.Events.{ranged}
use Rattle.phrases.proofs.with_range.Given as goal

abbrev pub invariant-loop-e : goal.invariant-loop-e
invariant-loop-e l = (l.all ≡ ranged l.set l.first l.e) × (l.last < l.first → l.all ≡ l.set)
