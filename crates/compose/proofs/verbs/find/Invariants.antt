-- `verbs::find` goes on while no row has had the word: the scan stays where it was.
use Rattle.std.proofs.Common.{◌≡◌}
use Rattle.compose.proofs.verbs.find.Given as goal

abbrev pub invariant-loop-row : goal.invariant-loop-row
invariant-loop-row l = l.scan ≡ l.fn.scan
