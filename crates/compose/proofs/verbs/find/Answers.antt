-- `verbs::find` meets its contract: the test over the whole table is computed here.
use Rattle.std.proofs.Common.{◌<◌, rules}
use Rattle.words.specs.Words.{◌among◌}
use Rattle.calls.specs.Calls.{known}
use Rattle.compose.proofs.Table.{all_known, row-known}
use Rattle.compose.proofs.verbs.find.Goals as goal

pub returns-then-option-clause-known : goal.returns-then-option-clause-known
unfolding all_known known ◌among◌
returns-then-option-clause-known c = let low : c.loop-row.row-index < 19 = search rules in rw row-known
