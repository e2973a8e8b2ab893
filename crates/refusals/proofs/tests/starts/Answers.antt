-- `tests::starts` meets its contract: the first of the list, or one of the other two.
use Rattle.words.specs.Words.{◌among◌}
use Rattle.refusals.proofs.tests.starts.Goals as goal

pub returns : goal.returns
unfolding ◌among◌
returns c = cc
