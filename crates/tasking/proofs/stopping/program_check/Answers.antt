-- `stopping::program_check` meets its contract: the caller is in hand, and its chain of parents ends in 24 steps.
use Rattle.meaning.specs.Services.{program_check}
use Rattle.lawful.proofs.Each.Abort.{starts-abort}
use Rattle.tasking.proofs.stopping.program_check.Goals as goal

pub abort-requires : goal.abort-requires
abort-requires c = (c.requires.0.pointers, starts-abort c.requires.0.state c.requires.1)

pub returns : goal.returns
unfolding program_check
returns c = λ d. c.abort.ensures
