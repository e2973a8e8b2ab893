-- `line` meets its contract: a line is the numbers of the outcome while the tables' running task runs.
use Rattle.meaning.specs.Step.{line_of}
use Rattle.executive.proofs.line.Goals as goal

pub returns : goal.returns
unfolding line_of
returns g c = c.numbers.ensures
