-- `all_zero` meets its contract: its state, unfolded, is the one of which `unused` gives the tables.
use Rattle.tables.specs.State.{all_zero}
use Rattle.tables.proofs.all_zero.Goals as goal

pub returns : goal.returns
unfolding all_zero
returns c = rw (← c.default.ensures) c.unused.ensures
