-- `loaded` meets its contract: its state, unfolded, is the one of which `unused` gives the tables.
use Rattle.tables.specs.State.{loaded}
use Rattle.tables.proofs.loaded.Goals as goal

pub returns : goal.returns
unfolding loaded
returns c = c.unused.ensures
