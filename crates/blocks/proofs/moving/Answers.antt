-- `moving` meets its contract: the reading is that of the place, and the rest is as it was or zero.
use Rattle.blocks.proofs.moving.Goals as goal

pub returns : goal.returns
returns c = rw c.since.ensures
