-- `block::clear` meets its contract: three stretches of bytes, each by `zeros`.
use Rattle.image.specs.Block.{fillers_zero}
use Rattle.image.proofs.block.clear.Goals as goal

pub returns : goal.returns
unfolding fillers_zero
returns c = rw (c.zeros.ensures, c.zeros-2.ensures, c.zeros-3.ensures)
