-- `check::awaiting` meets its contract: the block that has moved, in CHECK with its request.
use Rattle.channel.proofs.check.awaiting.Goals as goal

pub returns : goal.returns
returns c = rw c.moving-x.ensures
