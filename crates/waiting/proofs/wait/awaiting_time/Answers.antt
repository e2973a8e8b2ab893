-- `wait::awaiting_time` meets its contract: the block that has moved, in the time queue with its time.
use Rattle.waiting.proofs.wait.awaiting_time.Goals as goal

pub returns : goal.returns
returns c = rw c.moving-x.ensures
