-- `wait::awaiting_events` meets its contract: the block that has moved, in the event queue with its events.
use Rattle.waiting.proofs.wait.awaiting_events.Goals as goal

pub returns : goal.returns
returns c = rw c.moving-x.ensures
