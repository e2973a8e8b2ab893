-- `wait::wait_for_time` meets its contract: the block awaits its time, and enters the queue by it.
use Rattle.meaning.specs.Conditions.{awaits_time}
use Rattle.waiting.proofs.wait.wait_for_time.Goals as goal

pub returns : goal.returns
unfolding awaits_time
returns c = rw (← c.due-due.ensures, ← c.awaiting_time-x.ensures) c.enter_time.ensures
