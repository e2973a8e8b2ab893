-- `wake::wake_time` meets its contract: it wakes those of the time queue.
use mathlib.Core.Path.{refl}
use Rattle.waiting.proofs.Walked.{in-time}
use Rattle.waiting.proofs.wake.wake_time.Goals as goal

pub wake_all-requires : goal.wake_all-requires
wake_all-requires c = (c.requires.0, c.requires.1, record { either = λ n. refl })

pub returns : goal.returns
returns c = rw (in-time _ _) at c.wake_all.ensures
