-- `wake::wake_events` meets its contract: it wakes those of the event queue.
use mathlib.Core.Path.{refl}
use Rattle.waiting.proofs.Walked.{in-events}
use Rattle.waiting.proofs.wake.wake_events.Goals as goal

pub wake_all-requires : goal.wake_all-requires
wake_all-requires c = (c.requires.0, c.requires.1, record { either = λ n. absurd (n refl) })

pub returns : goal.returns
returns c = rw (in-events _ _) at c.wake_all.ensures
