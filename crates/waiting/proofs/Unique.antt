-- No second answer: any two results that both meet what a public function of this crate promises are equal. `Post` is the promise itself, as the contract in
-- the source states it. An equation leaves one answer, and tables that show one state are the same tables.
use mathlib.Core.Path.{sym, ◌∙◌}
use Rattle.words.proofs.Once.{OneAnswer}
use Rattle.tables.proofs.Held.{shown-once}
use Rattle.waiting.proofs.conditions.enough_on.Reads as enough-on
use Rattle.waiting.proofs.conditions.due.Reads as due
use Rattle.waiting.proofs.conditions.holds.Reads as holds
use Rattle.waiting.proofs.wait.wait_for_events.Reads as wait-for-events
use Rattle.waiting.proofs.wait.wait_for_time.Reads as wait-for-time
use Rattle.waiting.proofs.wait.wait_for.Reads as wait-for
use Rattle.waiting.proofs.wake.wake.Reads as wake
use Rattle.waiting.proofs.wake.wake_events.Reads as wake-events
use Rattle.waiting.proofs.wake.wake_time.Reads as wake-time

pub enough-on-only : OneAnswer enough-on.Post
enough-on-only κs given r s end end' p q = p ∙ sym q

pub due-only : OneAnswer due.Post
due-only κs given r s end end' p q = p ∙ sym q

pub holds-only : OneAnswer holds.Post
holds-only κs given r s end end' p q = p ∙ sym q

pub wait-for-events-only : OneAnswer wait-for-events.Post
wait-for-events-only κs given r s end end' p q = shown-once p q

pub wait-for-time-only : OneAnswer wait-for-time.Post
wait-for-time-only κs given r s end end' p q = shown-once p q

pub wait-for-only : OneAnswer wait-for.Post
wait-for-only κs given r s end end' p q = shown-once p q

pub wake-only : OneAnswer wake.Post
wake-only κs given r s end end' p q = shown-once p q

pub wake-events-only : OneAnswer wake-events.Post
wake-events-only κs given r s end end' p q = shown-once p q

pub wake-time-only : OneAnswer wake-time.Post
wake-time-only κs given r s end end' p q = shown-once p q
