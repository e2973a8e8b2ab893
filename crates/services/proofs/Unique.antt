-- No second answer: any two results that both meet what a public function of this crate promises are equal. `Post` is the promise itself, as the contract in
-- the source states it. An equation leaves one answer, and tables that show one state are the same tables, also where a result goes with them.
use mathlib.Core.Path.{sym, ◌∙◌}
use Rattle.words.proofs.Once.{OneAnswer}
use Rattle.tables.proofs.Held.{shown-once}
use Rattle.meaning.proofs.Once.{gives-once, stepped-once}
use Rattle.services.proofs.call.call.Reads as call
use Rattle.services.proofs.effects.effect.Reads as effect
use Rattle.services.proofs.events.signal.Reads as signal
use Rattle.services.proofs.events.test_event.Reads as test-event
use Rattle.services.proofs.events.wait.Reads as wait

pub call-only : OneAnswer call.Post
call-only κs given r s end end' p q = stepped-once r s (p ∙ sym q)

pub effect-only : OneAnswer effect.Post
effect-only κs given r s end end' p q = gives-once p q

pub signal-only : OneAnswer signal.Post
signal-only κs given r s end end' p q = shown-once p q

pub test-event-only : OneAnswer test-event.Post
test-event-only κs given r s end end' p q = p ∙ sym q

pub wait-only : OneAnswer wait.Post
wait-only κs given r s end end' p q = shown-once p q
