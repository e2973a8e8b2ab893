-- `effects::tell` meets its contract: the tables stay, and the result is the event's.
use mathlib.Core.Path.{refl}
use Rattle.meaning.specs.Services.{test_event}
use Rattle.services.proofs.effects.tell.Goals as goal

pub returns : goal.returns
unfolding test_event
returns c = record { shows = record { sound = c.requires; reads = refl }; result = c.test_event.ensures }
