-- What SIGNAL leaves by its value, and what TEST EVENT answers by what is known of the event: the cases of the two definitions, each with the fact that it asks for.
use mathlib.Core.Bool.{true, false}
use mathlib.Core.Path.{◌≡◌}
use mathlib.Core.Logic.{◌≢◌}
use borrow.Author.Tests.{eq-eqb, ne_eqb}
use Rattle.words.specs.Words.{each, has}
use Rattle.tables.specs.State.{State, event_queue, queue}
use Rattle.calls.specs.declared.Call.{Call}
use Rattle.meaning.specs.Services.{woken, signal, test_event}
use Rattle.lawful.proofs.Each.Signal.{told-on, told-off}

module _ (s : State) (c : Call) where
  pub on-leaves : c.value ≡ 1 → (signal s c).state ≡ each woken (queue s event_queue) (told-on s c.number)
  unfolding signal
  on-leaves z = rw (eq-eqb c.value 1 z)

  pub off-leaves : c.value ≢ 1 → (signal s c).state ≡ told-off s c.number
  unfolding signal
  off-leaves z = rw (ne_eqb c.value 1 z)

  pub answers-never : has s.signalled c.number ≡ false → 3 ≡ (test_event s c).result
  unfolding test_event
  answers-never m = rw m

  pub answers-on : has s.signalled c.number ≡ true → has s.on c.number ≡ true → 2 ≡ (test_event s c).result
  unfolding test_event
  answers-on m o = rw (m, o)

  pub answers-off : has s.signalled c.number ≡ true → has s.on c.number ≡ false → 1 ≡ (test_event s c).result
  unfolding test_event
  answers-off m o = rw (m, o)
