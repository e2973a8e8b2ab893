-- `events::test_event` meets its contract: the event was never signalled, or it is on, or it is off.
use mathlib.Core.Path.{sym, ◌∙◌}
use Rattle.services.proofs.Known.{answers-never, answers-on, answers-off}
use Rattle.services.proofs.events.test_event.Goals as goal

pub returns-then-not-has : goal.returns-then-not-has
returns-then-not-has c = answers-never _ _ (sym c.has.ensures ∙ c.if-not-has.true)

pub returns-then-has : goal.returns-then-has
returns-then-has c =
    let signalled = c in
    answers-on _ _ (sym signalled.has.ensures ∙ signalled.if-not-has.false) (sym c.has-2.ensures ∙ c.if-has.true)

pub returns-else-has : goal.returns-else-has
returns-else-has c =
    let signalled = c in
    answers-off _ _ (sym signalled.has.ensures ∙ signalled.if-not-has.false) (sym c.has-2.ensures ∙ c.if-has.false)
