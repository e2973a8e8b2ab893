-- `wait::wait_for_events` meets its contract: it joins the event queue with its block awaiting.
use Rattle.meaning.specs.Conditions.{awaits_events}
use Rattle.waiting.proofs.wait.wait_for_events.Goals as goal

pub returns : goal.returns
unfolding awaits_events
returns c = rw (← c.awaiting_events-x.ensures) c.join.ensures
