-- `events::wait` meets its contract: the caller goes on, or it is in hand and waits.
use borrow.Author.Rules.{rules}
use mathlib.Core.Path.{sym, ◌∙◌}
use Rattle.meaning.specs.Services.{wait}
use Rattle.meaning.specs.Conditions.{due_of}
use Rattle.lawful.proofs.Blocks.Leave.{stop}
use Rattle.scheduler.proofs.Shaped.{hand-loose}
use Rattle.tasking.proofs.Starts.{due-low}
use Rattle.services.proofs.events.wait.Goals as goal

pub returns-then-holds : goal.returns-then-holds
unfolding wait
returns-then-holds c = record { sound = c.requires.0.pointers; reads = rw (sym c.holds.ensures ∙ c.if-holds.true) }

pub wait_for-requires : goal.wait_for-requires
unfolding due_of
wait_for-requires c =
    let p = c.requires in
    (hand-loose p.0.pointers (stop p.0.state.shape p.1), due-low _ _ p.2 (search rules) (sym c.if-holds.false ∙ c.holds.ensures))

pub returns : goal.returns
unfolding wait
returns c = rw (sym c.holds.ensures ∙ c.if-holds.false) c.wait_for.ensures
