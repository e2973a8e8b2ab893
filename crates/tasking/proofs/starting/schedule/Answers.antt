-- `starting::schedule` meets its contract: the new task is made ready where the condition holds, and else waits.
use borrow.Author.Rules.{rules}
use mathlib.Core.Path.{sym, ◌∙◌}
use Rattle.meaning.specs.Services.{schedule}
use Rattle.tasking.proofs.Starts.{new-loose, new-waits}
use Rattle.tasking.proofs.starting.schedule.Goals as goal

pub make_ready-tables-requires : goal.make_ready-tables-requires
make_ready-tables-requires c = let e = c.newcomer-fresh.ensures in rw e.result (new-loose c.requires.0 e.shows)

pub wait_for-tables-requires : goal.wait_for-tables-requires
wait_for-tables-requires c =
    let e = c.newcomer-fresh.ensures in
    let p = c.requires in
    rw e.result (new-waits p.0 e.shows p.1 (search rules) (sym c.if-holds.false ∙ c.holds.ensures))

pub returns-then-holds : goal.returns-then-holds
unfolding schedule
returns-then-holds c =
    let e = c.newcomer-fresh.ensures in
    record { shows = rw (← c.holds.ensures, c.if-holds.true, ← e.shows.reads, ← e.result) c.make_ready-tables.ensures; result = e.result }

pub returns-else-holds : goal.returns-else-holds
unfolding schedule
returns-else-holds c =
    let e = c.newcomer-fresh.ensures in
    record { shows = rw (← c.holds.ensures, c.if-holds.false, ← e.shows.reads, ← e.result) c.wait_for-tables.ensures; result = e.result }
