-- `starting::start` meets its contract: the new task is made ready.
use Rattle.meaning.specs.Services.{operator_start}
use Rattle.tasking.proofs.Starts.{new-loose}
use Rattle.tasking.proofs.starting.start.Goals as goal

pub make_ready-requires : goal.make_ready-requires
make_ready-requires c = let e = c.newcomer-fresh.ensures in rw e.result (new-loose c.requires e.shows)

pub returns : goal.returns
unfolding operator_start
returns c =
    let e = c.newcomer-fresh.ensures in
    record { shows = rw (← e.shows.reads, ← e.result) c.make_ready.ensures; result = e.result }
