-- `starting::link` meets its contract: the child is made, the caller put in LINK, the child made ready.
use Rattle.meaning.specs.Services.{link}
use Rattle.tasking.proofs.Starts.{child-loose, child-running}
use Rattle.tasking.proofs.starting.link.Goals as goal

pub stop-linked-requires : goal.stop-linked-requires
stop-linked-requires c = let e = c.newcomer-child.ensures.shows in (e.sound, child-running c.requires.0 _ _ e)

pub make_ready-requires : goal.make_ready-requires
make_ready-requires c =
    let e = c.newcomer-child.ensures in
    let p = c.requires in
    rw e.result (child-loose p.0 p.1 (rw e.shows.reads at c.stop-linked.ensures))

pub returns : goal.returns
unfolding link
returns c =
    let e = c.newcomer-child.ensures in
    record { shows = rw (← e.shows.reads, ← e.result, ← c.stop-linked.ensures.reads) c.make_ready.ensures; result = e.result }
