-- `starting::newcomer` meets its contract: the lowest free block is taken.
use Rattle.tasking.proofs.Starts.{block-low}
use Rattle.tasking.proofs.starting.newcomer.Goals as goal

pub create-requires : goal.create-requires
create-requires c =
    let p = c.requires in
    (p.lawful.pointers, rw c.lowest-k.ensures (block-low p))

pub returns : goal.returns
returns c =
    let b = c.lowest-k.ensures in
    record { shows = rw (← b) c.create.ensures; result = b }
