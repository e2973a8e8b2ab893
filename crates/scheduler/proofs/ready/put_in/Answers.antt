-- `ready::put_in` meets its contract: it joins with its block moved.
use Rattle.scheduler.proofs.ready.put_in.Goals as goal

pub returns : goal.returns
returns c = rw c.moving-x.ensures at c.join.ensures
