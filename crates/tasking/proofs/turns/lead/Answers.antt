-- `turns::lead` meets its contract: the pointers are those of the queue with the task at its front.
use Rattle.tasking.proofs.turns.lead.Goals as goal

pub returns : goal.returns
returns c = let e = c.push-r.ensures in record { sound = e.sound; reads = rw e.lists }
