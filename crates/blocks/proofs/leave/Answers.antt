-- `blocks::leave` meets its contract: only the pointers change, by `remove`.
use Rattle.blocks.proofs.leave.Goals as goal

pub returns : goal.returns
returns c = let e = c.remove-h.ensures in record { sound = e.sound; reads = rw e.lists }
