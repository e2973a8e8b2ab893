-- `blocks::join` meets its contract: the pointers change by `append`, and the block by a store.
use Rattle.blocks.proofs.join.Goals as goal

pub returns : goal.returns
returns c = let e = c.append-h.ensures in record { sound = e.sound; reads = rw e.lists }
