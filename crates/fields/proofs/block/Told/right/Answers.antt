-- A task block, free or used; the law of a free one is in ByPlace.
use Rattle.fields.proofs.ByPlace.{free-whole}
use Rattle.fields.proofs.block.Told.right.Goals as goal

pub returns-then-x-eq-FREE : goal.returns-then-x-eq-FREE
returns-then-x-eq-FREE c = rw c.free_right.ensures (search free-whole)
