-- No second answer: any two results that both meet what a public function of this crate promises are equal. `Post` is the promise itself, as the contract in
-- the source states it. An equation leaves one answer, and tables that show one state are the same tables.
use mathlib.Core.Path.{sym, ◌∙◌}
use Rattle.words.proofs.Once.{OneAnswer}
use Rattle.tables.proofs.Held.{shown-once}
use Rattle.blocks.proofs.moving.Reads as moving
use Rattle.blocks.proofs.entry_of.Reads as entry_of
use Rattle.blocks.proofs.first_of.Reads as first_of
use Rattle.blocks.proofs.join.Reads as join
use Rattle.blocks.proofs.leave.Reads as leave
use Rattle.blocks.proofs.free.lowest.Reads as lowest
use Rattle.blocks.proofs.free.create.Reads as create
use Rattle.blocks.proofs.free.free_task.Reads as free-task
use Rattle.blocks.proofs.free.free_request.Reads as free-request
use Rattle.blocks.proofs.free.free_done.Reads as free-done
use Rattle.blocks.proofs.pending.pending.Reads as pending

pub moving-only : OneAnswer moving.Post
moving-only κs given r s end end' p q = p ∙ sym q

pub entry-of-only : OneAnswer entry_of.Post
entry-of-only κs given r s end end' p q = p ∙ sym q

pub first-of-only : OneAnswer first_of.Post
first-of-only κs given r s end end' p q = p ∙ sym q

pub join-only : OneAnswer join.Post
join-only κs given r s end end' p q = shown-once p q

pub leave-only : OneAnswer leave.Post
leave-only κs given r s end end' p q = shown-once p q

pub lowest-only : OneAnswer lowest.Post
lowest-only κs given r s end end' p q = p ∙ sym q

pub create-only : OneAnswer create.Post
create-only κs given r s end end' p q = shown-once p q

pub free-task-only : OneAnswer free-task.Post
free-task-only κs given r s end end' p q = shown-once p q

pub free-request-only : OneAnswer free-request.Post
free-request-only κs given r s end end' p q = shown-once p q

pub free-done-only : OneAnswer free-done.Post
free-done-only κs given r s end end' p q = shown-once p q

pub pending-only : OneAnswer pending.Post
pending-only κs given r s end end' p q = p ∙ sym q
