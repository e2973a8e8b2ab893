-- No second answer: any two results that both meet what a public function of this crate promises are equal. `Post` is the promise itself, as the contract in
-- the source states it. An equation leaves one answer, and tables that show one state are the same tables.
use mathlib.Core.Path.{sym, ◌∙◌}
use Rattle.words.proofs.Once.{OneAnswer}
use Rattle.tables.proofs.Held.{shown-once}
use Rattle.scheduler.proofs.core_units.needs.Reads as needs
use Rattle.scheduler.proofs.core_units.seat.Reads as seat
use Rattle.scheduler.proofs.core_units.grant.Reads as grant
use Rattle.scheduler.proofs.dispatch.best_ready.Reads as best-ready
use Rattle.scheduler.proofs.dispatch.run_first.Reads as run-first
use Rattle.scheduler.proofs.dispatch.dispatch.Reads as dispatch
use Rattle.scheduler.proofs.ready.put_in.Reads as put_in
use Rattle.scheduler.proofs.ready.make_ready.Reads as make-ready
use Rattle.scheduler.proofs.serve.serve_one.Reads as serve-one
use Rattle.scheduler.proofs.serve.serve.Reads as serve
use Rattle.scheduler.proofs.serve.give_back.Reads as give-back

pub needs-only : OneAnswer needs.Post
needs-only κs given r s end end' p q = p ∙ sym q

pub seat-only : OneAnswer seat.Post
seat-only κs given r s end end' p q = p ∙ sym q

pub grant-only : OneAnswer grant.Post
grant-only κs given r s end end' p q = shown-once p q

pub best-ready-only : OneAnswer best-ready.Post
best-ready-only κs given r s end end' p q = p ∙ sym q

pub run-first-only : OneAnswer run-first.Post
run-first-only κs given r s end end' p q = shown-once p q

pub dispatch-only : OneAnswer dispatch.Post
dispatch-only κs given r s end end' p q = shown-once p q

pub put-in-only : OneAnswer put_in.Post
put-in-only κs given r s end end' p q = shown-once p q

pub make-ready-only : OneAnswer make-ready.Post
make-ready-only κs given r s end end' p q = shown-once p q

pub serve-one-only : OneAnswer serve-one.Post
serve-one-only κs given r s end end' p q = shown-once p q

pub serve-only : OneAnswer serve.Post
serve-only κs given r s end end' p q = shown-once p q

pub give-back-only : OneAnswer give-back.Post
give-back-only κs given r s end end' p q = shown-once p q
