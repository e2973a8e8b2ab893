-- No second answer: any two results that both meet what a public function of this crate promises are equal. `Post` is the promise itself, as the contract in
-- the source states it. Tables that show one state are the same tables, also where they do so for every call and where a result goes with them.
use Rattle.words.proofs.Once.{OneAnswer}
use Rattle.tables.proofs.Held.{shown-once}
use Rattle.meaning.proofs.Once.{gives-once, call-once}
use Rattle.tasking.proofs.starting.start.Reads as start
use Rattle.tasking.proofs.starting.schedule.Reads as schedule
use Rattle.tasking.proofs.starting.stop.Reads as stop
use Rattle.tasking.proofs.starting.link.Reads as link
use Rattle.tasking.proofs.stopping.freemain.Reads as freemain
use Rattle.tasking.proofs.stopping.end.Reads as end
use Rattle.tasking.proofs.stopping.program_check.Reads as program-check
use Rattle.tasking.proofs.turns.dispatch_check.Reads as dispatch-check
use Rattle.tasking.proofs.turns.timer.Reads as timer

pub start-only : OneAnswer start.Post
start-only κs given r s end end' p q = gives-once p q

pub schedule-only : OneAnswer schedule.Post
schedule-only κs given r s end end' p q = gives-once p q

pub stop-only : OneAnswer stop.Post
stop-only κs given r s end end' p q = shown-once p q

pub link-only : OneAnswer link.Post
link-only κs given r s end end' p q = gives-once p q

pub freemain-only : OneAnswer freemain.Post
freemain-only κs given r s end end' p q = call-once p q

pub end-only : OneAnswer end.Post
end-only κs given r s end end' p q = call-once p q

pub program-check-only : OneAnswer program-check.Post
program-check-only κs given r s end end' p q = call-once p q

pub dispatch-check-only : OneAnswer dispatch-check.Post
dispatch-check-only κs given r s end end' p q = call-once p q

pub timer-only : OneAnswer timer.Post
timer-only κs given r s end end' p q = call-once p q
