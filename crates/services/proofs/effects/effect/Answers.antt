-- `effects::effect` meets its contract, arm by arm: first what each call asks, which its code gives, then that what it leaves is the deed of its code.
use mathlib.Core.Path.{refl}
use native.Mathlib.Omega.{arith}
use Rattle.words.specs.Words.{◌among◌}
use Rattle.calls.specs.Calls.{FREEMAIN, LINK, END, SCHEDULE, WAIT, SIGNAL, TEST-EVENT, DISPATCH-CHECK, READ, WRITE, CHECK, TIMER, IO-DONE, PROGRAM-CHECK, OPERATOR-START, needs_task}
use Rattle.meaning.specs.Services.{freemain, end, wait, signal, dispatch_check, check, timer, io_done, program_check, deeds, deed_of}
use Rattle.meaning.proofs.Deeds.{codes_of}
use Rattle.services.proofs.Coded.{NoneOf, running, to-link, to-schedule, to-wait, to-signal, to_read, to_write, to_start, same, done, never}
use Rattle.services.proofs.effects.effect.Goals as goal

-- ---- What each call asks.

pub freemain-requires : goal.freemain-requires
unfolding needs_task ◌among◌
freemain-requires c = running c.requires FREEMAIN refl c.in-1.is

pub link-requires : goal.link-requires
link-requires c = to-link c.requires c.in-5.is

pub end-requires : goal.end-requires
unfolding needs_task ◌among◌
end-requires c = running c.requires END refl c.in-6.is

pub schedule-requires : goal.schedule-requires
schedule-requires c = to-schedule c.requires c.in-7.is

pub wait-requires : goal.wait-requires
wait-requires c = to-wait c.requires c.in-8.is

pub signal-requires : goal.signal-requires
signal-requires c = to-signal c.requires c.in-9.is

pub dispatch_check-requires : goal.dispatch_check-requires
unfolding needs_task ◌among◌
dispatch_check-requires c = running c.requires DISPATCH-CHECK refl c.in-12.is

pub transfer-requires : goal.transfer-requires
transfer-requires c = to_read c.requires c.in-13.is

pub transfer-requires-in-14 : goal.transfer-requires-in-14
transfer-requires-in-14 c = to_write c.requires c.in-14.is

pub program_check-requires : goal.program_check-requires
unfolding needs_task ◌among◌
program_check-requires c = running c.requires PROGRAM-CHECK refl c.in-34.is

pub start-requires : goal.start-requires
start-requires c = to_start c.requires c.in-35.is

-- ---- What each leaves.

pub returns-in-1 : goal.returns-in-1
unfolding deeds deed_of freemain
returns-in-1 c = done c.requires FREEMAIN c.in-1.is (c.freemain.ensures c.args.c) refl c.one.ensures

pub returns-in-5 : goal.returns-in-5
unfolding deeds deed_of
returns-in-5 c = same c.requires LINK c.in-5.is c.link.ensures

pub returns-in-6 : goal.returns-in-6
unfolding deeds deed_of end
returns-in-6 c = done c.requires END c.in-6.is (c.end.ensures c.args.c) refl c.one-in-6.ensures

pub returns-in-7 : goal.returns-in-7
unfolding deeds deed_of
returns-in-7 c = same c.requires SCHEDULE c.in-7.is c.schedule.ensures

pub returns-in-8 : goal.returns-in-8
unfolding deeds deed_of wait
returns-in-8 c = done c.requires WAIT c.in-8.is c.wait.ensures refl c.one-in-8.ensures

pub returns-in-9 : goal.returns-in-9
unfolding deeds deed_of signal
returns-in-9 c = done c.requires SIGNAL c.in-9.is c.signal.ensures refl c.one-in-9.ensures

pub returns-in-10 : goal.returns-in-10
unfolding deeds deed_of
returns-in-10 c = same c.requires TEST-EVENT c.in-10.is c.tell.ensures

pub returns-in-12 : goal.returns-in-12
unfolding deeds deed_of dispatch_check
returns-in-12 c = done c.requires DISPATCH-CHECK c.in-12.is (c.dispatch_check.ensures c.args.c) refl c.one-in-12.ensures

pub returns-in-13 : goal.returns-in-13
unfolding deeds deed_of
returns-in-13 c = same c.requires READ c.in-13.is c.transfer.ensures

pub returns-in-14 : goal.returns-in-14
unfolding deeds deed_of
returns-in-14 c = same c.requires WRITE c.in-14.is c.transfer-in-14.ensures

pub returns-in-15 : goal.returns-in-15
unfolding deeds deed_of check
returns-in-15 c = done c.requires CHECK c.in-15.is c.check.ensures refl c.one-in-15.ensures

pub returns-in-32 : goal.returns-in-32
unfolding deeds deed_of timer
returns-in-32 c = done c.requires TIMER c.in-32.is (c.timer.ensures c.args.c) refl c.one-in-32.ensures

pub returns-in-33 : goal.returns-in-33
unfolding deeds deed_of io_done
returns-in-33 c = done c.requires IO-DONE c.in-33.is (c.io_done.ensures c.args.c) refl c.one-in-33.ensures

pub returns-in-34 : goal.returns-in-34
unfolding deeds deed_of program_check
returns-in-34 c = done c.requires PROGRAM-CHECK c.in-34.is (c.program_check.ensures c.args.c) refl c.one-in-34.ensures

pub returns-in-35 : goal.returns-in-35
unfolding deeds deed_of
returns-in-35 c = same c.requires OPERATOR-START c.in-35.is c.start.ensures

pub returns-in_default : goal.returns-in_default
unfolding deeds codes_of NoneOf
returns-in_default c = never c.requires (((((((((((((((tt, λ z. omega arith), λ z. omega arith), λ z. omega arith), λ z. omega arith), λ z. omega arith), λ z. omega arith), λ z. omega arith), λ z. omega arith), λ z. omega arith), λ z. omega arith), λ z. omega arith), λ z. omega arith), λ z. omega arith), λ z. omega arith), λ z. omega arith)
