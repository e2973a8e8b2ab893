-- `core_units::seat` meets its contract: the first of the core queue says whether anyone waits.
use mathlib.Core.Path.{sym, ◌∙◌}
use native.Mathlib.Omega.{arith}
use Rattle.tables.specs.State.{read, queue, core_queue}
use Rattle.tables.proofs.Held.{first-none, first-filled}
use Rattle.scheduler.specs.Core.{seat_of}
use Rattle.scheduler.proofs.core_units.seat.Goals as goal

pub returns-then-first_of-ne0 : goal.returns-then-first_of-ne0
unfolding seat_of
returns-then-first_of-ne0 c =
    let s = c in
    rw (first-filled (queue (read s.args.t) (core_queue s.args.level)) (λ z. c.if-first_of-ne0.true (c.first_of.ensures ∙ z)))

pub returns : goal.returns
unfolding seat_of
returns c =
    let s = c in
    let e = c.first_of.ensures in
    rw (first-none {q = core_queue s.args.level} s.requires.0 (omega arith) (sym e ∙ c.if-first_of-ne0.false)) c.find.ensures
