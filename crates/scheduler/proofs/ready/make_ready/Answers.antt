-- `ready::make_ready` meets its contract, case by case: it needs no core, it gets no seat, or it is granted one.
use native.Mathlib.Omega.{arith}
use mathlib.Core.Path.{sym, ap, ◌∙◌}
use Rattle.image.specs.declared.Entry.{Entry}
use Rattle.threads.specs.Threads.{counts}
use Rattle.tables.specs.State.{State, read}
use Rattle.tables.proofs.Held.{loose-free}
use Rattle.scheduler.proofs.Granted.{needs-as, ready-now, ready-later, ready-seated, seat-start, granted-out}
use Rattle.scheduler.proofs.ready.make_ready.Goals as goal

pub put_in-requires : goal.put_in-requires
put_in-requires c =
    let p = c.requires in
    (loose-free _ p (rw c.entry_of-e.ensures (omega (arith, p.worst))), p.low)

pub returns-then-not-needs : goal.returns-then-not-needs
returns-then-not-needs c =
    let s = c in
    let e = c.entry_of-e.ensures in
    let n = needs-as (read s.args.t) s.args.k e c.needs.ensures ∙ c.if-not-needs.true in
    rw (ready-now (read s.args.t) s.args.k e n) c.put_in.ensures

pub seat-requires : goal.seat-requires
seat-requires c =
    let p = c.requires in
    (p.held.sound, rw c.entry_of-e.ensures p.worst)

pub overflow_add-level : goal.overflow_add-level
overflow_add-level c =
    let p = c.requires in
    rw c.entry_of-e.ensures (omega (arith, p.worst))

pub put_in-requires-in_default : goal.put_in-requires-in_default
put_in-requires-in_default c =
    let p = c.requires in
    (loose-free _ p (rw c.entry_of-e.ensures (omega (arith, p.worst))), p.low)

pub returns-in_default : goal.returns-in_default
returns-in_default c =
    let s = c in
    let e = c.entry_of-e.ensures in
    let n = needs-as (read s.args.t) s.args.k e c.needs.ensures ∙ c.if-not-needs.false in
    let f = sym c.seat.ensures ∙ c.in_default.is in
    rw (ready-later (read s.args.t) s.args.k e n f) c.put_in-in_default.ensures

pub grant-u-requires : goal.grant-u-requires
grant-u-requires c =
    let s = c in
    let e = c.entry_of-e.ensures in
    let h = seat-start (read s.args.t) s.args.k e (sym c.seat.ensures ∙ c.in-Some.is) in (
      record {
        low = s.requires.low;
        worst = rw e s.requires.worst;
        start = h.1;
        own-level = ap (λ (x : Entry). x.level) e;
        own-units = ap (λ (x : Entry). x.units) e;
        own-start = h.0;
      },
      s.requires.held.sound,
    )

pub put_in-requires-2 : goal.put_in-requires-2
put_in-requires-2 c =
    let s = c in
    let e = c.entry_of-e.ensures in
    let g = c.grant-u.ensures in
    let out = ap (λ (x : State). counts s.args.k x.queues) g.reads ∙ granted-out (read s.args.t) s.args.k s.args.k s.requires.out in
    (record { sound = g.sound; queue = rw e (omega (arith, s.requires.worst)); some = s.requires.some; low = omega (arith, s.requires.low); none = out }, s.requires.low)

pub returns : goal.returns
returns c =
    let s = c in
    let e = c.entry_of-e.ensures in
    let n = needs-as (read s.args.t) s.args.k e c.needs.ensures ∙ c.if-not-needs.false in
    let f = sym c.seat.ensures ∙ c.in-Some.is in
    rw (ready-seated (read s.args.t) s.args.k e n f, ← c.grant-u.ensures.reads) c.put_in-2.ensures
