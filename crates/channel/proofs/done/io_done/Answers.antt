-- `done::io_done` meets its contract, case by case: its owner in CHECK is made ready, its owner that is ending finishes, or the request is marked done.
use native.Mathlib.Omega.{arith}
use Rattle.tables.specs.State.{read}
use Rattle.lawful.proofs.Each.IoDone.{owner-used}
use Rattle.scheduler.proofs.Shaped.{shape-held}
use Rattle.channel.proofs.Transferred.{for-checker, for-ending, otherwise, after-leaving, can-be-ready, after-ready, can-finish, after-finishing}
use Rattle.channel.proofs.done.io_done.Goals as goal

pub overflow_cast-x : goal.overflow_cast-x
overflow_cast-x c =
    let p = c.requires in
    omega (arith, (owner-used p.1 p.2).1)

pub offset_bounds-t-k : goal.offset_bounds-t-k
offset_bounds-t-k c =
    let p = c.requires in
    omega (arith, (owner-used p.1 p.2).1)

pub bounds-t-k : goal.bounds-t-k
bounds-t-k c =
    let p = c.requires in
    omega (arith, (owner-used p.1 p.2).1)

pub make_ready-ready-requires : goal.make_ready-ready-requires
make_ready-ready-requires c =
    let p = c.requires in
    can-be-ready p.1 p.2 c.if-x-r.true c.leave_channel-left.ensures c.free_request-freed.ensures

pub next-requires : goal.next-requires
next-requires c =
    let p = c.requires in
    let l = c.leave_channel-left.ensures in
    after-ready p.1 p.2 c.if-x-r.true l c.free_request-freed.ensures c.make_ready-ready.ensures

pub returns-then-x-r : goal.returns-then-x-r
returns-then-x-r c =
    λ d.
    let s = c in
    let l = c.leave_channel-left.ensures in
    let w = for-checker (read s.args.t) d c.if-x-r.true in
    rw (w, ← l.reads, ← c.free_request-freed.ensures.reads, ← c.make_ready-ready.ensures.reads) c.next.ensures

pub finish-over-requires : goal.finish-over-requires
finish-over-requires c =
    let p = c.requires in
    let l = c.leave_channel-left.ensures in
    let w = rw (c.pending.ensures, l.reads) at c.if-x-pending.true in
    can-finish p.1 p.2 w l c.free_request-freed-then-x-pending.ensures

pub next-requires-then-x-pending : goal.next-requires-then-x-pending
next-requires-then-x-pending c =
    let p = c.requires in
    let l = c.leave_channel-left.ensures in
    let w = rw (c.pending.ensures, l.reads) at c.if-x-pending.true in
    after-finishing p.1 p.2 w l c.free_request-freed-then-x-pending.ensures c.finish-over.ensures

pub returns-then-x-pending : goal.returns-then-x-pending
returns-then-x-pending c =
    λ d.
    let s = c in
    let l = c.leave_channel-left.ensures in
    let e = rw (c.pending.ensures, l.reads) at c.if-x-pending.true in
    let w = for-ending (read s.args.t) d c.if-x-r.false e in
    rw (w, ← l.reads, ← c.free_request-freed-then-x-pending.ensures.reads, ← c.finish-over.ensures.reads) c.next-then-x-pending.ensures

pub next-requires-2 : goal.next-requires-2
next-requires-2 c =
    let p = c.requires in
    let l = c.leave_channel-left.ensures in
    after-leaving (shape-held p.0 p.1.shape).fit l

pub returns : goal.returns
returns c =
    λ d.
    let s = c in
    let l = c.leave_channel-left.ensures in
    let e = rw (c.pending.ensures, l.reads) at c.if-x-pending.false in
    let w = otherwise (read s.args.t) d c.if-x-r.false e in
    rw (w, ← l.reads) c.next-2.ensures
