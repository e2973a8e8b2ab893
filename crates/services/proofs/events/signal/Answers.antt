-- `events::signal` meets its contract: on, and all waiters are looked at; or off.
use Rattle.tables.specs.State.{read}
use Rattle.tasking.proofs.Ticks.{on_shape}
use Rattle.services.proofs.Known.{on-leaves, off-leaves}
use Rattle.services.proofs.events.signal.Goals as goal

pub wake_events-requires : goal.wake_events-requires
wake_events-requires c =
    let marked = c in
    let p = marked.requires in
    (p.0.pointers, rw (c.adding-then-c-eq1.ensures, marked.adding.ensures) (on_shape _ p.0.state.shape p.2))

pub returns-then-c-eq1 : goal.returns-then-c-eq1
returns-then-c-eq1 c =
    let on = c in
    let marked = on in
    let a = marked.args in
    rw (on-leaves (read a.t) a.c on.if-c-eq1.true, ← c.adding-then-c-eq1.ensures, ← marked.adding.ensures) c.wake_events.ensures

pub returns : goal.returns
returns c =
    let off = c in
    let marked = off in
    let p = marked in
    record { sound = p.requires.0.pointers; reads = rw (off-leaves (read p.args.t) p.args.c off.if-c-eq1.false, ← c.dropping.ensures, ← marked.adding.ensures) }
