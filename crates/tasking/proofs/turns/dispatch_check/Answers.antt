-- `turns::dispatch_check` meets its contract: a strictly better level is ready, or none is.
use mathlib.Core.Path.{ap}
use Rattle.image.specs.declared.Entry.{Entry}
use Rattle.meaning.specs.Services.{dispatch_check}
use Rattle.scheduler.proofs.Shaped.{shape-held}
use Rattle.tasking.proofs.Yields.{caller-low, caller-program, can-lead}
use Rattle.tasking.proofs.turns.dispatch_check.Goals as goal

pub entry_of-e-requires : goal.entry_of-e-requires
entry_of-e-requires c =
    let p = c.requires in
    (caller-low p.0 p.1, caller-program p.0 p.1)

pub best_ready-best-requires : goal.best_ready-best-requires
best_ready-best-requires c = shape-held c.requires.0.pointers c.requires.0.state.shape

pub stop-stopped-requires : goal.stop-stopped-requires
stop-stopped-requires c =
    let p = c.requires in
    (p.0.pointers, caller-low p.0 p.1)

pub lead-requires : goal.lead-requires
lead-requires c =
    let p = c.requires in
    rw c.entry_of-e.ensures (can-lead p.0 p.1 c.stop-stopped.ensures)

pub returns-then-best-e : goal.returns-then-best-e
unfolding dispatch_check
returns-then-best-e c =
    λ d.
    let e = c.entry_of-e.ensures in
    rw (← c.best_ready-best.ensures, ← ap (λ (x : Entry). x.level) e, c.if-best-e.true, ← c.stop-stopped.ensures.reads) c.lead.ensures

pub returns : goal.returns
unfolding dispatch_check
returns c =
    λ d.
    let e = c.entry_of-e.ensures in
    record { sound = c.requires.0.pointers; reads = rw (← c.best_ready-best.ensures, ← ap (λ (x : Entry). x.level) e, c.if-best-e.false) }
