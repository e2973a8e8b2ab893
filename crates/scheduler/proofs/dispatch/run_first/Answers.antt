-- `dispatch::run_first` meets its contract: the first leaves its queue, and its block is moved.
use mathlib.Core.Path.{sym, ◌∙◌}
use native.Mathlib.Omega.{arith}
use Rattle.tables.specs.State.{read}
use Rattle.tables.proofs.Held.{first_member, first-low}
use Rattle.scheduler.proofs.Dispatched.{runs}
use Rattle.scheduler.proofs.dispatch.run_first.Goals as goal

pub leave-r-requires : goal.leave-r-requires
leave-r-requires c =
    let p = c.requires in
    first_member p.0.sound (omega arith) c.first_of-k.ensures (λ z. p.3 (sym c.first_of-k.ensures ∙ z))

pub bounds-r-k : goal.bounds-r-k
bounds-r-k c =
    let p = c.requires in
    let e = c.first_of-k.ensures in
    first-low p.0 (omega arith) e (λ z. p.3 (sym e ∙ z))

pub bounds-r-k-2 : goal.bounds-r-k-2
bounds-r-k-2 c =
    let p = c.requires in
    let e = c.first_of-k.ensures in
    first-low p.0 (omega arith) e (λ z. p.3 (sym e ∙ z))

pub returns : goal.returns
returns c =
    let s = c in
    let l = c.leave-r.ensures in
    record {
      sound = l.sound;
      reads = runs (read s.args.t) _ s.args.level c.first_of-k.ensures l.reads c.moving.ensures;
    }
