-- `dispatch::dispatch` meets its contract, case by case: a task runs, none is ready, or the first of the best level runs.
use mathlib.Core.Path.{sym, ◌∙◌}
use native.Mathlib.Omega.{arith}
use Rattle.tables.specs.State.{read}
use Rattle.tables.proofs.Held.{first_some}
use Rattle.lawful.proofs.Ready.Cases.{best-some, kept, none-ready, dispatches}
use Rattle.scheduler.proofs.dispatch.dispatch.Goals as goal

pub returns-then-t-ne0 : goal.returns-then-t-ne0
returns-then-t-ne0 c = let s = c in record { sound = s.requires.sound; reads = sym (kept (read s.args.t) c.if-t-ne0.true) }

pub returns-then-level-eq0 : goal.returns-then-level-eq0
returns-then-level-eq0 c =
    let s = c in
    let none = sym c.best_ready-level.ensures ∙ c.if-level-eq0.true in
    record { sound = s.requires.sound; reads = sym (none-ready (read s.args.t) c.if-t-ne0.false none) }

pub run_first-requires : goal.run_first-requires
run_first-requires c =
    let s = c in
    let e = c.best_ready-level.ensures in
    let b = best-some (read s.args.t) (λ z. c.if-level-eq0.false (e ∙ z)) in
    rw e (s.requires, b.0, b.1, first_some s.requires.sound (omega (arith, b.1)) b.2)

pub returns : goal.returns
returns c =
    let s = c in
    let e = c.best_ready-level.ensures in
    rw (dispatches (read s.args.t) c.if-t-ne0.false (λ z. c.if-level-eq0.false (e ∙ z)), ← e) c.run_first.ensures
