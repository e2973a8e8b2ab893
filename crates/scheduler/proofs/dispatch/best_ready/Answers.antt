-- `dispatch::best_ready` meets its contract: the first of each level's queue, in turn, says whether the queue is empty.
use Rattle.std.specs.Prelude.{◌≡◌, ℕ, zero, suc, ◌<◌, ◌≤◌, true, false}
use Rattle.threads.specs.Threads.{hd}
use mathlib.Core.Path.{sym, ap, ◌∙◌}
use mathlib.Core.Logic.{⊎_elim}
use native.Mathlib.Omega.{arith}
use Rattle.words.specs.Words.{is_empty}
use Rattle.words.proofs.Truth.{tested}
use Rattle.tables.proofs.Held.{first-none, first-filled}
use Rattle.tables.specs.State.{State, read, queue}
use Rattle.meaning.specs.Ready.{best_ready}
use Rattle.lawful.proofs.Ready.Cases.{best-0, best-1, best-2, best-3}
use Rattle.scheduler.proofs.dispatch.best_ready.Goals as goal

-- the first level that has a ready task is the best
best_at : (s : State) (l : ℕ) → 1 ≤ l → l ≤ 3 → ((q : ℕ) → 1 ≤ q → q < l → is_empty (queue s q) ≡ true) → is_empty (queue s l) ≡ false → l ≡ best_ready s
best_at s zero a b f g = absurd (omega (arith, a))
best_at s (suc zero) a b f g = sym (best-1 s g)
best_at s (suc (suc zero)) a b f g = sym (best-2 s (f 1 (omega arith) (omega arith)) g)
best_at s (suc (suc (suc zero))) a b f g = sym (best-3 s (f 1 (omega arith) (omega arith)) (f 2 (omega arith) (omega arith)) g)
best_at s (suc (suc (suc (suc l)))) a b f g = absurd (omega (arith, b))

pub returns-then-first_of-ne0 : goal.returns-then-first_of-ne0
returns-then-first_of-ne0 c =
    let l = c.loop-level in
    best_at (read c.args.t) l.level (omega (arith, l.auto.level)) (omega (arith, c.loop-level-test.true)) l.invariant
    (first-filled (queue (read c.args.t) l.level) (λ z. c.if-first_of-ne0.true (c.first_of.ensures ∙ z)))

pub loop-level-preserved : goal.loop-level-preserved
loop-level-preserved c = λ q a b.
    let l = c.loop-level in
    ⊎_elim
    (λ e. first-none {q = q} c.requires.sound (omega (arith, e.1, c.loop-level-test.true)) (ap (λ (i : ℕ). hd (queue (read c.args.t) i)) e.1 ∙ sym c.first_of.ensures ∙ c.if-first_of-ne0.false))
    (λ e. l.invariant q a (omega (arith, b, e.1)))
    (tested q l.level)

pub returns : goal.returns
returns c =
    let f = c.loop-level.invariant in
    sym (best-0 (read c.args.t) (f 1 (omega arith) (omega (arith, c.loop-level-test.false))) (f 2 (omega arith) (omega (arith, c.loop-level-test.false))) (f 3 (omega arith) (omega (arith, c.loop-level-test.false))))
