-- Needing core, the best level and dispatching, case by case: what each gives where its tests have gone one way.
use mathlib.Core.Bool.{Bool, true, false}
use mathlib.Core.Path.{◌≡◌, refl}
use mathlib.Core.Logic.{◌≢◌, ⊎_elim}
use Prim.Native.Nat.{ℕ, ◌≤◌, ◌<◌}
use native.Mathlib.Omega.{arith}
use lib.Dec.{eqb, ltb}
use borrow.Author.Tests.{eqb-true, ltb-true, eq-eqb, ne_eqb, lt-ltb}
use Rattle.words.specs.Words.{is_empty}
use Rattle.tables.specs.State.{State, task_at, queue, units_of}
use Rattle.meaning.specs.Ready.{needs_core, best_ready, runs_first, dispatched}
use Rattle.words.proofs.Truth.{tested, both}

-- ---- Needing core.
pub needs : (s : State) (k : ℕ) → units_of s k ≢ 0 → (task_at s k).core ≡ 0 → needs_core s k ≡ true
unfolding needs_core
needs s k n e = rw (eq-eqb _ _ e, lt-ltb _ _ (let l : 0 < units_of s k = omega arith in l))

pub needs-true : (s : State) (k : ℕ) → needs_core s k ≡ true → (1 ≤ units_of s k) × ((task_at s k).core ≡ 0)
unfolding needs_core
needs-true s k e = let p = both (ltb 0 (units_of s k)) (eqb (task_at s k).core 0) e in (ltb-true _ _ p.0, eqb-true _ _ p.1)

-- ---- The best level that is ready.
module _ (s : State) where
  pub best-1 : is_empty (queue s 1) ≡ false → best_ready s ≡ 1
  unfolding best_ready
  best-1 a = rw a

  pub best-2 : is_empty (queue s 1) ≡ true → is_empty (queue s 2) ≡ false → best_ready s ≡ 2
  unfolding best_ready
  best-2 a b = rw (a, b)

  pub best-3 : is_empty (queue s 1) ≡ true → is_empty (queue s 2) ≡ true → is_empty (queue s 3) ≡ false → best_ready s ≡ 3
  unfolding best_ready
  best-3 a b c = rw (a, b, c)

  pub best-0 : is_empty (queue s 1) ≡ true → is_empty (queue s 2) ≡ true → is_empty (queue s 3) ≡ true → best_ready s ≡ 0
  unfolding best_ready
  best-0 a b c = rw (a, b, c)

  -- it is a level, and one that has a ready task
  pub best-some : best_ready s ≢ 0 → (1 ≤ best_ready s) × (best_ready s ≤ 3) × (is_empty (queue s (best_ready s)) ≡ false)
  best-some n = go (is_empty (queue s 1)) (is_empty (queue s 2)) (is_empty (queue s 3)) refl refl refl
    where
      at : (l : ℕ) → best_ready s ≡ l → 1 ≤ l → l ≤ 3 → is_empty (queue s l) ≡ false
          → (1 ≤ best_ready s) × (best_ready s ≤ 3) × (is_empty (queue s (best_ready s)) ≡ false)
      at l e lo hi f = rw e (lo, hi, f)

      go : (a b c : Bool) → is_empty (queue s 1) ≡ a → is_empty (queue s 2) ≡ b → is_empty (queue s 3) ≡ c
          → (1 ≤ best_ready s) × (best_ready s ≤ 3) × (is_empty (queue s (best_ready s)) ≡ false)
      go false b c e f g = at 1 (best-1 e) (omega arith) (omega arith) e
      go true false c e f g = at 2 (best-2 e f) (omega arith) (omega arith) f
      go true true false e f g = at 3 (best-3 e f g) (omega arith) (omega arith) g
      go true true true e f g = absurd (n (best-0 e f g))

  -- ---- Dispatching.
  pub kept : s.running ≢ 0 → dispatched s ≡ s
  unfolding dispatched
  kept n = rw (ne_eqb _ _ n)

  pub none-ready : s.running ≡ 0 → best_ready s ≡ 0 → dispatched s ≡ s
  unfolding dispatched
  none-ready r e = rw (eq-eqb _ _ r, eq-eqb _ _ e)

  pub dispatches : s.running ≡ 0 → best_ready s ≢ 0 → dispatched s ≡ runs_first s (best_ready s)
  unfolding dispatched
  dispatches r n = rw (eq-eqb _ _ r, ne_eqb _ _ n)

  -- what holds of s, and where a task is dispatched of the state with that task running, holds after the dispatch
  pub by-dispatch : (P : State → Type 0) → P s → (s.running ≡ 0 → best_ready s ≢ 0 → P (runs_first s (best_ready s))) → P (dispatched s)
  by-dispatch P h f =
      ⊎_elim
      (λ z. ⊎_elim (λ b. rw (none-ready z.1 b.1) h) (λ b. rw (dispatches z.1 b.1) (f z.1 b.1)) (tested (best_ready s) 0))
      (λ z. rw (kept z.1) h) (tested s.running 0)
