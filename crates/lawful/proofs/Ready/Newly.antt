-- "each task newly dispatched is the first of the best level that is ready": a dispatch leaves who runs, or runs such a one. By the cases of the best level.
use mathlib.Core.Bool.{Bool, true, false}
use mathlib.Core.Path.{◌≡◌, refl, ap}
use mathlib.Core.Logic.{◌≢◌, ◌⊎◌, inl, inr, ⊎_elim}
use mathlib.Core.List.{[]}
use Prim.Native.Nat.{ℕ, ◌≤◌, ◌<◌}
use native.Mathlib.Omega.{arith}
use Rattle.threads.specs.Threads.{hd}
use Rattle.words.proofs.Truth.{tested}
use Rattle.words.specs.Words.{is_empty}
use Rattle.tables.specs.State.{State, ready_queue, queue}
use Rattle.meaning.specs.Ready.{best_ready, runs_first, dispatched}
use Rattle.lawful.specs.Reached.{First}
use Rattle.threads.proofs.Tests.{emptied, filled}
use Rattle.lawful.proofs.Ready.Cases.{best-0, best-1, best-2, best-3, kept, none-ready, dispatches}

module _ (s : State) where
  at_level : (level : ℕ) → best_ready s ≡ level → 1 ≤ level → level ≤ 3 → is_empty (queue s level) ≡ false → ((l : ℕ) → 1 ≤ l → l < level → queue s l ≡ [])
      → First s (hd (queue s (best_ready s)))
  at_level level e lo hi f b =
      let p = filled (queue s level) f in
      rw e (record { level = level; best = lo; worst = hi; behind = p.0; first = p.1; better = b })

  pub first-best : best_ready s ≢ 0 → First s (hd (queue s (best_ready s)))
  first-best n = go (is_empty (queue s 1)) (is_empty (queue s 2)) (is_empty (queue s 3)) refl refl refl
    where
      go : (a b c : Bool) → is_empty (queue s 1) ≡ a → is_empty (queue s 2) ≡ b → is_empty (queue s 3) ≡ c → First s (hd (queue s (best_ready s)))
      go false b c e f g = at_level 1 (best-1 s e) (omega arith) (omega arith) e (λ l x y. absurd (omega (arith, x, y)))
      go true false c e f g =
          at_level 2 (best-2 s e f) (omega arith) (omega arith) f (λ l x y. let i : l ≡ 1 = omega (arith, x, y) in rw i (emptied (queue s 1) e))
      go true true false e f g =
          at_level 3 (best-3 s e f g) (omega arith) (omega arith) g
          (λ l x y. ⊎_elim (λ i. rw i.1 (emptied (queue s 1) e)) (λ i. let j : l ≡ 2 = omega (arith, x, y, i.1) in rw j (emptied (queue s 2) f)) (tested l 1))
      go true true true e f g = absurd (n (best-0 s e f g))

  runs-hd : (level : ℕ) → (runs_first s level).running ≡ hd (queue s (ready_queue level))
  unfolding runs_first
  runs-hd level = refl

  pub newly-first : ((dispatched s).running ≡ s.running) ⊎ ((s.running ≡ 0) × First s (dispatched s).running)
  newly-first =
      ⊎_elim
      (λ z. ⊎_elim (λ b. inl (ap (λ (x : State). x.running) (none-ready s z.1 b.1)))
      (λ b. inr (z.1, rw (dispatches s z.1 b.1, runs-hd (best_ready s)) (first-best b.1))) (tested (best_ready s) 0))
      (λ z. inl (ap (λ (x : State). x.running) (kept s z.1))) (tested s.running 0)
