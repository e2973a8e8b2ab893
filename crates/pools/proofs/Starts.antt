-- `start_of`, by either rule: what it gives is a free start in the pool, and it gives one exactly where some free run is long enough, so that the rule does
-- not say who waits; 64 says that there is none. And what is found there. By the laws of each rule alone.
use mathlib.Core.Bool.{Bool, true, false, true≢false}
use mathlib.Core.Path.{◌≡◌, refl, sym, ◌∙◌}
use mathlib.Core.Logic.{◌≢◌, ⊎_elim}
use Prim.Native.Nat.{ℕ, ◌≤◌, ◌<◌}
use native.Mathlib.Nat.{le_antisymm}
use native.Mathlib.Omega.{arith}
use lib.Dec.{ltb}
use borrow.Author.Tests.{eq-eqb, ne_eqb, lt-ltb, ltb-true}
use Rattle.words.proofs.Places.{under-or-from}
use Rattle.words.proofs.Truth.{same_truth, not_so}
use Rattle.std.specs.Prelude.{Some, None, if◌then◌else◌}
use Rattle.std.specs.Option.{is_some}
use Rattle.pools.specs.Pools.{free_at, long_enough, lowest_start, smallest_hole, LowestStart, start_of}
use Rattle.pools.specs.Runs.{FreeRun}
use Rattle.pools.specs.Find.{found_of}
use Rattle.pools.proofs.Units.{free-inside, free-none}
use Rattle.pools.proofs.Rules.{long-shown, long-not, lowest-most, lowest-free, lowest-before, lowest-given, smallest-zero, smallest-most, smallest-free, smallest-given}

module _ (holes g n : ℕ) where
  pub start-lowest : holes ≡ LowestStart → start_of holes g n ≡ lowest_start g n
  unfolding start_of
  start-lowest e = rw (eq-eqb holes LowestStart e)

  pub start-smallest : holes ≢ LowestStart → start_of holes g n ≡ smallest_hole g n
  unfolding start_of
  start-smallest e = rw (ne_eqb holes LowestStart e)

  -- what holds of both
  pub by-rule : (P : ℕ → Type 0) → P (lowest_start g n) → P (smallest_hole g n) → P (start_of holes g n)
  by-rule P p q =
      ⊎_elim (λ (z : holes < 1). rw (start-lowest (omega arith)) p) (λ (z : 1 ≤ holes). rw (start-smallest (λ e. omega arith)) q) (under-or-from holes 1)

  pub start-most : start_of holes g n ≤ 64
  start-most = by-rule (λ a. a ≤ 64) (lowest-most g n) (smallest-most g n)

  pub start-zero : n ≡ 0 → start_of holes g n ≡ 0
  start-zero z =
      by-rule (λ a. a ≡ 0) (let l = lowest-before g n 0 (rw z (free-none g 0 (omega arith))) in omega arith) (rw z (smallest-zero g))

  -- where a start is given, n units are free there
  pub start-free : start_of holes g n < 64 → free_at g n (start_of holes g n) ≡ true
  start-free = by-rule (λ a. a < 64 → free_at g n a ≡ true) (lowest-free g n) (smallest-free g n)

  -- where a free run is long enough, a start is given
  pub start-given : long_enough g n ≡ true → start_of holes g n < 64
  start-given h = by-rule (λ a. a < 64) (lowest-given g n h) (smallest-given g n h)

  -- so there is one exactly where a free run is long enough
  pub given-where : long_enough g n ≡ ltb (start_of holes g n) 64
  given-where =
      same_truth _ _ (λ h. lt-ltb _ 64 (start-given h)) (λ h. long-shown g n (start_of holes g n) (start-free (ltb-true _ 64 h)))

  pub start_none : long_enough g n ≡ false → start_of holes g n ≡ 64
  start_none e =
      ⊎_elim (λ (l : start_of holes g n < 64). absurd (true≢false (sym (start-free l) ∙ long-not g n e (start_of holes g n))))
      (λ (l : 64 ≤ start_of holes g n). le_antisymm start-most l)
      (under-or-from (start_of holes g n) 64)

  -- ---- What is found.

  pub found-at : (a : ℕ) → start_of holes g n ≡ a → a < 64 → found_of holes g n ≡ Some a
  unfolding found_of
  found-at a e l = rw (e, lt-ltb a 64 l)

  pub found_nowhere : start_of holes g n ≡ 64 → found_of holes g n ≡ None
  unfolding found_of
  found_nowhere e = rw e

  pub at-start : (a : ℕ) → found_of holes g n ≡ Some a → (start_of holes g n ≡ a) × (a < 64)
  at-start a e =
      ⊎_elim
      (λ (l : start_of holes g n < 64). let s : start_of holes g n ≡ a = cc (found-at (start_of holes g n) refl l) in (s, omega arith))
      (λ (m : 64 ≤ start_of holes g n).
      let z : ◌≡◌ {A = ℕ} 0 1 = cc (found_nowhere (omega (arith, start-most))) in absurd (omega arith))
      (under-or-from (start_of holes g n) 64)

  -- who is given a start had a run that is long enough, and who is not had none
  pub at_long : (a : ℕ) → found_of holes g n ≡ Some a → long_enough g n ≡ true
  at_long a e = let s = at-start a e in long-shown g n (start_of holes g n) (start-free (omega (arith, s.0, s.1)))

  pub nowhere-long : found_of holes g n ≡ None → long_enough g n ≡ false
  nowhere-long e =
      not_so (long_enough g n) (λ h. let z : ◌≡◌ {A = ℕ} 0 1 = cc (found-at (start_of holes g n) refl (start-given h)) in omega arith)

  -- something is found exactly where a free run is long enough
  pub found-long : is_some (found_of holes g n) ≡ long_enough g n
  unfolding found_of
  found-long = rw given-where (go (ltb (start_of holes g n) 64))
    where
      go : (b : Bool) → is_some (if b then Some (start_of holes g n) else None) ≡ b
      go true = refl
      go false = refl

-- what is found can be granted
pub start-run : (holes g n a : ℕ) → start_of holes g n ≡ a → a < 64 → FreeRun g a n
start-run holes g n a e l =
    let f : free_at g n a ≡ true = rw e at (start-free holes g n (omega (arith, e))) in
    record { inside = free-inside g n a f; free = f }
