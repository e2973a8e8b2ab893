-- Each of the two rules alone: document 01's lowest start, and E8's smallest hole, which of the starts each gives. By the laws of the lowest that passes a test.
use mathlib.Core.Bool.{true, false, true≢false}
use mathlib.Core.Path.{◌≡◌, refl, sym, ap, ◌∙◌}
use mathlib.Core.Logic.{◌⊎◌, inl, inr, ⊎_elim}
use Prim.Native.Nat.{ℕ, ◌≤◌, ◌<◌}
use native.Mathlib.Nat.{le_antisymm}
use native.Mathlib.Omega.{arith}
use borrow.Author.Tests.{ne_eqb}
use Rattle.words.proofs.Lists.{some-shown, some-none}
use Rattle.words.proofs.Lowest.{lowest-to, lowest-passes, lowest-first}
use Rattle.words.proofs.Places.{under-or-from}
use Rattle.words.proofs.Truth.{not_so}
use Rattle.pools.specs.Pools.{free_at, long_enough, lowest_start, hole_at, hole_of, shortest, smallest_hole}
use Rattle.pools.proofs.Units.{free-inside, free-none, free_part}
use Rattle.pools.proofs.Holes.{hole-free, hole-inside, some-hole, hole-most, hole-there, hole-first, shortest-long, shortest-first, shortest-there, shortest-is}

-- ---- A free run is long enough.

module _ (g n : ℕ) where
  -- a run that is free has a start below 64
  start-in : (a : ℕ) → free_at g n a ≡ true → free_at g n 0 ≡ true ⊎ (a < 64)
  start-in a h =
      ⊎_elim (λ (z : n < 1). let e : n ≡ 0 = omega arith in inl (rw e (free-none g 0 (omega arith)))) (λ (z : 1 ≤ n). inr (omega (arith, free-inside g n a h)))
      (under-or-from n 1)

  pub long-shown : (a : ℕ) → free_at g n a ≡ true → long_enough g n ≡ true
  unfolding long_enough
  long-shown a h =
      ⊎_elim (λ e. some-shown (free_at g n) 64 0 (omega arith) e) (λ l. some-shown (free_at g n) 64 a l h) (start-in a h)

  pub long-not : long_enough g n ≡ false → (a : ℕ) → free_at g n a ≡ false
  long-not e a = not_so (free_at g n a) (λ h. true≢false (sym (long-shown a h) ∙ e))

  long-none : ((a : ℕ) → a < 64 → free_at g n a ≡ false) → long_enough g n ≡ false
  unfolding long_enough
  long-none = some-none (free_at g n) 64

-- ---- Document 01's rule.

module _ (g n : ℕ) where
  pub lowest-most : lowest_start g n ≤ 64
  unfolding lowest_start
  lowest-most = lowest-to (free_at g n) 64 0

  pub lowest-free : lowest_start g n < 64 → free_at g n (lowest_start g n) ≡ true
  unfolding lowest_start
  lowest-free = lowest-passes (free_at g n) 64 0

  -- no free start is lower
  pub lowest-before : (a : ℕ) → free_at g n a ≡ true → lowest_start g n ≤ a
  unfolding lowest_start
  lowest-before a h =
      ⊎_elim (λ (l : a < lowest_start g n). absurd (true≢false (sym h ∙ lowest-first (free_at g n) 64 0 a (omega arith) l))) (λ l. l)
      (under-or-from a (lowest_start g n))

  pub lowest-only : (a : ℕ) → a < 64 → free_at g n a ≡ true → ((b : ℕ) → free_at g n b ≡ true → a ≤ b) → lowest_start g n ≡ a
  lowest-only a l h f =
      le_antisymm (lowest-before a h) (f (lowest_start g n) (lowest-free (omega (arith, lowest-before a h))))

  -- one is given where a free run is long enough
  pub lowest-given : long_enough g n ≡ true → lowest_start g n < 64
  unfolding lowest_start
  lowest-given e =
      ⊎_elim (λ l. l)
      (λ (l : 64 ≤ lowest_start g n).
      absurd (true≢false (sym e ∙ long-none g n (λ a m. lowest-first (free_at g n) 64 0 a (omega arith) (omega arith)))))
      (under-or-from (lowest_start g n) 64)

-- ---- E8's rule.

pub smallest-zero : (g : ℕ) → smallest_hole g 0 ≡ 0
unfolding smallest_hole
smallest-zero g = refl

module _ (g n : ℕ) (some : 1 ≤ n) where
  pub smallest-as : smallest_hole g n ≡ hole_of g (shortest g n)
  unfolding smallest_hole
  smallest-as = rw (ne_eqb n 0 (λ z. omega arith))

  -- what it gives is where a hole begins
  pub smallest-hole : smallest_hole g n < 64 → hole_at g (shortest g n) (smallest_hole g n) ≡ true
  smallest-hole l = rw smallest-as (hole-there g (shortest g n) (omega (arith, smallest-as)))

  -- no hole that is long enough is shorter, and none of those is as long and lower
  pub smallest-first : (m a : ℕ) → n ≤ m → hole_at g m a ≡ true → (shortest g n < m) ⊎ ((shortest g n ≡ m) × (smallest_hole g n ≤ a))
  smallest-first m a long h =
      ⊎_elim (λ l. inl l)
      (λ (l : m ≤ shortest g n).
      let z : shortest g n ≡ m = le_antisymm (shortest-first g n m a (omega arith) long h) l in
      inr (z, omega (arith, smallest-as, hole-first g (shortest g n) a (rw z h))))
      (under-or-from (shortest g n) m)

  pub smallest-only : (m a : ℕ) → n ≤ m → hole_at g m a ≡ true → ((k b : ℕ) → n ≤ k → hole_at g k b ≡ true → (m < k) ⊎ ((m ≡ k) × (a ≤ b))) → smallest_hole g n ≡ a
  smallest-only m a long h f =
      let z : shortest g n ≡ m =
      shortest-is g n m a some long h
      (λ k i x y. not_so (hole_at g k i) (λ e. ⊎_elim (λ (w : m < k). omega arith) (λ (w : (m ≡ k) × (a ≤ i)). omega (arith, w.0)) (f k i x e))) in
      let most = hole-first g m a h in
      let there = hole-there g m (omega (arith, hole-inside g m a h)) in
      ⊎_elim (λ (w : m < m). absurd (omega arith)) (λ (w : (m ≡ m) × (a ≤ hole_of g m)). smallest-as ∙ ap (hole_of g) z ∙ le_antisymm most w.1)
      (f m (hole_of g m) long there)

module _ (g n : ℕ) where
  pub smallest-most : smallest_hole g n ≤ 64
  smallest-most =
      ⊎_elim (λ (z : n < 1). let e : n ≡ 0 = omega arith in rw e (omega (arith, smallest-zero g))) (λ z. rw (smallest-as g n z) (hole-most g (shortest g n)))
      (under-or-from n 1)

  pub smallest-free : smallest_hole g n < 64 → free_at g n (smallest_hole g n) ≡ true
  smallest-free l =
      ⊎_elim (λ (z : n < 1). let e : n ≡ 0 = omega arith in rw e (free-none g (smallest_hole g 0) (omega (arith, smallest-zero g))))
      (λ (z : 1 ≤ n).
      free_part g (shortest g n) (smallest_hole g n) (hole-free g (shortest g n) (smallest_hole g n) (smallest-hole g n z l)) n (smallest_hole g n)
      (omega arith)
      (omega (arith, shortest-long g n)))
      (under-or-from n 1)

  pub smallest-given : long_enough g n ≡ true → smallest_hole g n < 64
  smallest-given h =
      ⊎_elim (λ (z : n < 1). let e : n ≡ 0 = omega arith in rw e (omega (arith, smallest-zero g)))
      (λ (z : 1 ≤ n). rw (smallest-as g n z) (shortest-there g n z (some-hole g n (lowest_start g n) (lowest-free g n (lowest-given g n h)))))
      (under-or-from n 1)
