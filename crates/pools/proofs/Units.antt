-- A run unit by unit: it is free where it lies in the pool and none of its units is granted, held where each is. By what holds of all units of a list.
use mathlib.Core.Bool.{true, false, not, ◌&&◌}
use mathlib.Core.Path.{◌≡◌, sym, ◌∙◌}
use mathlib.Core.Logic.{⊎_elim}
use Prim.Native.Nat.{ℕ, suc, ◌+◌, ◌-◌, ◌/◌, ◌%◌, ◌^◌, ◌≤◌, ◌<◌}
use native.Mathlib.Omega.{arith}
use lib.Dec.{eqb, leb, ltb}
use borrow.Author.Tests.{eq-eqb, eqb-true, le-leb, leb-true, lt-ltb, ltb-true, not-true}
use Rattle.words.specs.Words.{below, all_of, has}
use Rattle.words.proofs.Lists.{all-at, all_shown}
use Rattle.words.proofs.Truth.{and_left, and_right, same_truth}
use Rattle.words.proofs.Members.{has_rest}
use Rattle.words.proofs.Masks.{all-ones-has, all-ones-shown}
use Rattle.words.proofs.Places.{under-or-from}
use Rattle.pools.specs.Pools.{free_at}
use Rattle.pools.specs.Runs.{held_at}

module _ (g n a : ℕ) where
  pub held-has : held_at g n a ≡ true → (u : ℕ) → a ≤ u → u < a + n → has g u ≡ true
  unfolding held_at
  held-has h u l m = let e : a + (u - a) ≡ u = omega arith in rw e at (all-at (λ i. has g (a + i)) n (u - a) h (omega arith))

  pub held-shown : ((u : ℕ) → a ≤ u → u < a + n → has g u ≡ true) → held_at g n a ≡ true
  unfolding held_at
  held-shown f = all_shown (λ i. has g (a + i)) n (λ i l. f (a + i) (omega arith) (omega arith))

  -- a free run lies in the pool
  pub free-inside : free_at g n a ≡ true → a + n ≤ 64
  unfolding free_at
  free-inside h = leb-true (a + n) 64 (and_left (leb (a + n) 64) (all_of (λ i. not (has g (a + i))) (below n)) h)

  pub free-has : free_at g n a ≡ true → (u : ℕ) → a ≤ u → u < a + n → has g u ≡ false
  unfolding free_at
  free-has h u l m =
      let e : a + (u - a) ≡ u = omega arith in
      let all = and_right (leb (a + n) 64) (all_of (λ i. not (has g (a + i))) (below n)) h in
      not-true (has g u) (rw e at (all-at (λ i. not (has g (a + i))) n (u - a) all (omega arith)))

  pub free-shown : a + n ≤ 64 → ((u : ℕ) → a ≤ u → u < a + n → has g u ≡ false) → free_at g n a ≡ true
  unfolding free_at
  free-shown inside f =
      rw (
        le-leb (a + n) 64 inside,
        all_shown (λ i. not (has g (a + i))) n (λ i l. let z = f (a + i) (omega arith) (omega arith) in rw z),
      )

-- a part of a free run is free
pub free_part : (g n a : ℕ) → free_at g n a ≡ true → (m b : ℕ) → a ≤ b → b + m ≤ a + n → free_at g m b ≡ true
free_part g n a h m b l k =
    free-shown g m b (omega (arith, free-inside g n a h)) (λ u x y. free-has g n a h u (omega arith) (omega arith))

-- no units are free at every start
pub free-none : (g a : ℕ) → a ≤ 64 → free_at g 0 a ≡ true
free-none g a l = free-shown g 0 a (omega arith) (λ u x y. absurd (omega arith))

-- one unit
pub free_one : (g u : ℕ) → free_at g 1 u ≡ (ltb u 64 && not (has g u))
free_one g u =
    same_truth (free_at g 1 u) (ltb u 64 && not (has g u))
    (λ h. rw (lt-ltb u 64 (omega (arith, free-inside g 1 u h)), free-has g 1 u h u (omega arith) (omega arith)))
    (λ h.
    let l = ltb-true u 64 (and_left (ltb u 64) (not (has g u)) h) in
    let z = not-true (has g u) (and_right (ltb u 64) (not (has g u)) h) in
    free-shown g 1 u (omega arith) (λ v x y. let e : u ≡ v = omega arith in rw e at z))

-- a free run and the free unit behind it, or before it, are one that is longer by one
module _ (g n a : ℕ) (h : free_at g n a ≡ true) where
  pub free-behind : free_at g 1 (a + n) ≡ true → free_at g (suc n) a ≡ true
  free-behind e =
      free-shown g (suc n) a (omega (arith, free-inside g 1 (a + n) e))
      (λ u x y.
      ⊎_elim (λ (l : u < a + n). free-has g n a h u x l) (λ (l : a + n ≤ u). free-has g 1 (a + n) e u l (omega arith)) (under-or-from u (a + n)))

  pub free-before : (b : ℕ) → suc b ≡ a → free_at g 1 b ≡ true → free_at g (suc n) b ≡ true
  free-before b s e =
      free-shown g (suc n) b (omega (arith, free-inside g n a h))
      (λ u x y. ⊎_elim (λ (l : u < a). free-has g 1 b e u x (omega arith)) (λ (l : a ≤ u). free-has g n a h u l (omega arith)) (under-or-from u a))

-- two free runs of a units, b apart and b at most a, are one of a + b
module _ (g a b i : ℕ) (short : b ≤ a) where
  joined : free_at g a i ≡ true → free_at g a (b + i) ≡ true → free_at g (a + b) i ≡ true
  joined p q =
      free-shown g (a + b) i (omega (arith, free-inside g a (b + i) q))
      (λ u l m.
      ⊎_elim (λ (h : u < i + a). free-has g a i p u l h) (λ (h : i + a ≤ u). free-has g a (b + i) q u (omega arith) (omega arith))
      (under-or-from u (i + a)))

  pub free-joined : (free_at g a i && free_at g a (b + i)) ≡ free_at g (a + b) i
  free-joined =
      same_truth (free_at g a i && free_at g a (b + i)) (free_at g (a + b) i)
      (λ h. joined (and_left (free_at g a i) (free_at g a (b + i)) h) (and_right (free_at g a i) (free_at g a (b + i)) h))
      (λ h. rw (free_part g (a + b) i h a i (omega arith) (omega arith), free_part g (a + b) i h a (b + i) (omega arith) (omega arith)))

-- ---- "the search shifts the free mask": the same by masks, of a pool of 64 bits and a start in it. The free units are the bits of the complement, and from
-- the start on they have n ones.
module _ (g n a : ℕ) (low : g < 2 ^ 64) (start : a ≤ 64) where
  free-bit : (u : ℕ) → has (2 ^ 64 - 1 - g) u ≡ (ltb u 64 && not (has g u))
  free-bit u = has_rest 64 g u low

  module _ (h : eqb ((2 ^ 64 - 1 - g) / 2 ^ a % 2 ^ n) (2 ^ n - 1) ≡ true) where
    each_free : (u : ℕ) → a ≤ u → u < a + n → (ltb u 64 && not (has g u)) ≡ true
    each_free u l m = sym (free-bit u) ∙ all-ones-has (2 ^ 64 - 1 - g) a n (eqb-true ((2 ^ 64 - 1 - g) / 2 ^ a % 2 ^ n) (2 ^ n - 1) h) u l m

    last-in : a + n ≤ 64
    last-in =
        ⊎_elim (λ (z : n < 1). omega arith)
        (λ (z : 1 ≤ n). omega (arith, ltb-true (a + (n - 1)) 64 (and_left _ _ (each_free (a + (n - 1)) (omega arith) (omega arith)))))
        (under-or-from n 1)

    of_mask : free_at g n a ≡ true
    of_mask = free-shown g n a last-in (λ u l m. not-true (has g u) (and_right (ltb u 64) (not (has g u)) (each_free u l m)))

  pub free-mask : free_at g n a ≡ eqb ((2 ^ 64 - 1 - g) / 2 ^ a % 2 ^ n) (2 ^ n - 1)
  free-mask =
      same_truth (free_at g n a) (eqb ((2 ^ 64 - 1 - g) / 2 ^ a % 2 ^ n) (2 ^ n - 1))
      (λ h.
      eq-eqb ((2 ^ 64 - 1 - g) / 2 ^ a % 2 ^ n) (2 ^ n - 1)
      (all-ones-shown (2 ^ 64 - 1 - g) a n
      (λ u l m. free-bit u ∙ rw (lt-ltb u 64 (omega (arith, free-inside g n a h)), free-has g n a h u l m))))
      of_mask
