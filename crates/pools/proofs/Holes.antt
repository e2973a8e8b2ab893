-- Holes, of any mask: what lies in one and at its ends; that a free run is a hole, or part of a longer one; and the shortest that is long enough.
use mathlib.Core.Bool.{Bool, true, false, not, ◌&&◌, ◌||◌, true≢false}
use mathlib.Core.Path.{◌≡◌, refl, sym, ap, ap₂, ◌∙◌}
use mathlib.Core.Logic.{◌⊎◌, inl, inr, ⊎_elim}
use Prim.Native.Nat.{ℕ, zero, suc, ◌+◌, ◌-◌, ◌≤◌, ◌<◌}
use native.Mathlib.Omega.{arith}
use lib.Dec.{eqb, ltb}
use borrow.Author.Tests.{eq-eqb, ne_eqb, lt-ltb, ltb-true, not-true}
use Rattle.words.specs.Words.{has}
use Rattle.words.proofs.Lowest.{lowest-from, lowest-to, lowest-passes, lowest-first}
use Rattle.words.proofs.Places.{under-or-from}
use Rattle.words.proofs.Truth.{true-or-false, not-not, not_so, and_left, and_right, and_assoc}
use Rattle.pools.specs.Pools.{free_at, hole_at, hole_of, shortest}
use Rattle.pools.proofs.Units.{free-inside, free_one, free-behind, free-before}

-- ---- One hole.

-- in other words: the units are free, and neither the unit behind them nor the one before them is
pub hole-as : (g m a : ℕ) → hole_at g m a ≡ (free_at g m a && (not (free_at g 1 (a + m)) && (eqb a 0 || not (free_at g 1 (a - 1)))))
unfolding hole_at
hole-as g m a = ⊎_elim here (λ (e : free_at g m a ≡ false). rw e) (true-or-false (free_at g m a))
  where
    used : (u : ℕ) → u < 64 → has g u ≡ not (free_at g 1 u)
    used u l = sym (ap not (free_one g u) ∙ rw (lt-ltb u 64 l) (not-not (has g u)))

    behind : a + m ≤ 64 → (eqb (a + m) 64 || has g (a + m)) ≡ not (free_at g 1 (a + m))
    behind inside =
        ⊎_elim (λ (l : a + m < 64). rw (ne_eqb (a + m) 64 (λ z. omega arith)) (used (a + m) l))
        (λ (l : 64 ≤ a + m). rw (eq-eqb (a + m) 64 (omega arith), not_so (free_at g 1 (a + m)) (λ h. omega (arith, free-inside g 1 (a + m) h))))
        (under-or-from (a + m) 64)

    before : a ≤ 64 → (eqb a 0 || has g (a - 1)) ≡ (eqb a 0 || not (free_at g 1 (a - 1)))
    before inside =
        ⊎_elim (λ (l : a < 1). rw (eq-eqb a 0 (omega arith))) (λ (l : 1 ≤ a). ap (λ (b : Bool). eqb a 0 || b) (used (a - 1) (omega arith)))
        (under-or-from a 1)

    turned : (x y : Bool) → (x && y) ≡ (y && x)
    turned true true = refl
    turned true false = refl
    turned false true = refl
    turned false false = refl

    here : free_at g m a ≡ true
        → (free_at g m a && (eqb a 0 || has g (a - 1)) && (eqb (a + m) 64 || has g (a + m))) ≡ (free_at g m a && (not (free_at g 1 (a + m)) && (eqb a 0 || not (free_at g 1 (a - 1)))))
    here e =
        let inside = free-inside g m a e in
        sym (and_assoc (free_at g m a) (eqb a 0 || has g (a - 1)) (eqb (a + m) 64 || has g (a + m)))
        ∙ ap (λ (b : Bool). free_at g m a && b)
        (turned (eqb a 0 || has g (a - 1)) (eqb (a + m) 64 || has g (a + m)) ∙ ap₂ ◌&&◌ (behind inside) (before (omega arith)))

module _ (g m a : ℕ) (h : hole_at g m a ≡ true) where
  parts : (free_at g m a && (not (free_at g 1 (a + m)) && (eqb a 0 || not (free_at g 1 (a - 1))))) ≡ true
  parts = sym (hole-as g m a) ∙ h

  pub hole-free : free_at g m a ≡ true
  hole-free = and_left (free_at g m a) _ parts

  pub hole-behind : free_at g 1 (a + m) ≡ false
  hole-behind = not-true _ (and_left (not (free_at g 1 (a + m))) _ (and_right (free_at g m a) _ parts))

  pub hole-before : (b : ℕ) → suc b ≡ a → free_at g 1 b ≡ false
  hole-before b e =
      let z : a - 1 ≡ b = omega arith in
      not-true _ (rw (ne_eqb a 0 (λ x. omega arith), z) at (and_right (not (free_at g 1 (a + m))) (eqb a 0 || not (free_at g 1 (a - 1))) (and_right (free_at g m a) _ parts)))

  pub hole-inside : a + m ≤ 64
  hole-inside = free-inside g m a hole-free

module _ (g m a : ℕ) where
  pub hole-shown : free_at g m a ≡ true → free_at g 1 (a + m) ≡ false → ((b : ℕ) → suc b ≡ a → free_at g 1 b ≡ false) → hole_at g m a ≡ true
  hole-shown h e f =
      hole-as g m a
      ∙ rw (h, e)
      (⊎_elim (λ (z : a < 1). rw (eq-eqb a 0 (omega arith))) (λ (z : 1 ≤ a). rw (ne_eqb a 0 (λ x. omega arith), f (a - 1) (omega arith)))
      (under-or-from a 1))

  pub no-hole : free_at g m a ≡ false → hole_at g m a ≡ false
  no-hole e = hole-as g m a ∙ rw e

-- ---- Some hole.

-- n units are free somewhere
record Somewhere (g n : ℕ) : Type 0 where
  pub start : ℕ
  pub free : free_at g n start ≡ true

-- some hole is long enough
pub record Enough (g n : ℕ) : Type 0 where
  pub units : ℕ
  pub start : ℕ
  pub long : n ≤ units
  pub hole : hole_at g units start ≡ true

hole-or-longer : (g m a : ℕ) → free_at g m a ≡ true → (hole_at g m a ≡ true) ⊎ Somewhere g (suc m)
hole-or-longer g m zero h =
    ⊎_elim (λ e. inr (record { start = 0; free = free-behind g m 0 h e })) (λ e. inl (hole-shown g m 0 h e (λ b z. absurd (omega arith))))
    (true-or-false (free_at g 1 (0 + m)))
hole-or-longer g m (suc a) h =
    ⊎_elim (λ e. inr (record { start = suc a; free = free-behind g m (suc a) h e }))
    (λ e.
    ⊎_elim (λ f. inr (record { start = a; free = free-before g m (suc a) h a refl f }))
    (λ (f : free_at g 1 a ≡ false). inl (hole-shown g m (suc a) h e (λ b z. let y : a ≡ b = omega arith in rw y at f)))
    (true-or-false (free_at g 1 a)))
    (true-or-false (free_at g 1 (suc a + m)))

-- a free run lies in a hole that is as long or longer. By how much longer it can be
longer : (g k m a : ℕ) → 65 ≤ m + k → free_at g m a ≡ true → Enough g m
longer g zero m a most h = absurd (omega (arith, free-inside g m a h))
longer g (suc k) m a most h =
    ⊎_elim (λ e. record { units = m; start = a; long = omega arith; hole = e })
    (λ (s : Somewhere g (suc m)).
    let r = longer g k (suc m) s.start (omega arith) s.free in
    record { units = r.units; start = r.start; long = omega (arith, r.long); hole = r.hole })
    (hole-or-longer g m a h)

pub some-hole : (g n a : ℕ) → free_at g n a ≡ true → Enough g n
some-hole g n a h = longer g 65 n a (omega arith) h

-- ---- The lowest of equals, and the shortest.

module _ (g m : ℕ) where
  pub hole-most : hole_of g m ≤ 64
  unfolding hole_of
  hole-most = lowest-to (hole_at g m) 64 0

  pub hole-there : hole_of g m < 64 → hole_at g m (hole_of g m) ≡ true
  unfolding hole_of
  hole-there = lowest-passes (hole_at g m) 64 0

  pub hole-first : (a : ℕ) → hole_at g m a ≡ true → hole_of g m ≤ a
  unfolding hole_of
  hole-first a h =
      ⊎_elim (λ (l : a < hole_of g m). absurd (true≢false (sym h ∙ lowest-first (hole_at g m) 64 0 a (omega arith) l))) (λ l. l) (under-or-from a (hole_of g m))

module _ (g n : ℕ) where
  pub shortest-long : n ≤ shortest g n
  unfolding shortest
  shortest-long = lowest-from (λ m. ltb (hole_of g m) 64) (65 - n) n

  -- no hole that is long enough is shorter
  pub shortest-first : (m a : ℕ) → 1 ≤ m → n ≤ m → hole_at g m a ≡ true → shortest g n ≤ m
  unfolding shortest
  shortest-first m a some long h =
      ⊎_elim
      (λ (l : m < shortest g n).
      absurd
      (true≢false
      (sym (lt-ltb (hole_of g m) 64 (omega (arith, hole-first g m a h, hole-inside g m a h)))
      ∙ lowest-first (λ m. ltb (hole_of g m) 64) (65 - n) n m long l)))
      (λ l. l)
      (under-or-from m (shortest g n))

  -- where one is long enough there is one of that length
  pub shortest-there : 1 ≤ n → Enough g n → hole_of g (shortest g n) < 64
  unfolding shortest
  shortest-there some e =
      let l = shortest-first e.units e.start (omega (arith, e.long)) e.long e.hole in
      let m = hole-inside g e.units e.start e.hole in
      ltb-true _ 64 (lowest-passes (λ m. ltb (hole_of g m) 64) (65 - n) n (omega (arith, l, m, e.long)))

  pub shortest-is : (m a : ℕ) → 1 ≤ n → n ≤ m → hole_at g m a ≡ true → ((k i : ℕ) → n ≤ k → k < m → hole_at g k i ≡ false) → shortest g n ≡ m
  shortest-is m a some long h f =
      let most = shortest-first m a (omega arith) long h in
      let there = shortest-there some (record { units = m; start = a; long = long; hole = h }) in
      ⊎_elim
      (λ (l : shortest g n < m).
      absurd (true≢false (sym (hole-there g (shortest g n) there) ∙ f (shortest g n) (hole_of g (shortest g n)) shortest-long l)))
      (λ (l : m ≤ shortest g n). omega arith)
      (under-or-from (shortest g n) m)
