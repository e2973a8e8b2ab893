-- Tests: two that both hold, one that implies the other, two that agree; a test of two numbers. What a test shows, and back; by cases of the first.
use mathlib.Core.Bool.{Bool, true, false, not, ◌&&◌, ◌||◌, true≢false, beq}
use mathlib.Core.Path.{◌≡◌, refl, sym, ap, ◌∙◌}
use mathlib.Core.Logic.{◌≢◌, ◌⊎◌, inl, inr, ⊎_elim}
use Prim.Native.Nat.{ℕ}
use lib.Dec.{eqb}
use borrow.Author.Tests.{eq-eqb, ne_eqb, eqb-true, eqb-false}

pub true-or-false : (b : Bool) → (b ≡ true) ⊎ (b ≡ false)
true-or-false true = inl refl
true-or-false false = inr refl

pub same_truth : (a b : Bool) → (a ≡ true → b ≡ true) → (b ≡ true → a ≡ true) → a ≡ b
same_truth true b f g = sym (f refl)
same_truth false true f g = g refl
same_truth false false f g = refl

-- a test that cannot hold does not
pub not_so : (b : Bool) → (b ≡ true → ⊥) → b ≡ false
not_so true f = absurd (f refl)
not_so false f = refl

pub not-not : (b : Bool) → not (not b) ≡ b
not-not true = refl
not-not false = refl

-- ---- Both hold.

pub and_left : (a b : Bool) → (a && b) ≡ true → a ≡ true
and_left true b e = refl
and_left false b e = e

pub and_right : (a b : Bool) → (a && b) ≡ true → b ≡ true
and_right true b e = e
and_right false b e = absurd (true≢false (sym e))

pub and_assoc : (a b c : Bool) → (a && (b && c)) ≡ (a && b && c)
and_assoc true b c = refl
and_assoc false b c = refl

pub and-true : (a : Bool) → (a && true) ≡ a
and-true true = refl
and-true false = refl

pub both : (a b : Bool) → (a && b) ≡ true → (a ≡ true) × (b ≡ true)
both a b e = (and_left a b e, and_right a b e)

pub fails-right : (a b : Bool) → b ≡ false → (a && b) ≡ false
fails-right true b e = e
fails-right false b e = refl

-- ---- One of the two holds.

pub or_assoc : (a b c : Bool) → (a || (b || c)) ≡ (a || b || c)
or_assoc true b c = refl
or_assoc false b c = refl

pub or-true : (a : Bool) → (a || true) ≡ true
or-true true = refl
or-true false = refl

pub or-none : (a : Bool) → (a || false) ≡ a
or-none true = refl
or-none false = refl

pub and-fails : (a b : Bool) → (a && b) ≡ false → a ≡ true → b ≡ false
and-fails true b e f = e
and-fails false b e f = absurd (true≢false (sym f))

pub or_left : (a b : Bool) → (a || b) ≡ false → a ≡ false
or_left true b e = absurd (true≢false e)
or_left false b e = refl

pub or_right : (a b : Bool) → (a || b) ≡ false → b ≡ false
or_right true b e = absurd (true≢false e)
or_right false b e = e

-- a test of two numbers, with what it tells
pub tested : (a y : ℕ) → ((eqb a y ≡ true) × (a ≡ y)) ⊎ ((eqb a y ≡ false) × (a ≢ y))
tested a y = go (eqb a y) refl
  where
    go : (b : Bool) → eqb a y ≡ b → ((eqb a y ≡ true) × (a ≡ y)) ⊎ ((eqb a y ≡ false) × (a ≢ y))
    go true e = inl (e, eqb-true a y e)
    go false e = inr (e, eqb-false a y e)

pub and-of : (a b : Bool) → a ≡ true → b ≡ true → (a && b) ≡ true
and-of a b e f = rw (e, f)

pub implied : (a b : Bool) → (not a || b) ≡ true → a ≡ true → b ≡ true
implied true b e f = e
implied false b e f = absurd (true≢false (sym f))

pub of-implied : (a b : Bool) → (a ≡ true → b ≡ true) → (not a || b) ≡ true
of-implied true b f = f refl
of-implied false b f = refl

pub same_bool : (a b : Bool) → beq a b ≡ true → a ≡ b
same_bool true true e = refl
same_bool true false e = absurd (true≢false (sym e))
same_bool false true e = absurd (true≢false (sym e))
same_bool false false e = refl

pub of-same : (a b : Bool) → a ≡ b → beq a b ≡ true
of-same true true e = refl
of-same true false e = absurd (true≢false e)
of-same false true e = absurd (true≢false (sym e))
of-same false false e = refl

-- ---- Tests of numbers.

-- a test that two are not the same
pub not-eq : (a b : ℕ) → a ≢ b → not (eqb a b) ≡ true
not-eq a b n = ap not (ne_eqb a b n)

pub unlike : (a b : ℕ) → not (eqb a b) ≡ true → a ≢ b
unlike a b z i = true≢false (sym z ∙ ap not (eq-eqb a b i))

-- a test that a number is one of three
pub one_of_three : (p a b c : ℕ) → (p ≢ a → p ≢ b → p ≡ c) → (eqb p a || eqb p b || eqb p c) ≡ true
one_of_three p a b c h =
    ⊎_elim (λ x. rw x.0) (λ x. ⊎_elim (λ y. rw (x.0, y.0)) (λ y. rw (x.0, y.0, eq-eqb p c (h x.1 y.1))) (tested p b)) (tested p a)

-- ---- A test that a function returns.

-- after `if !f(..)`, where f returns the test a
pub refused : (r a : Bool) → r ≡ a → not r ≡ true → false ≡ a
refused true a e h = absurd (true≢false (sym h))
refused false a e h = e

pub passed : (r a : Bool) → r ≡ a → not r ≡ false → a ≡ true
passed true a e h = sym e
passed false a e h = absurd (true≢false h)
