-- The bits of a word as numbers, so that sums count them: what the laws of a word as a set say of a member, said of 1 and 0. By whether the number is a
-- member.
use mathlib.Core.Bool.{Bool, true, false, cond, ◌&&◌, and-true}
use mathlib.Core.Path.{◌≡◌, refl, sym, ◌∙◌}
use mathlib.Core.Logic.{⊎_elim}
use Prim.Native.Nat.{ℕ, ◌+◌, ◌-◌, ◌^◌, ◌≤◌, ◌<◌}
use native.Mathlib.Omega.{arith}
use lib.Bits.{bit_and}
use borrow.Author.Tests.{eq-eqb, eqb-true, eqb-false}
use Rattle.words.specs.Words.{has, size}
use Rattle.words.proofs.Truth.{and_left, and_right, true-or-false}
use Rattle.words.proofs.Members.{has-none, has_above, has_meet}
use Rattle.words.proofs.Subsets.{own-width, inside-has, inside-shown, apart-has}
use Rattle.words.proofs.Changes.{has-plus, has-minus}
use Rattle.words.proofs.Ones.{ones-inside}
use Rattle.words.specs.Counting.{bit}

pub bit_le : (w u : ℕ) → bit w u ≤ 1
bit_le w u = omega arith

-- a member's bit is 1, another's 0
pub bit-of : (w u : ℕ) {b : Bool} → has w u ≡ b → bit w u ≡ cond b 1 0
bit-of w u {b = true} h = eqb-true (bit w u) 1 h
bit-of w u {b = false} h = let n = eqb-false (bit w u) 1 h in omega (arith, n, bit_le w u)

pub bit-same : (v w u : ℕ) → has v u ≡ has w u → bit v u ≡ bit w u
bit-same v w u e = bit-of v u e ∙ sym (bit-of w u refl)

pub bit-none : (u : ℕ) → bit 0 u ≡ 0
bit-none u = bit-of 0 u (has-none u)

pub bit_high : (m w u : ℕ) → w < 2 ^ m → m ≤ u → bit w u ≡ 0
bit_high m w u h l = bit-of w u (has_above m w u h l)

-- ---- One set is within another.
pub and-within : (u p r : ℕ) → bit_and p r ≡ p → bit p u ≤ bit r u
and-within u p r e =
    ⊎_elim (λ (h : has p u ≡ true). omega (arith, bit-of r u (inside-has p r u e h), bit_le p u)) (λ (h : has p u ≡ false). omega (arith, bit-of p u h))
    (true-or-false (has p u))

pub of-within : (p r : ℕ) → ((u : ℕ) → bit p u ≤ bit r u) → bit_and p r ≡ p
of-within p r f = inside-shown p r (λ u h. eq-eqb (bit r u) 1 (omega (arith, f u, bit-of p u h, bit_le r u)))

-- what is within another has no more
pub fewer : (v o o' : ℕ) → ((u : ℕ) → bit o' u ≤ bit o u) → size (bit_and v o') ≤ size (bit_and v o)
fewer v o o' f =
    ones-inside 64 (bit_and v o') (bit_and v o)
    (inside-shown (bit_and v o') (bit_and v o)
    (λ u h.
    let b : (has v u && has o' u) ≡ true = sym (has_meet v o' u) ∙ h in
    has_meet v o u ∙ rw (and_left (has v u) (has o' u) b, inside-has o' o u (of-within o' o f) (and_right (has v u) (has o' u) b))))

-- ---- A set that is apart is added, and one that is inside is taken out.
pub bit-add : (u p r : ℕ) → bit_and p r ≡ 0 → bit (p + r) u ≡ bit p u + bit r u
bit-add u p r e =
    ⊎_elim
    (λ (h : has p u ≡ true). omega (arith, bit-of (p + r) u {b = true} (has-plus p r u e ∙ rw h), bit-of p u h, bit-of r u (apart-has p r u e h)))
    (λ (h : has p u ≡ false). omega (arith, bit-same (p + r) r u (has-plus p r u e ∙ rw h), bit-of p u h))
    (true-or-false (has p u))

pub bit-sub : (u p r : ℕ) → ((v : ℕ) → bit r v ≤ bit p v) → bit (p - r) u + bit r u ≡ bit p u
bit-sub u p r f =
    let i = of-within r p f in
    let m = has-minus p p r (own-width p) i u in
    ⊎_elim
    (λ (h : has r u ≡ true). omega (arith, bit-of (p - r) u {b = false} (m ∙ rw (inside-has r p u i h, h)), bit-of r u h, bit-of p u (inside-has r p u i h)))
    (λ (h : has r u ≡ false). omega (arith, bit-same (p - r) p u (m ∙ rw h (and-true (has p u))), bit-of r u h))
    (true-or-false (has r u))
