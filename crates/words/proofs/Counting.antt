-- Laws of `one`, a test as a number: each says what the one test that it makes gives.
use mathlib.Core.Bool.{Bool, cond}
use mathlib.Core.Path.{◌≡◌, sym, ap, ◌∙◌}
use mathlib.Core.Logic.{◌≢◌, ◌⊎◌, inl, inr, ⊎_elim}
use Prim.Native.Nat.{ℕ, suc, ◌≤◌}
use native.Mathlib.Omega.{arith}
use lib.Dec.{eqb-suc-suc}
use borrow.Author.Tests.{eq-eqb, ne_eqb}
use Rattle.words.specs.Counting.{one}
use Rattle.words.proofs.Truth.{tested}

pub one_same : (a b : ℕ) → a ≡ b → one a b ≡ 1
unfolding one
one_same a b e = rw (eq-eqb a b e)

pub one-other : (a b : ℕ) → a ≢ b → one a b ≡ 0
unfolding one
one-other a b n = rw (ne_eqb a b n)

pub one-suc : (n v : ℕ) → one (suc n) (suc v) ≡ one n v
unfolding one
one-suc n v = ap (λ (b : Bool). cond b 1 0) (eqb-suc-suc n v)

-- a test of two numbers, with what `one` says of it
pub one-or : (a b : ℕ) → ((a ≡ b) × (one a b ≡ 1)) ⊎ ((a ≢ b) × (one a b ≡ 0))
one-or a b = ⊎_elim (λ t. inl (t.1, one_same a b t.1)) (λ t. inr (t.1, one-other a b t.1)) (tested a b)

pub one-sym : (a b : ℕ) → one a b ≡ one b a
one-sym a b = ⊎_elim (λ t. t.1 ∙ sym (one_same b a (sym t.0))) (λ t. t.1 ∙ sym (one-other b a (λ z. t.0 (sym z)))) (one-or a b)

pub one-eq : (a b : ℕ) → one a b ≡ 1 → a ≡ b
one-eq a b e = ⊎_elim (λ t. t.0) (λ t. absurd (omega (arith, e, t.1))) (one-or a b)

pub one-le : (a b : ℕ) → one a b ≤ 1
one-le a b = ⊎_elim (λ t. omega (arith, t.1)) (λ t. omega (arith, t.1)) (one-or a b)
