-- Counting into two sets: `one` has what was met at least once, `two` what was met at least twice. So children are counted, and core units.
use mathlib.Core.Bool.{Bool, true, false, not, ◌&&◌, ◌||◌, beq}
use mathlib.Core.Path.{◌≡◌, refl, sym, ap, ap₂, ◌∙◌}
use mathlib.Core.List.{[], ◌∷◌}
use Prim.Native.Nat.{ℕ, zero, suc, ◌+◌, ◌/◌, ◌≤◌}
use native.Mathlib.Numerals.{add-one}
use native.Mathlib.Omega.{arith}
use lib.Bits.{bit_and, bit_or}
use lib.Dec.{eqb, leb}
use borrow.Author.Tests.{eq-eqb, ne_eqb, eqb-true, le-leb, not-true}
use Rattle.words.specs.Words.{if◌then◌else◌, one_to, how_many, has}
use Rattle.words.proofs.Members.{has-none, has-next, has_meet, has-union}
use Rattle.words.proofs.Ones.{many-append}
use Rattle.words.proofs.Subsets.{same-members}
use Rattle.words.proofs.Truth.{and-of, both, same_bool, of-same, same_truth, fails-right}
use Rattle.rules.specs.Links.{Tally}

-- ---- how many

many-next : (p : ℕ → Bool) (k : ℕ) → how_many p (one_to (k + 1)) ≡ how_many p (one_to k) + (if p (k + 1) then 1 else 0)
unfolding one_to how_many
many-next p k = rw (add-one k) (omega (arith, many-append p (one_to k) (suc k ∷ [])))

many-zero : (p : ℕ → Bool) → how_many p (one_to 0) ≡ 0
unfolding one_to how_many
many-zero p = refl

many-none : (p : ℕ → Bool) (n : ℕ) → ((k : ℕ) → 1 ≤ k → k ≤ n → p k ≡ false) → how_many p (one_to n) ≡ 0
many-none p zero f = many-zero p
many-none p (suc n) f =
    ap (λ (m : ℕ). how_many p (one_to m)) (sym (add-one n)) ∙ many-next p n
    ∙ rw (ap p (add-one n) ∙ f (suc n) (omega arith) (omega arith), many-none p n (λ k l h. f k l (omega arith)))

-- ---- at least one, at least two

one_more : (n : ℕ) (b : Bool) → (leb 1 n || b) ≡ leb 1 (n + (if b then 1 else 0))
one_more zero true = refl
one_more zero false = refl
one_more (suc n) true = rw (le-leb 1 (suc n) (omega arith), le-leb 1 (suc n + 1) (omega arith))
one_more (suc n) false = rw (le-leb 1 (suc n) (omega arith), le-leb 1 (suc n + 0) (omega arith))

two-more : (n : ℕ) (b : Bool) → (leb 2 n || (leb 1 n && b)) ≡ leb 2 (n + (if b then 1 else 0))
two-more zero true = refl
two-more zero false = refl
two-more (suc zero) true = refl
two-more (suc zero) false = refl
two-more (suc (suc n)) true = rw (le-leb 2 (suc (suc n)) (omega arith), le-leb 2 (suc (suc n) + 1) (omega arith))
two-more (suc (suc n)) false = rw (le-leb 2 (suc (suc n)) (omega arith), le-leb 2 (suc (suc n) + 0) (omega arith))

too_many : (n : ℕ) (b : Bool) → 2 ≤ n → (beq (leb 1 n) b && not (leb 2 n)) ≡ eqb n (if b then 1 else 0)
too_many n true h = fails-right (beq (leb 1 n) true) (not (leb 2 n)) (ap not (le-leb 2 n h)) ∙ sym (ne_eqb n 1 (omega arith))
too_many n false h = fails-right (beq (leb 1 n) false) (not (leb 2 n)) (ap not (le-leb 2 n h)) ∙ sym (ne_eqb n 0 (omega arith))

-- exactly one or none, told by the two
exactly : (n : ℕ) (b : Bool) → (beq (leb 1 n) b && not (leb 2 n)) ≡ eqb n (if b then 1 else 0)
exactly zero true = refl
exactly zero false = refl
exactly (suc zero) true = refl
exactly (suc zero) false = refl
exactly (suc (suc n)) b = too_many (suc (suc n)) b (omega arith)

-- ---- the two sets

module _ {p : ℕ → ℕ → Bool} where
  pub tally-start : Tally p 0 0 0
  tally-start =
      record { once = λ u. has-none u ∙ ap (leb 1) (sym (many-zero (p u))); twice = λ u. has-none u ∙ ap (leb 2) (sym (many-zero (p u))) }

  module _ {k one two : ℕ} (t : Tally p k one two) where
    -- what the next has
    pub tally-next : (m : ℕ) → ((u : ℕ) → has m u ≡ p u (k + 1)) → Tally p (k + 1) (bit_or one m) (bit_or two (bit_and one m))
    tally-next m e =
        record {
          once = λ u.
              has-union one m u ∙ ap₂ (λ (a b : Bool). a || b) (t.once u) (e u)
              ∙ one_more (how_many (p u) (one_to k)) (p u (k + 1)) ∙ ap (leb 1) (sym (many-next (p u) k));
          twice = λ u.
              has-union two (bit_and one m) u
              ∙ ap₂ (λ (a b : Bool). a || b) (t.twice u) (has_meet one m u ∙ ap₂ (λ (a b : Bool). a && b) (t.once u) (e u))
              ∙ two-more (how_many (p u) (one_to k)) (p u (k + 1)) ∙ ap (leb 2) (sym (many-next (p u) k));
        }

    -- the next has nothing
    pub tally-past : ((u : ℕ) → p u (k + 1) ≡ false) → Tally p (k + 1) one two
    tally-past e =
        let same : (u : ℕ) → how_many (p u) (one_to (k + 1)) ≡ how_many (p u) (one_to k) = λ u. many-next (p u) k ∙ rw (e u) (omega arith) in
        record { once = λ u. t.once u ∙ ap (leb 1) (sym (same u)); twice = λ u. t.twice u ∙ ap (leb 2) (sym (same u)) }

-- each u exactly once where `wanted` has it, and else not at all: the sets are `wanted` and nothing
abbrev pub met : (ℕ → ℕ → Bool) → ℕ → ℕ → ℕ → Bool
met p n wanted u = eqb (how_many (p u) (one_to n)) (if has wanted u then 1 else 0)

module _ {p : ℕ → ℕ → Bool} {n one two : ℕ} (wanted : ℕ) (t : Tally p n one two) where
  told : (u : ℕ) → (beq (has one u) (has wanted u) && not (has two u)) ≡ met p n wanted u
  told u = rw (t.once u, t.twice u) (exactly (how_many (p u) (one_to n)) (has wanted u))

  apart : (u : ℕ) → met p n wanted u ≡ true → (has one u ≡ has wanted u) × (has two u ≡ has 0 u)
  apart u e =
      let b = both (beq (has one u) (has wanted u)) (not (has two u)) (told u ∙ e) in
      (same_bool _ _ b.0, not-true _ b.1 ∙ sym (has-none u))

  -- so a test that holds exactly where each u is met as wanted is that of the sets
  pub tally-end : {r : Bool} → (r ≡ true → (u : ℕ) → met p n wanted u ≡ true) → (((u : ℕ) → met p n wanted u ≡ true) → r ≡ true)
      → (eqb two 0 && eqb one wanted) ≡ r
  tally-end {r} f g =
      same_truth (eqb two 0 && eqb one wanted) r
      (λ e.
      let b = both (eqb two 0) (eqb one wanted) e in
      let x : two ≡ 0 = eqb-true two 0 b.0 in
      let y : one ≡ wanted = eqb-true one wanted b.1 in
      g (λ u. sym (told u) ∙ rw (x, y, has-none u) (and-of _ _ (of-same (has wanted u) (has wanted u) refl) refl)))
      (λ e.
      and-of _ _ (eq-eqb two 0 (same-members two 0 (λ u. (apart u (f e u)).1)))
      (eq-eqb one wanted (same-members one wanted (λ u. (apart u (f e u)).0))))

-- what none has, and none is wanted to have
pub met-none : (p : ℕ → ℕ → Bool) (n wanted u : ℕ) → ((k : ℕ) → 1 ≤ k → k ≤ n → p u k ≡ false) → has wanted u ≡ false → met p n wanted u ≡ true
met-none p n wanted u f e = rw (many-none (p u) n f, e)

-- 0 left out, and each other one less
pub tally-half : {p : ℕ → ℕ → Bool} {n one two : ℕ} → Tally p n one two → Tally (λ u. p (suc u)) n (one / 2) (two / 2)
tally-half {p} {n} {one} {two} t =
    record { once = λ u. sym (has-next one u) ∙ t.once (suc u); twice = λ u. sym (has-next two u) ∙ t.twice (suc u) }
