-- How a loop over 1, 2, .., n gathers a test: that all of them pass, that some does. By one turn more.
use mathlib.Core.Bool.{Bool, true, false, ◌&&◌, ◌||◌}
use mathlib.Core.Path.{◌≡◌, refl, sym, ap, ap₂, ◌∙◌}
use mathlib.Core.List.{[], ◌∷◌}
use Prim.Native.Nat.{ℕ, suc, ◌+◌, ◌≤◌}
use native.Mathlib.Numerals.{add-one}
use native.Mathlib.Omega.{arith}
use Rattle.words.specs.Words.{one_to, all_of, some_of}
use Rattle.words.proofs.Truth.{and-true, or-none}
use Rattle.words.proofs.Lists.{all_append, some-append}

-- a loop that gathers a test over 1, 2, .., n, with no early exit: `ok = ok & p(i)`
pub gather-start : (p : ℕ → Bool) → true ≡ all_of p (one_to 0)
unfolding all_of one_to
gather-start p = refl

pub gather-next : (p : ℕ → Bool) (i : ℕ) (b r : Bool) → b ≡ all_of p (one_to i) → r ≡ p (i + 1) → (b && r) ≡ all_of p (one_to (i + 1))
unfolding all_of one_to
gather-next p i b r e f =
    ap₂ (λ (x y : Bool). x && y) e (f ∙ ap p (add-one i) ∙ sym (and-true (p (suc i))))
    ∙ sym (all_append p (one_to i) (suc i ∷ [])) ∙ ap (λ (n : ℕ). all_of p (one_to n)) (sym (add-one i))

pub gather-end : (p : ℕ → Bool) (n i : ℕ) (b : Bool) → b ≡ all_of p (one_to i) → n ≤ i → i ≤ n → b ≡ all_of p (one_to n)
gather-end p n i b e h k = let z : i ≡ n = omega arith in e ∙ ap (λ (n : ℕ). all_of p (one_to n)) z

-- ---- `some_of`, as the loop goes on

pub some-start : (p : ℕ → Bool) → false ≡ some_of p (one_to 0)
unfolding some_of one_to
some-start p = refl

pub some_next : (p : ℕ → Bool) (i : ℕ) (b r : Bool) → b ≡ some_of p (one_to i) → r ≡ p (i + 1) → (b || r) ≡ some_of p (one_to (i + 1))
unfolding some_of one_to
some_next p i b r e f =
    ap₂ (λ (x y : Bool). x || y) e (f ∙ ap p (add-one i) ∙ sym (or-none (p (suc i))))
    ∙ sym (some-append p (one_to i) (suc i ∷ [])) ∙ ap (λ (n : ℕ). some_of p (one_to n)) (sym (add-one i))
