-- Sums over a list of blocks, and what one changed block does to them and to a field. By induction on the list.
use mathlib.Core.Path.{◌≡◌, refl, ap}
use mathlib.Core.List.{List, [], ◌∷◌}
use Prim.Native.Nat.{ℕ, zero, suc, ◌+◌, ◌≤◌, ◌<◌}
use native.Mathlib.Omega.{arith}
use native.Mathlib.Nat.{le_of_suc-le-suc, not-suc-le-zero}
use lib.ListN.{length, set, get_or}
use Rattle.tables.specs.declared.Task.{Task}
use Rattle.words.specs.Counting.{sum}

module _ {ℓ} {A : Type ℓ} (f : A → ℕ) where
  pub sum-set : (l : List A) (k : ℕ) (x d : A) → k < length l → sum f (set l k x) + f (get_or l k d) ≡ sum f l + f x
  unfolding sum
  sum-set [] k x d h = absurd (not-suc-le-zero h)
  sum-set (a ∷ l) zero x d h = omega arith
  sum-set (a ∷ l) (suc k) x d h = omega (arith, sum-set l k x d (le_of_suc-le-suc h))

  pub sum_kept : (l : List A) (k : ℕ) (x d : A) → f x ≡ f (get_or l k d) → sum f (set l k x) ≡ sum f l
  unfolding sum
  sum_kept [] k x d e = refl
  sum_kept (a ∷ l) zero x d e = ap (λ (n : ℕ). n + sum f l) e
  sum_kept (a ∷ l) (suc k) x d e = ap (λ (n : ℕ). f a + n) (sum_kept l k x d e)

  -- one term is at most the sum
  pub sum-le : (l : List A) (k : ℕ) (d : A) → k < length l → f (get_or l k d) ≤ sum f l
  unfolding sum
  sum-le [] k d h = absurd (not-suc-le-zero h)
  sum-le (a ∷ l) zero d h = omega arith
  sum-le (a ∷ l) (suc k) d h = omega (arith, sum-le l k d (le_of_suc-le-suc h))

-- a field that one changed block has as before is as before in every block
pub field-kept : {A : Type 0} (f : Task → A) (l : List Task) (k y : ℕ) (x d : Task) → f x ≡ f (get_or l k d) → f (get_or (set l k x) y d) ≡ f (get_or l y d)
field-kept f [] k y x d e = refl
field-kept f (z ∷ l) zero zero x d e = e
field-kept f (z ∷ l) zero (suc y) x d e = refl
field-kept f (z ∷ l) (suc k) zero x d e = refl
field-kept f (z ∷ l) (suc k) (suc y) x d e = field-kept f l k y x d e
