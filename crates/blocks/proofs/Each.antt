-- Laws of doing something for each of a list in turn.
use mathlib.Core.Path.{◌≡◌, refl}
use mathlib.Core.List.{List, [], ◌∷◌, ◌++◌}
use Prim.Native.Nat.{ℕ, suc, ◌+◌}
use native.Mathlib.Numerals.{add-one}
use Rattle.words.specs.Words.{one_to, each}

pub each_none {ℓ} : {A : Type ℓ} (f : ℕ → A → A) (s : A) → each f (one_to 0) s ≡ s
unfolding each one_to
each_none f s = refl

each_last {ℓ} : {A : Type ℓ} (f : ℕ → A → A) (l : List ℕ) (x : ℕ) (s : A) → each f (l ++ x ∷ []) s ≡ f x (each f l s)
unfolding each
each_last f [] x s = refl
each_last f (a ∷ l) x s = each_last f l x (f a s)

-- up to the next number
pub each_next {ℓ} : {A : Type ℓ} (f : ℕ → A → A) (n : ℕ) (s : A) → each f (one_to (n + 1)) s ≡ f (n + 1) (each f (one_to n) s)
unfolding one_to
each_next f n s = rw (add-one n) (each_last f (one_to n) (suc n) s)
