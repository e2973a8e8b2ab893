-- Laws of `some_of` over 1 .. n: whether some element of a list behind its first passes a test, as `any` says and as the meaning does.
use mathlib.Core.Bool.{Bool, ◌||◌}
use mathlib.Core.Path.{◌≡◌, refl, sym, ap, ◌∙◌}
use mathlib.Core.List.{List, [], ◌∷◌}
use Prim.Native.Nat.{ℕ, zero, suc}
use lib.ListN.{length, get_or}
use Rattle.std.specs.List.{list_any}
use Rattle.words.proofs.Truth.{or_assoc}
use Rattle.words.proofs.Lists.{some-append}
use Rattle.words.specs.Words.{one_to, some_of}

-- the first of 1 .. n + 1 and the others, each counted from its own first on
some_first : (q : ℕ → Bool) (n : ℕ) → some_of q (one_to (suc n)) ≡ (q 1 || some_of (λ i. q (suc i)) (one_to n))
unfolding one_to some_of
some_first q zero = refl
some_first q (suc n) =
    some-append q (one_to (suc n)) (suc (suc n) ∷ [])
    ∙ ap (λ (b : Bool). b || (some_of q (suc (suc n) ∷ []))) (some_first q n)
    ∙ sym (or_assoc (q 1) (some_of (λ i. q (suc i)) (one_to n)) (some_of q (suc (suc n) ∷ [])))
    ∙ ap (λ (b : Bool). q 1 || b) (sym (some-append (λ i. q (suc i)) (one_to n) (suc n ∷ [])))

pub some_rest : {A : Type 0} (p : A → Bool) (d a : A) (l : List A) → list_any p l ≡ some_of (λ i. p (get_or (a ∷ l) i d)) (one_to (length l))
unfolding one_to some_of
some_rest p d a [] = refl
some_rest p d a (b ∷ l) = ap (λ (c : Bool). p b || c) (some_rest p d b l) ∙ sym (some_first (λ i. p (get_or (a ∷ b ∷ l) i d)) (length l))
