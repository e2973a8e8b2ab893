-- Lists of tests, by name: where all of a list hold, each is given in turn to a function that names them; where each is shown, `also` puts them together.
-- A test more is a name more, and nothing shifts.
use mathlib.Core.Bool.{Bool, true, ◌&&◌}
use mathlib.Core.Path.{◌≡◌, refl, sym, ◌∙◌}
use mathlib.Core.List.{List, [], ◌∷◌}
use Rattle.words.specs.Words.{all_true}
use Rattle.words.proofs.Truth.{both, and-true, and_assoc}

-- a function to C of the tests of a list, each as one that holds
unfoldable pub Given : List Bool → Type 0 → Type 0
Given [] C = C
Given (b ∷ l) C = b ≡ true → Given l C

pub by_name : {C : Type 0} (l : List Bool) → all_true l ≡ true → Given l C → C
unfolding all_true Given
by_name [] e f = f
by_name (b ∷ l) e f = let here = both b (all_true l) e in by_name l here.1 (f here.0)

pub record All (l : List Bool) : Type 0 where
  pub all : all_true l ≡ true

infixr 5 ◌also◌
pub ◌also◌ : {b : Bool} {l : List Bool} → b ≡ true → All l → All (b ∷ l)
unfolding all_true
◌also◌ {b} {l} e f = record { all = rw (e, f.all) }

pub no_more : All []
unfolding all_true
no_more = record { all = refl }

-- ---- Tests that code joins with `&`, one after the other from the left.

unfoldable pub joined : Bool → List Bool → Bool
joined a [] = a
joined a (b ∷ l) = joined (a && b) l

unfoldable pub chain : List Bool → Bool
chain [] = true
chain (a ∷ l) = joined a l

joined-all : (a : Bool) (l : List Bool) → joined a l ≡ all_true (a ∷ l)
unfolding joined all_true
joined-all a [] = sym (and-true a)
joined-all a (b ∷ l) = joined-all (a && b) l ∙ sym (and_assoc a b (all_true l))

pub chain-all : (l : List Bool) → chain l ≡ all_true l
unfolding chain all_true
chain-all [] = refl
chain-all (a ∷ l) = joined-all a l
