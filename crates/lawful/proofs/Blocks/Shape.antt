-- Laws of `place_of`, where a block is: each says what the one test that it makes gives.
use mathlib.Core.Path.{◌≡◌, refl, sym}
use mathlib.Core.Bool.{false}
use mathlib.Core.Logic.{◌≢◌}
use mathlib.Core.List.{List, [], ◌∷◌}
use Prim.Native.Nat.{ℕ}
use borrow.Author.Tests.{eq-eqb, ne_eqb}
use Rattle.words.specs.Words.{◌among◌}
use Rattle.tables.specs.State.{State, task_at}
use Rattle.lawful.specs.Shape.{Hand, place_of}

pub held_place : (s : State) (h : List ℕ) (k : ℕ) → place_of s (k ∷ h) k ≡ Hand
unfolding place_of ◌among◌
held_place s h k = rw (eq-eqb k k refl)

pub other_place : (s : State) (h : List ℕ) (k y : ℕ) → y ≢ k → place_of s (k ∷ h) y ≡ place_of s h y
unfolding place_of ◌among◌
other_place s h k y n = rw (ne_eqb k y (λ e. n (sym e)))

pub rest-place : (s : State) (y : ℕ) → place_of s [] y ≡ (task_at s y).place
unfolding place_of ◌among◌
rest-place s y = refl

-- the block y is not in hand
pub out-place : (s : State) (h : List ℕ) (y : ℕ) → y among h ≡ false → place_of s h y ≡ (task_at s y).place
unfolding place_of
out-place s h y e = rw e
