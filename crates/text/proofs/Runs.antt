-- Passing the bytes of one class: what `take_while` takes of the bytes is the run at their front, which is within them.
use mathlib.Core.Path.{◌≡◌, refl, ◌∙◌}
use mathlib.Core.List.{List, [], ◌∷◌}
use mathlib.Core.Bool.{Bool, true, false}
use Prim.Native.Nat.{ℕ, suc, ◌+◌, ◌≤◌}
use native.Mathlib.Omega.{arith}
use native.Mathlib.Numerals.{one-add}
use lib.Dec.{eqb}
use lib.ListN.{length, drop, length-drop, take}
use Rattle.std.specs.List.{prefix_len}
use Rattle.std.proofs.lemmas.List.Folds.{length-prefix_len}
use Rattle.words.specs.Words.{if◌then◌else◌}
use Rattle.text.specs.Words.{class_of, run, Past}

-- the test of the class k
abbrev pub of_class : ℕ → ℕ → Bool
of_class k b = eqb (class_of b) k

run-front : (k : ℕ) (l : List ℕ) → prefix_len (of_class k) l ≡ run k l
unfolding run
run-front k [] = refl
run-front k (b ∷ l) = rw (run-front k l, one-add (run k l)) refl

run-inside : (k : ℕ) (l : List ℕ) → run k l ≤ length l
unfolding run
run-inside k [] = omega arith
run-inside k (b ∷ l) = elim (eqb (class_of b) k) as (λ t. (if t then suc (run k l) else 0) ≤ length (b ∷ l)) [ true ↦ omega (arith, run-inside k l) | false ↦ omega arith ]

-- r is as many more as are taken from `at` on
pub passed : (line : List ℕ) (at k n : ℕ) → at ≤ length line → n ≡ length (take (prefix_len (of_class k) (drop at line)) (drop at line)) → Past line at k (at + n)
passed line at k n inside taken =
    let same : n ≡ run k (drop at line) = taken ∙ length-prefix_len (of_class k) (drop at line) ∙ run-front k (drop at line) in
    record {
      least = omega arith;
      inside = omega (arith, same, run-inside k (drop at line), length-drop at line);
      exact = rw same refl;
    }
