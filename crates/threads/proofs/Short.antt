-- A list of numbers below n, none of them twice, has at most n of them: without n - 1 it is a list of numbers below n - 1.
use mathlib.Core.Path.{◌≡◌, refl, ap, ◌∙◌}
use mathlib.Core.Logic.{◌≢◌, ⊎_elim}
use mathlib.Core.List.{List, [], ◌∷◌, ◌++◌}
use Prim.Native.Nat.{ℕ, zero, suc, ◌+◌, ◌≤◌, ◌<◌}
use native.Mathlib.Omega.{arith}
use native.Mathlib.Nat.{not-suc-le-zero, eq-zero-or-pos}
use lib.ListN.{length, length-append}
use Rattle.threads.specs.Threads.{count}
use Rattle.threads.proofs.Lists.{count-hit, count-mid, split}
use Rattle.words.proofs.Truth.{tested}

pub length-once : (n : ℕ) (l : List ℕ) → ((y : ℕ) → count y l ≤ 1) → ((y : ℕ) → 1 ≤ count y l → y < n) → length l ≤ n
length-once zero [] once low = omega arith
length-once zero (a ∷ l) once low = absurd (not-suc-le-zero (low a (omega (arith, count-hit a a l refl))))
length-once (suc n) l once low =
    ⊎_elim
    (λ (none : count n l ≡ 0). omega (arith, length-once n l once (λ y h. under y (low y h) (λ e. omega (arith, ap (λ (z : ℕ). count z l) e)))))
    (λ some.
    let (A, B, e) = split n l some in
    let more : (y : ℕ) → count y l ≡ count y (A ++ B) + count y (n ∷ []) = λ y. ap (count y) e ∙ count-mid y A n B in
    let less =
    length-once n (A ++ B) (λ y. omega (arith, more y, once y))
    (λ y h. under y (low y (omega (arith, more y))) (λ z. omega (arith, more y, once y, count-hit n y [] z))) in
    omega (arith, ap length e, length-append A (n ∷ B), length-append A B))
    (eq-zero-or-pos (count n l))
  where
    under : (y : ℕ) → y < suc n → (n ≢ y) → y < n
    under y h k = ⊎_elim (λ e. absurd (k e.1)) (λ e. omega (arith, e.1)) (tested n y)
