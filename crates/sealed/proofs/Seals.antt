-- A block that was sealed passes, and one that passes was sealed: the check looks at the bytes below it alone, and it fits in two bytes.
use mathlib.Core.Bool.{true}
use mathlib.Core.Path.{◌≡◌, refl, sym, ap, ap₂, ◌∙◌}
use mathlib.Core.List.{List, [], ◌∷◌, ◌++◌, map}
use Prim.Native.Nat.{ℕ, zero, suc, ◌+◌, ◌^◌, ◌≤◌, ◌<◌}
use native.Mathlib.Omega.{arith}
use borrow.Author.Tests.{eqb-true, eq-eqb}
use lib.ListN.{length, get_or, take, drop, set, length-append, length-drop, take-append-drop, get_or-append}
use lib.Seq.{take_at, get_or-take, get_or-drop, get_or-append-add, length-take-le}
use Rattle.words.specs.Words.{below}
use Rattle.words.specs.Bytes.{number, digit}
use Rattle.words.proofs.Lists.{listed-length, listed_at, listed_of}
use Rattle.words.proofs.Numbers.{digit-number, number_digits}
use Rattle.sealed.specs.Sealed.{weighted, check_of, block_check, passes, sealed}

-- ---- What the check looks at, and how great it is.

weighted-take : (b : List ℕ) (m i : ℕ) → i ≤ m → weighted (take m b) i ≡ weighted b i
unfolding weighted
weighted-take b m zero h = refl
weighted-take b m (suc i) h = rw (weighted-take b m i (omega arith), get_or-take m b i 0)

-- it looks at the first 510 bytes alone
pub check-take : (b : List ℕ) → check_of (take 510 b) ≡ check_of b
unfolding check_of
check-take b = rw (weighted-take b 510 510 (omega arith))

pub check-low : (b : List ℕ) → check_of b < 2 ^ 16
unfolding check_of
check-low b = omega arith

-- ---- Of 510 bytes, sealed.
module _ (body : List ℕ) (long : length body ≡ 510) where
  abbrev ending : List ℕ
  ending = map (digit (check_of body)) (below 2)

  pub sealed-length : length (sealed body) ≡ 512
  unfolding sealed
  sealed-length = length-append body _ ∙ ap₂ (λ (m n : ℕ). m + n) long (listed-length (digit (check_of body)) 2)

  pub sealed-front : take 510 (sealed body) ≡ body
  unfolding sealed
  sealed-front = take_at body ending 510 long

  pub sealed-at : (i : ℕ) → i < 510 → get_or (sealed body) i 0 ≡ get_or body i 0
  unfolding sealed
  sealed-at i l = get_or-append body ending 0 i (omega arith)

  check-byte : (j : ℕ) → j < 2 → get_or (sealed body) (510 + j) 0 ≡ digit (check_of body) j
  unfolding sealed
  check-byte j l = rw long at (get_or-append-add body ending j 0) ∙ listed_at (digit (check_of body)) 2 j 0 l

  same_check : check_of (sealed body) ≡ check_of body
  same_check = sym (check-take (sealed body)) ∙ ap check_of sealed-front

  -- a sealed block passes
  pub sealed-passes : passes (sealed body) ≡ true
  sealed-passes = eq-eqb _ _ (number_digits (sealed body) (check_of body) 2 510 check-byte (check-low body) ∙ sym same_check)

-- ---- Of 512 bytes.

-- a block that passes is sealed
module _ (b : List ℕ) (long : length b ≡ 512) (bytes : (k : ℕ) → get_or b k 0 < 256) (e : passes b ≡ true) where
  check-same : map (digit (check_of b)) (below 2) ≡ drop 510 b
  check-same =
      listed_of (digit (check_of b)) (drop 510 b) 2 0 (length-drop 510 b ∙ omega (arith, long))
      (λ j l. ap (λ (x : ℕ). digit x j) (sym (eqb-true (number b 510 2) (check_of b) e)) ∙ digit-number b bytes 2 510 j l ∙ sym (get_or-drop 510 b j 0))

  pub passes-sealed : sealed (take 510 b) ≡ b
  unfolding sealed
  passes-sealed = rw (check-take b, check-same) (take-append-drop 510 b)

-- the number that the block check answers, put into the last two bytes, makes a block that passes
module _ (b : List ℕ) (long : length b ≡ 512) where
  block-check-seals : take 510 b ++ map (digit (block_check b)) (below 2) ≡ sealed (take 510 b)
  unfolding block_check sealed
  block-check-seals = rw (eq-eqb (length b) 512 long, check-take b)

  pub block-check-passes : passes (take 510 b ++ map (digit (block_check b)) (below 2)) ≡ true
  block-check-passes = ap passes block-check-seals ∙ sealed-passes (take 510 b) (length-take-le 510 b (omega arith))

-- ---- Sealing puts in the last two.

last-two : (out : List ℕ) (n x y : ℕ) → length out ≡ suc (suc n) → set (set out n x) (suc n) y ≡ take n out ++ x ∷ y ∷ []
last-two [] n x y e = absurd (omega arith)
last-two (a ∷ []) n x y e = absurd (omega arith)
last-two (a ∷ b ∷ []) zero x y e = refl
last-two (a ∷ b ∷ c ∷ l) zero x y e = absurd (omega arith)
last-two (a ∷ b ∷ l) (suc n) x y e = ap (λ (t : List ℕ). a ∷ t) (last-two (b ∷ l) n x y (omega arith))

two : (f : ℕ → ℕ) → map f (below 2) ≡ f 0 ∷ f 1 ∷ []
unfolding below
two f = refl

pub seal-made : (b : List ℕ) {check x y : ℕ} → length b ≡ 512 → check ≡ check_of b → x ≡ digit check 0 → y ≡ digit check 1 → set (set b 510 x) 511 y ≡ sealed (take 510 b)
unfolding sealed
seal-made b {check} {x} {y} long k f g =
    let same : check ≡ check_of (take 510 b) = k ∙ sym (check-take b) in
    last-two b 510 x y long ∙ ap (λ (l : List ℕ). take 510 b ++ l) (rw (f, g, same) (sym (two (digit (check_of (take 510 b))))))
