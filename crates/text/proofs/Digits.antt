-- Digits one after the other: what a loop over the bytes keeps, one byte further on, and what it has where it stops. What is asked of all the bytes is asked of
-- those that are left; and the value only grows with each digit, so that a number is more than `most` as soon as its first digits are.
use mathlib.Core.Bool.{Bool, true, false, ◌&&◌}
use mathlib.Core.Path.{◌≡◌, refl, ap, ◌∙◌}
use mathlib.Core.List.{List, [], ◌∷◌}
use Prim.Native.Nat.{ℕ, ◌+◌, ◌-◌, ◌*◌, ◌≤◌, ◌<◌}
use native.Mathlib.Numerals.{add-one}
use native.Mathlib.Omega.{arith}
use lib.Dec.{leb, ltb}
use lib.ListN.{length, get_or, drop, length-drop}
use lib.Seq.{drop-cons}
use Rattle.std.specs.List.{list_all}
use borrow.Author.Tests.{lt-ltb, leb-true, leb-false, ltb-true, le-leb, lt-leb}
use Rattle.words.specs.Words.{if◌then◌else◌, all_of}
use Rattle.words.proofs.Truth.{and_left}
use Rattle.text.specs.Decimals.{is_digit, all_digits, value_from, value_of, at_most, number_of}
use Rattle.text.specs.declared.decimals.NumberError.TheVariants.{TooLarge, NotANumber}
use Rattle.std.specs.Prelude.{Ok, Err}

pub empty : (l : List ℕ) → length l ≡ 0 → l ≡ []
empty [] e = refl
empty (b ∷ l) e = absurd (omega (arith, e))

pub none_left : (l : List ℕ) (i : ℕ) → length l ≤ i → drop i l ≡ []
none_left l i past = empty (drop i l) (length-drop i l ∙ omega arith)

-- ---- All of them are digits.

-- what `all` answers
pub each : (p : ℕ → Bool) (l : List ℕ) → list_all p l ≡ all_of p l
unfolding all_of
each p [] = refl
each p (b ∷ l) = ap (λ (c : Bool). p b && c) (each p l)

pub digits-some : (l : List ℕ) → 0 < length l → list_all is_digit l ≡ all_digits l
unfolding all_digits
digits-some l some = each is_digit l ∙ rw (lt-ltb 0 (length l) some) refl

pub digits-none : (l : List ℕ) → length l ≡ 0 → false ≡ all_digits l
unfolding all_digits
digits-none l none = rw none refl

pub some : (l : List ℕ) → all_digits l ≡ true → 0 < length l
unfolding all_digits
some l all = ltb-true 0 (length l) (and_left (ltb 0 (length l)) (all_of is_digit l) all)

-- ---- Their value.

pub grows : (v : ℕ) (l : List ℕ) → v ≤ value_from v l
unfolding value_from
grows v [] = omega arith
grows v (b ∷ l) = omega (arith, grows (v * 10 + (b - 48)) l)

pub record Counting (l : List ℕ) (most v i : ℕ) : Type 0 where
  pub inside : i ≤ length l
  pub rest : value_of l ≡ value_from v (drop i l)
  pub low : v ≤ most

pub count-start : (l : List ℕ) (most : ℕ) → Counting l most 0 0
count-start l most = record { inside = omega arith; rest = refl; low = omega arith }

module _ {l : List ℕ} {most v i : ℕ} (k : Counting l most v i) where
  count-one : (d : ℕ) → i < length l → d ≡ get_or l i 0 - 48 → value_of l ≡ value_from (v * 10 + d) (drop (i + 1) l)
  unfolding value_from
  count-one d inside e = k.rest ∙ rw (add-one i, drop-cons l i 0 inside, e) refl

  pub count_next : (d : ℕ) → i < length l → d ≡ get_or l i 0 - 48 → leb (v * 10 + d) most ≡ true → Counting l most (v * 10 + d) (i + 1)
  count_next d inside e fits = record { inside = omega arith; rest = count-one d inside e; low = leb-true (v * 10 + d) most fits }

  pub count-large : (d : ℕ) → i < length l → d ≡ get_or l i 0 - 48 → leb (v * 10 + d) most ≡ false → Err TooLarge ≡ at_most (value_of l) most
  count-large d inside e more =
      let over = leb-false (v * 10 + d) most more in
      rw (lt-leb (value_of l) most (omega (arith, over, count-one d inside e, grows (v * 10 + d) (drop (i + 1) l)))) refl

  pub count-end : length l ≤ i → Ok v ≡ at_most (value_of l) most
  unfolding value_from
  count-end past =
      let whole : value_of l ≡ v = k.rest ∙ rw (none_left l i past) refl in
      rw (whole, le-leb v most k.low) refl

-- ---- A number that is read is at most `most`.

low-where : (all fits : Bool) (v x most : ℕ) → (fits ≡ true → x ≤ most) → Ok v ≡ (if all then (if fits then Ok x else Err TooLarge) else Err NotANumber) → v ≤ most
low-where true true v x most low e = let same : v ≡ x = cc in omega (arith, low refl)
low-where true false v x most low e = let z : ◌≡◌ {A = ℕ} 0 1 = cc in absurd (omega arith)
low-where false fits v x most low e = let z : ◌≡◌ {A = ℕ} 0 1 = cc in absurd (omega arith)

pub value_low : (l : List ℕ) (most v : ℕ) → Ok v ≡ number_of l most → v ≤ most
unfolding number_of
value_low l most v e = low-where (all_digits l) (leb (value_of l) most) v (value_of l) most (leb-true (value_of l) most) e
