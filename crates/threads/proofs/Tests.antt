-- Tests over lists of numbers, and what they show of each: of every number of a list, of 1 to n; and of standing in a list, and of being in a set, as
-- 1 or 0. By induction on the list.
use mathlib.Core.Bool.{Bool, true, false, true≢false, beq}
use mathlib.Core.Path.{◌≡◌, refl, sym, ap, ◌∙◌}
use mathlib.Core.Logic.{⊎_elim}
use mathlib.Core.List.{List, [], ◌∷◌}
use Prim.Native.Nat.{ℕ, zero, suc, ◌≤◌}
use native.Mathlib.Omega.{arith}
use lib.Dec.{eqb}
use borrow.Author.Tests.{eqb-true, eq-eqb, ne_eqb}
use Rattle.threads.specs.Threads.{hd, count}
use Rattle.threads.proofs.Lists.{count-nil, count-append, count-hit, count_past}
use Rattle.words.proofs.Truth.{tested, both, and-of, same_bool, of-same}
use Rattle.words.specs.Words.{is_empty, ◌among◌, one_to, all_of, has}
use Rattle.words.specs.Counting.{one, bit}
use Rattle.words.proofs.Counting.{one_same, one-other, one-eq}
use Rattle.threads.proofs.Queues.{count-cons}
use Rattle.words.proofs.Bits.{bit-of}

-- ---- Every number of a list.
pub all-of : (p : ℕ → Bool) (l : List ℕ) → all_of p l ≡ true → (y : ℕ) → 1 ≤ count y l → p y ≡ true
unfolding all_of
all-of p [] e y h = absurd (omega (arith, count-nil y))
all-of p (a ∷ l) e y h =
    let q = both (p a) (all_of p l) e in
    ⊎_elim (λ k. ap p (sym k.1) ∙ q.0) (λ k. all-of p l q.1 y (omega (arith, count_past a y l k.1))) (tested a y)

pub one-to : (n y : ℕ) → 1 ≤ y → y ≤ n → 1 ≤ count y (one_to n)
unfolding one_to
one-to zero y a b = absurd (omega arith)
one-to (suc n) y a b =
    ⊎_elim (λ k. omega (arith, count-append y (one_to n) (suc n ∷ []), count-hit (suc n) y [] k.1))
    (λ k. omega (arith, count-append y (one_to n) (suc n ∷ []), one-to n y a (omega (arith, k.1)))) (tested (suc n) y)

pub to-top : (n i : ℕ) → 1 ≤ count i (one_to n) → (1 ≤ i) × (i ≤ n)
unfolding one_to
to-top zero i c = absurd (omega (arith, c, count-nil i))
to-top (suc n) i c =
    ⊎_elim (λ z. omega (arith, z.1))
    (λ z. let w = to-top n i (omega (arith, c, count-append i (one_to n) (suc n ∷ []), count-cons (suc n) i [], one-other (suc n) i z.1, count-nil i)) in omega (arith, w)) (tested (suc n) i)

pub of-all : (p : ℕ → Bool) (l : List ℕ) → ((y : ℕ) → 1 ≤ count y l → p y ≡ true) → all_of p l ≡ true
unfolding all_of
of-all p [] f = refl
of-all p (a ∷ l) f =
    and-of (p a) (all_of p l) (f a (omega (arith, count-cons a a l, one_same a a refl))) (of-all p l (λ y c. f y (omega (arith, c, count-cons a y l))))

-- over 1 .. n
module _ (p : ℕ → Bool) (n : ℕ) where
  pub all-to : all_of p (one_to n) ≡ true → (y : ℕ) → 1 ≤ y → y ≤ n → p y ≡ true
  all-to e y a b = all-of p (one_to n) e y (one-to n y a b)

  pub to-all : ((y : ℕ) → 1 ≤ y → y ≤ n → p y ≡ true) → all_of p (one_to n) ≡ true
  to-all f = of-all p (one_to n) (λ y c. let b = to-top n y c in f y b.0 b.1)

pub among-count : (y : ℕ) (l : List ℕ) → y among l ≡ true → 1 ≤ count y l
unfolding ◌among◌
among-count y [] e = absurd (true≢false (sym e))
among-count y (a ∷ l) e =
    ⊎_elim (λ z. omega (arith, count-cons a y l, one_same a y z.1)) (λ z. omega (arith, count-cons a y l, among-count y l (rw z.0 at e))) (tested a y)

pub count-among : (y : ℕ) (l : List ℕ) → y among l ≡ false → count y l ≡ 0
unfolding ◌among◌
count-among y [] e = count-nil y
count-among y (a ∷ l) e =
    ⊎_elim (λ z. absurd (true≢false (rw z.0 at e))) (λ z. omega (arith, count-cons a y l, one-other a y z.1, count-among y l (rw z.0 at e))) (tested a y)

-- a number that is 0 or 1 and `one`: the two ways to say that two tests agree
pub agree : (x : Bool) (n a b : ℕ) → (x ≡ true → n ≡ 1) → (x ≡ false → n ≡ 0) → x ≡ eqb a b → n ≡ one a b
agree true n a b f g e = f refl ∙ sym (one_same a b (eqb-true a b (sym e)))
agree false n a b f g e = g refl ∙ sym (one-other a b (λ z. true≢false (sym (e ∙ eq-eqb a b z))))

pub agrees : (x : Bool) (n a b : ℕ) → (x ≡ true → n ≡ 1) → (x ≡ false → n ≡ 0) → n ≡ one a b → x ≡ eqb a b
agrees true n a b f g e = sym (eq-eqb a b (one-eq a b (sym e ∙ f refl)))
agrees false n a b f g e = sym (ne_eqb a b (λ z. omega (arith, g refl, e, one_same a b z)))

-- a rule of a set and of blocks: each number is in the set where the block's place is the given one
pub set-of : (w a b k : ℕ) → beq (has w k) (eqb a b) ≡ true → bit w k ≡ one a b
set-of w a b k e = agree (has w k) (bit w k) a b (bit-of w k) (bit-of w k) (same_bool (has w k) (eqb a b) e)

pub of-set : (w a b k : ℕ) → bit w k ≡ one a b → beq (has w k) (eqb a b) ≡ true
of-set w a b k e = of-same (has w k) (eqb a b) (agrees (has w k) (bit w k) a b (bit-of w k) (bit-of w k) e)

-- two tests of two numbers agree
eqb-one : (a b : ℕ) → eqb a b ≡ true → one a b ≡ 1
eqb-one a b t = one_same a b (eqb-true a b t)

eqb-none : (a b : ℕ) → eqb a b ≡ false → one a b ≡ 0
eqb-none a b t = one-other a b (λ z. true≢false (sym (eq-eqb a b z) ∙ t))

pub same_of : (a b x y : ℕ) → beq (eqb a b) (eqb x y) ≡ true → one a b ≡ one x y
same_of a b x y e = agree (eqb a b) (one a b) x y (eqb-one a b) (eqb-none a b) (same_bool (eqb a b) (eqb x y) e)

pub of-same-ones : (a b x y : ℕ) → one a b ≡ one x y → beq (eqb a b) (eqb x y) ≡ true
of-same-ones a b x y e = of-same (eqb a b) (eqb x y) (agrees (eqb a b) (one a b) x y (eqb-one a b) (eqb-none a b) e)

-- a list that is empty, and one that is not
pub emptied : (l : List ℕ) → is_empty l ≡ true → l ≡ []
emptied [] e = refl
emptied (a ∷ l) e = absurd (true≢false (sym e))

pub filled : (l : List ℕ) → is_empty l ≡ false → (m : List ℕ) × (l ≡ hd l ∷ m)
filled [] e = absurd (true≢false e)
filled (a ∷ l) e = (l, refl)
