-- All lists in one row, a 0 after each: so 0 stands before the first of each and after its last, and what stands after a block in the row, or before it,
-- is what does in the list that the block is in. So the pointers of many lists are those of one.
use mathlib.Core.Bool.{true, false, true≢false}
use mathlib.Core.Path.{◌≡◌, refl, sym, ap, ◌∙◌}
use mathlib.Core.Logic.{⊎_elim}
use mathlib.Core.List.{List, [], ◌∷◌, ◌++◌, append_assoc}
use Prim.Native.Nat.{ℕ, zero, suc, ◌+◌, ◌≤◌, ◌<◌}
use native.Mathlib.Omega.{arith}
use native.Mathlib.Nat.{le_of_suc-le-suc, not-suc-le-zero}
use lib.ListN.{length, set, take, drop}
use Rattle.words.specs.Words.{◌among◌}
use Rattle.words.proofs.Truth.{true-or-false, tested}
use Rattle.threads.specs.Threads.{hd, lst, after, before, list_of, count, counts, row, threaded}
use Rattle.threads.proofs.Lists.{count-append, count_past, after-past, before-past, lst-append}
use Rattle.threads.proofs.Rows.{row_same}

unfoldable pub flat : List (List ℕ) → List ℕ
flat [] = []
flat (l ∷ ls) = l ++ 0 ∷ flat ls

pub count-flat : (y : ℕ) (ls : List (List ℕ)) → 1 ≤ y → count y (flat ls) ≡ counts y ls
unfolding flat counts count
count-flat y [] h = refl
count-flat y (l ∷ ls) h =
    count-append y l (0 ∷ flat ls) ∙ ap (λ (n : ℕ). count y l + n) (count_past 0 y (flat ls) (omega arith) ∙ count-flat y ls h)

pub lst-flat : (ls : List (List ℕ)) → lst 0 (flat ls) ≡ 0
unfolding flat
lst-flat [] = refl
lst-flat (l ∷ ls) = lst-append 0 l (0 ∷ flat ls) ∙ lst-flat ls

pub flat-set : (ls : List (List ℕ)) (q : ℕ) (l : List ℕ) → q < length ls
    → flat (set ls q l) ≡ flat (take q ls) ++ (l ++ 0 ∷ flat (drop (suc q) ls))
unfolding flat
flat-set [] q l h = absurd (not-suc-le-zero h)
flat-set (m ∷ ls) zero l h = refl
flat-set (m ∷ ls) (suc q) l h = rw (flat-set ls q l (le_of_suc-le-suc h), append_assoc)

pub hd-row : (B F : List ℕ) → hd (B ++ 0 ∷ F) ≡ hd B
hd-row [] F = refl
hd-row (b ∷ B) F = refl

-- ---- A block of the list l, with more lists behind it.

after-own : (y : ℕ) (l F : List ℕ) → y among l ≡ true → after (l ++ 0 ∷ F) y ≡ after l y
unfolding ◌among◌ after
after-own y [] F e = absurd (true≢false (sym e))
after-own y (a ∷ l) F e = ⊎_elim (λ z. rw z.0 (hd-row l F)) (λ z. rw z.0 (after-own y l F (rw z.0 at e))) (tested a y)

before-own : (p y : ℕ) (l F : List ℕ) → y among l ≡ true → before p (l ++ 0 ∷ F) y ≡ before p l y
unfolding ◌among◌ before
before-own p y [] F e = absurd (true≢false (sym e))
before-own p y (a ∷ l) F e = ⊎_elim (λ z. rw z.0) (λ z. rw z.0 (before-own a y l F (rw z.0 at e))) (tested a y)

-- ---- A block that is not in l: the list is passed over.

after-over : (y : ℕ) (l F : List ℕ) → 1 ≤ y → y among l ≡ false → after (l ++ 0 ∷ F) y ≡ after F y
unfolding ◌among◌ after
after-over y [] F h e = after-past 0 y F (omega arith)
after-over y (a ∷ l) F h e = ⊎_elim (λ z. absurd (true≢false (rw z.0 at e))) (λ z. rw z.0 (after-over y l F h (rw z.0 at e))) (tested a y)

before-over : (p y : ℕ) (l F : List ℕ) → 1 ≤ y → y among l ≡ false → before p (l ++ 0 ∷ F) y ≡ before 0 F y
unfolding ◌among◌ before
before-over p y [] F h e = before-past p 0 y F (omega arith)
before-over p y (a ∷ l) F h e = ⊎_elim (λ z. absurd (true≢false (rw z.0 at e))) (λ z. rw z.0 (before-over a y l F h (rw z.0 at e))) (tested a y)

-- ---- Any block, in the list that it is in.

module _ (y : ℕ) (some : 1 ≤ y) where
  pub after-flat : (ls : List (List ℕ)) → after (flat ls) y ≡ after (list_of y ls) y
  unfolding flat list_of
  after-flat [] = refl
  after-flat (l ∷ ls) =
      ⊎_elim (λ (e : y among l ≡ true). rw e (after-own y l (flat ls) e)) (λ (e : y among l ≡ false). rw e (after-over y l (flat ls) some e ∙ after-flat ls))
      (true-or-false (y among l))

  pub before-flat : (ls : List (List ℕ)) → before 0 (flat ls) y ≡ before 0 (list_of y ls) y
  unfolding flat list_of
  before-flat [] = refl
  before-flat (l ∷ ls) =
      ⊎_elim (λ (e : y among l ≡ true). rw e (before-own 0 y l (flat ls) e))
      (λ (e : y among l ≡ false). rw e (before-over 0 y l (flat ls) some e ∙ before-flat ls))
      (true-or-false (y among l))

-- ---- The pointers of lists are those of the row.

module _ (ls : List (List ℕ)) where
  pub fwd-row : (threaded ls).fwd ≡ row (after (flat ls))
  unfolding threaded
  fwd-row = row_same _ _ (λ y h. sym (after-flat y h ls))

  pub back-row : (threaded ls).back ≡ row (before 0 (flat ls))
  unfolding threaded
  back-row = row_same _ _ (λ y h. sym (before-flat y h ls))
