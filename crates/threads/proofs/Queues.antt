-- Queues: how often a block stands in one that it enters or leaves, and that the order by a key stays. By induction on the list.
use mathlib.Core.Bool.{Bool, true, false, cond, ◌&&◌}
use mathlib.Core.Path.{◌≡◌, refl, sym, ap, ap₂, ◌∙◌}
use mathlib.Core.Logic.{◌≢◌, ⊎_elim}
use mathlib.Core.List.{List, [], ◌∷◌, ◌++◌}
use Prim.Native.Nat.{ℕ, suc, ◌+◌, ◌≤◌, ◌<◌}
use native.Mathlib.Omega.{arith}
use lib.ListN.{length, set, get_or, length-set}
use lib.Seq.{get_or-set_same, get_or-set_other}
use lib.Dec.{leb, ltb}
use borrow.Author.Tests.{leb-true, le-leb, ltb-true, ltb-false}
use Rattle.threads.specs.Threads.{count, counts, without}
use Rattle.threads.proofs.Lists.{count-nil, count-append, count-hit, count_past}
use Rattle.words.proofs.Truth.{tested, both}
use Rattle.words.specs.Words.{up_by, inserted_by}
use Rattle.words.specs.Counting.{one}
use Rattle.words.proofs.Counting.{one_same, one-or}

-- how often y stands in k alone, behind k, before k
pub count-cons : (k y : ℕ) (l : List ℕ) → count y (k ∷ l) ≡ one k y + count y l
count-cons k y l = ⊎_elim (λ t. count-hit k y l t.0 ∙ ap (λ (i : ℕ). i + count y l) (sym t.1)) (λ t. count_past k y l t.0 ∙ omega (arith, t.1)) (one-or k y)

pub count-last : (k y : ℕ) (l : List ℕ) → count y (l ++ k ∷ []) ≡ count y l + one k y
count-last k y l = omega (arith, count-append y l (k ∷ []), count-cons k y [], count-nil y)

pub count-placed : (key : ℕ → ℕ) (k y : ℕ) (l : List ℕ) → count y (inserted_by key k l) ≡ count y l + one k y
unfolding inserted_by
count-placed key k y [] = omega (arith, count-cons k y [], count-nil y)
count-placed key k y (a ∷ l) = go (ltb (key k) (key a)) (count-placed key k y l)
  where
    go : (b : Bool) → count y (inserted_by key k l) ≡ count y l + one k y → count y (cond b (k ∷ a ∷ l) (a ∷ inserted_by key k l)) ≡ count y (a ∷ l) + one k y
    go true ih = omega (arith, count-cons k y (a ∷ l))
    go false ih = omega (arith, ih, count-cons a y (inserted_by key k l), count-cons a y l)

pub count-without : (k y : ℕ) (l : List ℕ) → 1 ≤ count k l → count y (without k l) + one k y ≡ count y l
unfolding without
count-without k y [] h = absurd (omega (arith, h, count-nil k))
count-without k y (a ∷ l) h =
    ⊎_elim
    (λ c. rw c.0 (rw c.1 (omega (arith, count-cons k y l))))
    (λ c. rw c.0 (omega (arith, count-without k y l (rw (count_past a k l c.1) at h), count-cons a y l, count-cons a y (without k l))))
    (tested a k)

-- a block that stands in none of the queues
pub counts-none : (y : ℕ) (ls : List (List ℕ)) → ((q : ℕ) → q < length ls → count y (get_or ls q []) ≡ 0) → counts y ls ≡ 0
unfolding counts
counts-none y [] f = refl
counts-none y (l ∷ ls) f = omega (arith, f 0 (omega arith), counts-none y ls (λ q h. f (suc q) (omega (arith, h))))

-- ---- One queue of the nine changed.
module _ (l : List (List ℕ)) (q : ℕ) (m : List ℕ) (nine : length l ≡ 9) (low : q < 9) where
  pub set-nine : length (set l q m) ≡ 9
  set-nine = length-set l q m ∙ nine

  pub set-queue : get_or (set l q m) q [] ≡ m
  set-queue = get_or-set_same l q m [] (omega (arith, nine))

  pub set-others : (i : ℕ) → i ≢ q → get_or (set l q m) i [] ≡ get_or l i []
  set-others i n = get_or-set_other l q i m [] n

  -- every count is what it was, but in that queue
  pub set-count : (i y : ℕ) → count y m ≡ count y (get_or l q []) → count y (get_or (set l q m) i []) ≡ count y (get_or l i [])
  set-count i y e = ⊎_elim (λ c. rw c.1 (rw set-queue e)) (λ c. rw (set-others i c.1)) (tested i q)

-- ---- Order.
module _ (f g : ℕ → ℕ) where
  pub up_same : (l : List ℕ) → ((y : ℕ) → 1 ≤ count y l → f y ≡ g y) → up_by f l ≡ up_by g l
  unfolding up_by
  up_same [] e = refl
  up_same (a ∷ []) e = refl
  up_same (a ∷ b ∷ l) e =
      ap₂ (λ (x y : Bool). x && y)
      (ap₂ leb (e a (omega (arith, count-cons a a (b ∷ l), one_same a a refl))) (e b (omega (arith, count-cons a b (b ∷ l), count-cons b b l, one_same b b refl))))
      (up_same (b ∷ l) (λ y h. e y (omega (arith, count-cons a y (b ∷ l)))))

module _ (f : ℕ → ℕ) where
  up-both : (a b : ℕ) (l : List ℕ) → up_by f (a ∷ b ∷ l) ≡ true → (f a ≤ f b) × (up_by f (b ∷ l) ≡ true)
  unfolding up_by
  up-both a b l e = let p = both (leb (f a) (f b)) (up_by f (b ∷ l)) e in (leb-true _ _ p.0, p.1)

  up-and : (a b : ℕ) (l : List ℕ) → f a ≤ f b → up_by f (b ∷ l) ≡ true → up_by f (a ∷ b ∷ l) ≡ true
  unfolding up_by
  up-and a b l h e = rw (le-leb _ _ h, e)

  up_one : (a : ℕ) → up_by f (a ∷ []) ≡ true
  unfolding up_by
  up_one a = refl

  up-tail : (a : ℕ) (l : List ℕ) → up_by f (a ∷ l) ≡ true → up_by f l ≡ true
  unfolding up_by
  up-tail a [] e = refl
  up-tail a (b ∷ l) e = (up-both a b l e).1

  up-behind : (a k : ℕ) (l : List ℕ) → f a ≤ f k → up_by f (a ∷ l) ≡ true → up_by f (a ∷ inserted_by f k l) ≡ true
  unfolding inserted_by
  up-behind a k [] h e = up-and a k [] h (up_one k)
  up-behind a k (c ∷ l) h e = go (ltb (f k) (f c)) refl (λ i. up-behind c k l i (up-both a c l e).1)
    where
      go : (b : Bool) → ltb (f k) (f c) ≡ b → (f c ≤ f k → up_by f (c ∷ inserted_by f k l) ≡ true) → up_by f (a ∷ cond b (k ∷ c ∷ l) (c ∷ inserted_by f k l)) ≡ true
      go true t ih = up-and a k (c ∷ l) h (up-and k c l (let z = ltb-true (f k) (f c) t in omega (arith, z)) (up-both a c l e).1)
      go false t ih = up-and a c (inserted_by f k l) (up-both a c l e).0 (ih (ltb-false _ _ t))

  pub up-placed : (k : ℕ) (l : List ℕ) → up_by f l ≡ true → up_by f (inserted_by f k l) ≡ true
  unfolding inserted_by
  up-placed k [] e = up_one k
  up-placed k (c ∷ l) e = go (ltb (f k) (f c)) refl
    where
      go : (b : Bool) → ltb (f k) (f c) ≡ b → up_by f (cond b (k ∷ c ∷ l) (c ∷ inserted_by f k l)) ≡ true
      go true t = up-and k c l (let z = ltb-true (f k) (f c) t in omega (arith, z)) e
      go false t = up-behind c k l (ltb-false _ _ t) e

  up-skip : (a c : ℕ) (l : List ℕ) → up_by f (a ∷ c ∷ l) ≡ true → up_by f (a ∷ l) ≡ true
  up-skip a c [] e = up_one a
  up-skip a c (d ∷ l) e =
      let p = up-both a c (d ∷ l) e in
      let r = up-both c d l p.1 in
      up-and a d l (omega (arith, p.0, r.0)) r.1

  up_left : (a k : ℕ) (l : List ℕ) → up_by f (a ∷ l) ≡ true → up_by f (a ∷ without k l) ≡ true
  unfolding without
  up_left a k [] e = e
  up_left a k (c ∷ l) e =
      ⊎_elim (λ t. rw t.0 (up-skip a c l e))
      (λ t. rw t.0 (let p = up-both a c l e in up-and a c (without k l) p.0 (up_left c k l p.1))) (tested c k)

  pub up-without : (k : ℕ) (l : List ℕ) → up_by f l ≡ true → up_by f (without k l) ≡ true
  unfolding without
  up-without k [] e = e
  up-without k (c ∷ l) e = ⊎_elim (λ t. rw t.0 (up-tail c l e)) (λ t. rw t.0 (up_left c k l e)) (tested c k)
