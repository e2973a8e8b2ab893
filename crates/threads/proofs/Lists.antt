-- Laws of the functions on lists, clause by clause. `count` stands for 'is in' and for 'once', so that `omega` closes what is asked of members.
use mathlib.Core.Path.{◌≡◌, refl, sym, ap, ◌∙◌}
use mathlib.Core.Logic.{◌≢◌, ⊎_elim}
use mathlib.Core.List.{List, [], ◌∷◌, ◌++◌}
use Prim.Native.Nat.{ℕ, zero, suc, ◌+◌, ◌≤◌, ◌<◌}
use native.Mathlib.Omega.{arith}
use native.Mathlib.Nat.{le_of_suc-le-suc, not-suc-le-zero}
use lib.ListN.{length, set, get_or}
use lib.Seq.{set-get_or}
use borrow.Author.Tests.{eq-eqb, ne_eqb}
use Rattle.words.proofs.Truth.{tested}
use Rattle.threads.specs.Threads.{hd, lst, after, before, count, counts, without, insert_before}

-- ---- How often a number stands in a list.

pub count-nil : (y : ℕ) → count y [] ≡ 0
unfolding count
count-nil y = refl

pub count-hit : (a y : ℕ) (l : List ℕ) → a ≡ y → count y (a ∷ l) ≡ 1 + count y l
unfolding count
count-hit a y l e = rw (eq-eqb a y e)

pub count_past : (a y : ℕ) (l : List ℕ) → a ≢ y → count y (a ∷ l) ≡ count y l
unfolding count
count_past a y l n = rw (ne_eqb a y n) (omega arith)

pub count-one : (y x : ℕ) → x ≢ y → count y (x ∷ []) ≡ 0
count-one y x n = count_past x y [] n ∙ count-nil y

pub count-append : (y : ℕ) (s t : List ℕ) → count y (s ++ t) ≡ count y s + count y t
unfolding count
count-append y [] t = omega arith
count-append y (a ∷ s) t = omega (arith, count-append y s t)

-- one number more
pub count-mid : (y : ℕ) (A : List ℕ) (x : ℕ) (B : List ℕ) → count y (A ++ x ∷ B) ≡ count y (A ++ B) + count y (x ∷ [])
count-mid y A x B = omega (arith, count-append y A B, count-append y A (x ∷ B), count-append y (x ∷ []) B)

-- a list that does not have y: neither its first nor the others
pub absent-head : (a y : ℕ) (l : List ℕ) → count y (a ∷ l) ≡ 0 → (a ≢ y) × (count y l ≡ 0)
absent-head a y l h =
    ⊎_elim
    (λ e. absurd (omega (arith, count-hit a y l e.1)))
    (λ e. (e.1, sym (count_past a y l e.1) ∙ h))
    (tested a y)

-- ---- One list among lists.

pub counts-set : (y : ℕ) (ls : List (List ℕ)) (q : ℕ) (l : List ℕ) → q < length ls
    → counts y (set ls q l) + count y (get_or ls q []) ≡ counts y ls + count y l
unfolding counts
counts-set y [] q l h = absurd (not-suc-le-zero h)
counts-set y (m ∷ ls) zero l h = omega arith
counts-set y (m ∷ ls) (suc q) l h = omega (arith, counts-set y ls q l (le_of_suc-le-suc h))

pub count-counts : (y : ℕ) (ls : List (List ℕ)) (q : ℕ) → q < length ls → count y (get_or ls q []) ≤ counts y ls
count-counts y ls q h =
    omega (arith, counts-set y ls q (get_or ls q []) h, ap (counts y) (set-get_or ls q []), counts-set y ls q [] h, count-nil y)

-- ---- What stands after a number and before it.

pub after-here : (y : ℕ) (S : List ℕ) → after (y ∷ S) y ≡ hd S
unfolding after
after-here y S = rw (eq-eqb y y refl)

pub after-past : (a y : ℕ) (S : List ℕ) → a ≢ y → after (a ∷ S) y ≡ after S y
unfolding after
after-past a y S n = rw (ne_eqb a y n)

pub after_none : (l : List ℕ) (y : ℕ) → count y l ≡ 0 → after l y ≡ 0
unfolding after
after_none [] y h = refl
after_none (a ∷ l) y h = let n = absent-head a y l h in after-past a y l n.0 ∙ after_none l y n.1

pub before_here : (p y : ℕ) (S : List ℕ) → before p (y ∷ S) y ≡ p
unfolding before
before_here p y S = rw (eq-eqb y y refl)

pub before-past : (p a y : ℕ) (S : List ℕ) → a ≢ y → before p (a ∷ S) y ≡ before a S y
unfolding before
before-past p a y S n = rw (ne_eqb a y n)

pub before-none : (p : ℕ) (l : List ℕ) (y : ℕ) → count y l ≡ 0 → before p l y ≡ 0
unfolding before
before-none p [] y h = refl
before-none p (a ∷ l) y h = let n = absent-head a y l h in before-past p a y l n.0 ∙ before-none a l y n.1

-- ---- The first of a list and the last.

pub first-in : (l : List ℕ) → 1 ≤ hd l → 1 ≤ count (hd l) l
first-in [] h = absurd (not-suc-le-zero h)
first-in (a ∷ l) h = omega (arith, count-hit a a l refl)

pub last-in : (a : ℕ) (l : List ℕ) → 1 ≤ count (lst a l) (a ∷ l)
last-in a [] = omega (arith, count-hit a a [] refl)
last-in a (b ∷ l) = omega (arith, count-append (lst b l) (a ∷ []) (b ∷ l), last-in b l)

pub lst-append : (p : ℕ) (s t : List ℕ) → lst p (s ++ t) ≡ lst (lst p s) t
lst-append p [] t = refl
lst-append p (a ∷ s) t = lst-append a s t

-- ---- A list around one of its members.

pub split : (x : ℕ) (l : List ℕ) → 1 ≤ count x l → (A : List ℕ) × (B : List ℕ) × (l ≡ A ++ x ∷ B)
split x [] h = absurd (omega (arith, count-nil x))
split x (a ∷ l) h =
    ⊎_elim
    (λ e. ([], l, ap (λ (n : ℕ). n ∷ l) e.1))
    (λ e. let r = split x l (rw (count_past a x l e.1) at h) in (a ∷ r.0, r.1, ap (λ (m : List ℕ). a ∷ m) r.2))
    (tested a x)

pub without_at : (x : ℕ) (A B : List ℕ) → count x A ≡ 0 → without x (A ++ x ∷ B) ≡ A ++ B
unfolding without
without_at x [] B h = rw (eq-eqb x x refl)
without_at x (a ∷ A) B h = let n = absent-head a x A h in rw (ne_eqb a x n.0, without_at x A B n.1)

pub insert-at : (x v : ℕ) (A B : List ℕ) → count x A ≡ 0 → insert_before x v (A ++ x ∷ B) ≡ A ++ v ∷ x ∷ B
unfolding insert_before
insert-at x v [] B h = rw (eq-eqb x x refl)
insert-at x v (a ∷ A) B h = let n = absent-head a x A h in rw (ne_eqb a x n.0, insert-at x v A B n.1)
