-- The links of one list, forward by `after` and back by `before`, at a place between P and S: they join P's last number and S's first; and with x
-- put in there, only those from these two and from x are others. By induction on P.
use mathlib.Core.Bool.{cond}
use mathlib.Core.Path.{◌≡◌, sym, ap, ◌∙◌}
use mathlib.Core.Logic.{◌≢◌, ⊎_elim}
use mathlib.Core.List.{List, [], ◌∷◌, ◌++◌}
use Prim.Native.Nat.{ℕ, ◌≤◌}
use native.Mathlib.Omega.{arith}
use native.Mathlib.Nat.{not-suc-le-zero}
use lib.Seq.{append_snoc}
use lib.Dec.{eqb}
use Rattle.threads.specs.Threads.{hd, lst, after, before, count}
use Rattle.threads.proofs.Lists.{count-append, count-hit, count_past, count-one, absent-head, after-here, after-past, after_none, before_here, before-past, before-none, first-in, last-in, lst-append}
use Rattle.words.proofs.Truth.{tested}

-- ---- At a number that stands first behind P.

pub after-at : (P S : List ℕ) (y : ℕ) → count y P ≡ 0 → after (P ++ y ∷ S) y ≡ hd S
after-at [] S y h = after-here y S
after-at (a ∷ P) S y h = let n = absent-head a y P h in after-past a y (P ++ y ∷ S) n.0 ∙ after-at P S y n.1

pub before_at : (p : ℕ) (P S : List ℕ) (y : ℕ) → count y P ≡ 0 → before p (P ++ y ∷ S) y ≡ lst p P
before_at p [] S y h = before_here p y S
before_at p (a ∷ P) S y h = let n = absent-head a y P h in before-past p a y (P ++ y ∷ S) n.0 ∙ before_at a P S y n.1

-- ---- At the two numbers beside the place.

after_last : (P S : List ℕ) → 1 ≤ lst 0 P → count (lst 0 P) P ≤ 1 → after (P ++ S) (lst 0 P) ≡ hd S
after_last [] S h o = absurd (not-suc-le-zero h)
after_last (a ∷ []) S h o = after-here a S
after_last (a ∷ b ∷ P) S h o =
    let p = lst b P in
    ⊎_elim
    (λ e. absurd (omega (arith, count-hit a p (b ∷ P) e.1, last-in b P)))
    (λ e. after-past a p (b ∷ P ++ S) e.1 ∙ after_last (b ∷ P) S h (rw (count_past a p (b ∷ P) e.1) at o))
    (tested a p)

before-first : (P S : List ℕ) → 1 ≤ hd S → count (hd S) P ≡ 0 → before 0 (P ++ S) (hd S) ≡ lst 0 P
before-first P [] h o = absurd (not-suc-le-zero h)
before-first P (s ∷ S) h o = before_at 0 P S s o

-- ---- At any other number, x or no x.

after-other : (P S : List ℕ) (x y : ℕ) → x ≢ y → lst 0 P ≢ y → after (P ++ S) y ≡ after (P ++ x ∷ S) y
unfolding after
after-other [] S x y n m = sym (after-past x y S n)
after-other (a ∷ []) S x y n m = after-past a y S m ∙ sym (after-past a y (x ∷ S) m ∙ after-past x y S n)
after-other (a ∷ b ∷ P) S x y n m = ap (cond (eqb a y) b) (after-other (b ∷ P) S x y n m)

before-other : (p : ℕ) (P S : List ℕ) (x y : ℕ) → x ≢ y → hd S ≢ y → before p (P ++ S) y ≡ before p (P ++ x ∷ S) y
unfolding before
before-other p [] [] x y n m = sym (before-past p x y [] n)
before-other p [] (s ∷ S) x y n m = before-past p s y S m ∙ sym (before-past p x y (s ∷ S) n ∙ before-past x s y S m)
before-other p (a ∷ P) S x y n m = ap (cond (eqb a y) p) (before-other a P S x y n m)

-- ---- All links of one direction, without x, f, and with x between p and s, g. A link from 0 is none.

pub record Spliced (f g : ℕ → ℕ) (p x s : ℕ) : Type 0 where
  pub none : f x ≡ 0
  pub over : 1 ≤ p → f p ≡ s
  pub into : 1 ≤ p → g p ≡ x
  pub out : g x ≡ s
  pub other : (y : ℕ) → x ≢ y → p ≢ y → f y ≡ g y

module _ (P S : List ℕ) (x : ℕ) (nowhere : count x (P ++ S) ≡ 0) (once : (y : ℕ) → 1 ≤ y → count y (P ++ S) ≤ 1) where
  front : count x P ≡ 0
  front = omega (arith, count-append x P S)

  last-once : 1 ≤ lst 0 P → count (lst 0 P) P ≤ 1
  last-once h = omega (arith, once (lst 0 P) h, count-append (lst 0 P) P S)

  first-new : 1 ≤ hd S → count (hd S) (P ++ (x ∷ [])) ≡ 0
  first-new h =
      let other : x ≢ hd S = λ e. omega (arith, first-in S h, ap (λ (z : ℕ). count z S) e, count-append x P S) in
      omega (arith, once (hd S) h, first-in S h, count-append (hd S) P S, count-append (hd S) P (x ∷ []), count-one (hd S) x other)

  pub forward : Spliced (after (P ++ S)) (after (P ++ x ∷ S)) (lst 0 P) x (hd S)
  forward =
      record {
        none = after_none (P ++ S) x nowhere;
        over = λ h. after_last P S h (last-once h);
        into = λ h. after_last P (x ∷ S) h (last-once h);
        out = after-at P S x front;
        other = after-other P S x;
      }

  pub backward : Spliced (before 0 (P ++ S)) (before 0 (P ++ x ∷ S)) (hd S) x (lst 0 P)
  backward =
      record {
        none = before-none 0 (P ++ S) x nowhere;
        over = λ h. before-first P S h (omega (arith, first-new h, count-append (hd S) P (x ∷ [])));
        into = λ h. rw (← append_snoc P x S) (before-first (P ++ (x ∷ [])) S h (first-new h) ∙ lst-append 0 P (x ∷ []));
        out = before_at 0 P S x front;
        other = before-other 0 P S x;
      }
