-- Lists apart, at a place of one of them: what stands on its two sides, and that one block more there, or one less, keeps them apart. By counting.
use mathlib.Core.Path.{◌≡◌, refl, sym, ap, ◌∙◌}
use mathlib.Core.Logic.{⊎_elim}
use mathlib.Core.List.{List, [], ◌∷◌, ◌++◌}
use Prim.Native.Nat.{ℕ, suc, ◌+◌, ◌≤◌, ◌<◌}
use native.Mathlib.Omega.{arith}
use lib.ListN.{length, set, get_or, length-set}
use lib.Seq.{set-set, set-get_or, get_or-set_same, append_snoc}
use Rattle.threads.specs.Threads.{QUEUES, BLOCKS, hd, lst, count, counts, Apart, queue_in, without, insert_before}
use Rattle.threads.proofs.Lists.{count-nil, count-hit, count-one, count-append, count-mid, counts-set, count-counts, last-in, without_at, insert-at}
use Rattle.words.proofs.Truth.{tested}
use Rattle.threads.proofs.Short.{length-once}

-- ---- Lists of blocks.

abbrev pub Blocks : List ℕ → Type 0
Blocks l = (y : ℕ) → 1 ≤ count y l → (1 ≤ y) × (y ≤ BLOCKS)

pub first_block : (a : ℕ) (l : List ℕ) → Blocks (a ∷ l) → (1 ≤ a) × (a ≤ BLOCKS)
first_block a l b = b a (omega (arith, count-hit a a l refl))

pub last_block : (a : ℕ) (l : List ℕ) → Blocks (a ∷ l) → (1 ≤ lst a l) × (lst a l ≤ BLOCKS)
last_block a l b = b (lst a l) (last-in a l)

pub first-low : (l : List ℕ) → Blocks l → hd l ≤ BLOCKS
first-low [] b = omega arith
first-low (a ∷ l) b = (first_block a l b).1

pub last-low : (l : List ℕ) → Blocks l → lst 0 l ≤ BLOCKS
last-low [] b = omega arith
last-low (a ∷ l) b = (last_block a l b).1

-- ---- A place in the list q, between A and B.

pub record Spot (ls : List (List ℕ)) (q : ℕ) (A B : List ℕ) : Type 0 where
  pub apart : Apart ls
  pub queue : q < QUEUES
  pub split : get_or ls q [] ≡ A ++ B

pub onward : {ls : List (List ℕ)} {q : ℕ} {A B : List ℕ} {x : ℕ} → Spot ls q A (x ∷ B) → Spot ls q (A ++ (x ∷ [])) B
onward {A = A} {B} {x} s = record { apart = s.apart; queue = s.queue; split = s.split ∙ sym (append_snoc A x B) }

module _ {ls : List (List ℕ)} {q : ℕ} {A B : List ℕ} (s : Spot ls q A B) where
  pub inside : q < length ls
  inside = omega (arith, s.apart.nine)

  -- no block stands on both sides, or on one of them twice
  here : (y : ℕ) → count y A + count y B ≤ counts y ls
  here y = omega (arith, count-counts y ls q inside, ap (count y) s.split, count-append y A B)

  pub once-here : (y : ℕ) → count y A + count y B ≤ 1
  once-here y = omega (arith, here y, s.apart.once y)

  pub sides : Blocks A × Blocks B
  sides = (λ y h. s.apart.inside y (omega (arith, here y)), λ y h. s.apart.inside y (omega (arith, here y)))

  pub short : length B ≤ suc BLOCKS
  short = length-once (suc BLOCKS) B (λ y. omega (arith, once-here y)) (λ y h. omega (arith, sides.1 y h))

  pub self : set ls q (A ++ B) ≡ ls
  self = ap (set ls q) (sym s.split) ∙ set-get_or ls q []

  -- another list for the list q, and the old one again
  changed : (l : List ℕ) → queue_in (set ls q l) q ≡ l
  changed l = get_or-set_same ls q l [] inside

  pub restored : (l : List ℕ) → ls ≡ set (set ls q l) q (A ++ B)
  restored l = sym (set-set ls q l (A ++ B) ∙ self)

-- the same, with the parts of a place written out
module _ (ls : List (List ℕ)) (a : Apart ls) (q : ℕ) (h : q < QUEUES) where
  pub member : (y : ℕ) → 1 ≤ count y (queue_in ls q) → (1 ≤ y) × (y ≤ BLOCKS) × (count y (queue_in ls q) ≡ 1)
  member y k =
      let s : Spot ls q [] (queue_in ls q) = record { apart = a; queue = h; split = refl } in
      let b = (sides s).1 y k in
      (b.0, b.1, omega (arith, once-here s y))

  pub some-in-right : (A B : List ℕ) → queue_in ls q ≡ A ++ B → (y : ℕ) → 1 ≤ count y B → 1 ≤ y
  some-in-right A B e y k =
      let s : Spot ls q A B = record { apart = a; queue = h; split = e } in
      ((sides s).1 y k).0

-- ---- x more at the place.

module _ {ls : List (List ℕ)} {q : ℕ} {A B : List ℕ} {x : ℕ} (s : Spot ls q A B) (none : counts x ls ≡ 0) (some : 1 ≤ x) (low : x ≤ BLOCKS) where
  all : (y : ℕ) → counts y (set ls q (A ++ x ∷ B)) ≡ counts y ls + count y (x ∷ [])
  all y = omega (arith, counts-set y ls q (A ++ x ∷ B) (inside s), ap (count y) s.split, count-mid y A x B)

  pub more : Spot (set ls q (A ++ x ∷ B)) q A (x ∷ B)
  more =
      record {
        apart =
            record {
              nine = length-set ls q (A ++ x ∷ B) ∙ s.apart.nine;
              once = λ y. ⊎_elim
                  (λ e. omega (arith, all y, ap (λ (n : ℕ). counts n ls) e.1, count-hit x y [] e.1, count-nil y))
                  (λ e. omega (arith, all y, s.apart.once y, count-one y x e.1))
                  (tested x y);
              inside = λ y h. ⊎_elim
                  (λ e. omega (arith, e.1))
                  (λ e. s.apart.inside y (omega (arith, all y, count-one y x e.1)))
                  (tested x y);
            };
        queue = s.queue;
        split = changed s (A ++ x ∷ B);
      }

-- ---- x less, where it stands behind the place.

module _ {ls : List (List ℕ)} {q : ℕ} {A B : List ℕ} {x : ℕ} (s : Spot ls q A (x ∷ B)) where
  others : (y : ℕ) → counts y (set ls q (A ++ B)) + count y (x ∷ []) ≡ counts y ls
  others y = omega (arith, counts-set y ls q (A ++ B) (inside s), ap (count y) s.split, count-mid y A x B)

  pub nowhere : counts x (set ls q (A ++ B)) ≡ 0
  nowhere = omega (arith, others x, s.apart.once x, count-hit x x [] refl)

  pub less : Spot (set ls q (A ++ B)) q A B
  less =
      record {
        apart =
            record {
              nine = length-set ls q (A ++ B) ∙ s.apart.nine;
              once = λ y. omega (arith, others y, s.apart.once y);
              inside = λ y h. s.apart.inside y (omega (arith, others y));
            };
        queue = s.queue;
        split = changed s (A ++ B);
      }

  new : count x A ≡ 0
  new = omega (arith, once-here s x, count-hit x x B refl)

  pub spot-without : without x (queue_in ls q) ≡ A ++ B
  spot-without = ap (without x) s.split ∙ without_at x A B new

  pub spot-insert : (v : ℕ) → insert_before x v (queue_in ls q) ≡ A ++ v ∷ x ∷ B
  spot-insert v = ap (insert_before x v) s.split ∙ insert-at x v A B new
