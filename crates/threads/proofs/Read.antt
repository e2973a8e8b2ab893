-- The lists that are read off pointers are those that the pointers were made of: so sound pointers are determined by their lists, and each of their
-- cells says what the lists say. By walking along a list.
use mathlib.Core.Path.{◌≡◌, refl, sym, ap, ◌∙◌}
use mathlib.Core.List.{List, [], ◌∷◌, ◌++◌, map}
use Prim.Native.Nat.{ℕ, zero, suc, ◌≤◌, ◌<◌}
use native.Mathlib.Omega.{arith}
use native.Mathlib.Nat.{le_of_suc-le-suc, not-suc-le-zero}
use lib.ListN.{length, set, get_or, length-map, get_or-map}
use lib.Seq.{ext_get_or}
use borrow.Author.Tests.{ne_eqb}
use Rattle.threads.specs.declared.Threads.{Threads}
use Rattle.threads.specs.Threads.{QUEUES, BLOCKS, hd, lst, threaded, Apart, queue_in, walk, queues_of, counts, Sound, Holds, Member, without}
use Rattle.threads.proofs.Lists.{split}
use Rattle.threads.proofs.Rows.{row_at}
use Rattle.threads.proofs.Flat.{fwd-row, back-row}
use Rattle.threads.proofs.Laws.{Spot, first_block, member, sides, short, onward, less, restored, nowhere, spot-without}
use Rattle.threads.proofs.Change.{Gap, forward, backward}

-- ---- Pointers that are made of lists apart.

module _ {ls : List (List ℕ)} {q : ℕ} {A B : List ℕ} {x : ℕ} (s : Spot ls q A (x ∷ B)) where
  pub gap : Gap (set ls q (A ++ B)) ls q A B x
  gap = record { without = less s; within = s; filled = restored s (A ++ B); emptied = refl }

  made-next : get_or (threaded ls).fwd x 0 ≡ hd B
  made-next = let b = first_block x B (sides s).1 in ap (λ (a : List ℕ). get_or a x 0) (fwd-row ls) ∙ row_at _ x b.0 b.1 ∙ (forward gap).out

  made-prev : get_or (threaded ls).back x 0 ≡ lst 0 A
  made-prev = let b = first_block x B (sides s).1 in ap (λ (a : List ℕ). get_or a x 0) (back-row ls) ∙ row_at _ x b.0 b.1 ∙ (backward gap).out

walk-zero : (f : List ℕ) (n : ℕ) → walk f n 0 ≡ []
unfolding walk
walk-zero f zero = refl
walk-zero f (suc n) = refl

along : {ls : List (List ℕ)} {q : ℕ} {A B : List ℕ} → Spot ls q A B → (n : ℕ) → length B ≤ n → walk (threaded ls).fwd n (hd B) ≡ B
unfolding walk
along {B = []} s n h = walk-zero _ n
along {B = b ∷ B} s zero h = absurd (not-suc-le-zero h)
along {B = b ∷ B} s (suc n) h =
    let some : 1 ≤ b = (first_block b B (sides s).1).0 in
    rw (ne_eqb b 0 (omega arith), made-next s) (ap (λ (l : List ℕ). b ∷ l) (along (onward s) n (le_of_suc-le-suc h)))

module _ (ls : List (List ℕ)) (a : Apart ls) where
  made-queue : (q : ℕ) → q < QUEUES → queue_in (queues_of (threaded ls)) q ≡ queue_in ls q
  unfolding queues_of threaded
  made-queue q h =
      let ahead : ℕ → List ℕ = walk (threaded ls).fwd (suc BLOCKS) in
      let front : Spot ls q [] (queue_in ls q) = record { apart = a; queue = h; split = refl } in
      ap (get_or (map ahead (map hd ls)) q) (sym (walk-zero (threaded ls).fwd (suc BLOCKS)))
      ∙ get_or-map ahead (map hd ls) q 0 ∙ ap ahead (get_or-map hd ls q []) ∙ along front (suc BLOCKS) (short front)

  pub read_back : queues_of (threaded ls) ≡ ls
  unfolding queues_of threaded
  read_back =
      let long : length (queues_of (threaded ls)) ≡ length ls = length-map (map hd ls) _ ∙ length-map ls hd in
      ext_get_or [] _ ls long (λ q k. made-queue q (omega (arith, a.nine)))

  pub sound : (t : Threads) → t ≡ threaded ls → Sound t × (queues_of t ≡ ls)
  sound t e =
      let r : queues_of t ≡ ls = ap queues_of e ∙ read_back in
      (record { apart = rw r a; canon = rw r e }, r)

-- ---- Sound pointers.

-- what they hold determines them
pub determined : {t u : Threads} {ls : List (List ℕ)} → Holds t ls → Holds u ls → t ≡ u
determined h k = h.sound.canon ∙ ap threaded (h.lists ∙ sym k.lists) ∙ sym k.sound.canon

pub spot : {t : Threads} {q : ℕ} → Sound t → q < QUEUES → (A B : List ℕ) → queue_in (queues_of t) q ≡ A ++ B → Spot (queues_of t) q A B
spot s h A B e = record { apart = s.apart; queue = h; split = e }

module _ (t : Threads) (s : Sound t) (q : ℕ) (h : q < QUEUES) where
  pub first_of : get_or t.first q 0 ≡ hd (queue_in (queues_of t) q)
  unfolding threaded
  first_of = ap (λ (u : Threads). get_or u.first q 0) s.canon ∙ get_or-map hd (queues_of t) q []

  pub last_of : get_or t.last q 0 ≡ lst 0 (queue_in (queues_of t) q)
  unfolding threaded
  last_of = ap (λ (u : Threads). get_or u.last q 0) s.canon ∙ get_or-map (lst 0) (queues_of t) q []

  module _ (A B : List ℕ) (x : ℕ) (e : queue_in (queues_of t) q ≡ A ++ x ∷ B) where
    pub next_of : get_or t.fwd x 0 ≡ hd B
    next_of = ap (λ (u : Threads). get_or u.fwd x 0) s.canon ∙ made-next (spot s h A (x ∷ B) e)

    pub prev-of : get_or t.back x 0 ≡ lst 0 A
    prev-of = ap (λ (u : Threads). get_or u.back x 0) s.canon ∙ made-prev (spot s h A (x ∷ B) e)

-- along the pointers forward from a place
pub walked : {t : Threads} {q : ℕ} → Sound t → q < QUEUES → (A B : List ℕ) → queue_in (queues_of t) q ≡ A ++ B → walk t.fwd (suc BLOCKS) (hd B) ≡ B
walked s h A B e =
    let p = spot s h A B e in
    ap (λ (u : Threads). walk u.fwd (suc BLOCKS) (hd B)) s.canon ∙ along p (suc BLOCKS) (short p)

-- a member of a queue is a block, and in no queue once it is taken out
module _ {t : Threads} {q x : ℕ} (m : Member t q x) where
  pub node-some : 1 ≤ x
  node-some = (member (queues_of t) m.sound.apart q m.queue x m.here).0

  pub node-fits : x < suc BLOCKS
  node-fits = omega (arith, member (queues_of t) m.sound.apart q m.queue x m.here)

  pub gone : counts x (set (queues_of t) q (without x (queue_in (queues_of t) q))) ≡ 0
  gone =
      let (A, B, e) = split x (queue_in (queues_of t) q) m.here in
      let p = spot m.sound m.queue A (x ∷ B) e in
      rw (spot-without p) (nowhere p)
