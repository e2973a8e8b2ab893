-- "its threads agreeing forward and back", of the pointers alone. A block stands at one place of one queue, and its neighbours there are its two pointers; or it is in no queue,
-- and has none. By cutting the queue at the block.
use mathlib.Core.Path.{◌≡◌, refl, sym, ap, ◌∙◌}
use mathlib.Core.Logic.{◌≢◌, ⊎_elim, ◌↔◌}
use mathlib.Core.List.{List, [], ◌∷◌, ◌++◌}
use Prim.Native.Nat.{ℕ, suc, ◌≤◌, ◌<◌}
use native.Mathlib.Omega.{arith}
use lib.ListN.{length, get_or}
use Rattle.threads.specs.declared.Threads.{Threads}
use Rattle.threads.specs.Threads.{hd, lst, after, before, row, threaded, count, counts, queue_in, queues_of, Sound, BLOCKS, QUEUES}
use Rattle.threads.proofs.Lists.{split, lst-append, after_none, before-none}
use Rattle.threads.proofs.Flat.{flat, count-flat, fwd-row, back-row}
use Rattle.threads.proofs.Rows.{row_at}
use Rattle.threads.proofs.Laws.{Blocks, first_block, last_block, first-low, last-low, sides, onward}
use Rattle.threads.proofs.Walk.{opened}
use Rattle.threads.proofs.Read.{spot, first_of, last_of, next_of, prev-of}
use Rattle.words.proofs.Places.{under-or-from}

-- ---- Lists.

-- a list that has one has a last
ended_by : (a : ℕ) (l : List ℕ) → (m : List ℕ) × (a ∷ l ≡ m ++ lst a l ∷ [])
ended_by a [] = ([], refl)
ended_by a (b ∷ l) = let w = ended_by b l in (a ∷ w.0, ap (λ (m : List ℕ). a ∷ m) w.1)

last-split : (l : List ℕ) (y : ℕ) → lst 0 l ≡ y → y ≢ 0 → (m : List ℕ) × (l ≡ m ++ y ∷ [])
last-split [] y e d = absurd (d (sym e))
last-split (a ∷ l) y e d = let w = ended_by a l in (w.0, w.1 ∙ ap (λ (x : ℕ). w.0 ++ x ∷ []) e)

onto : (a : List ℕ) (y : ℕ) (b : List ℕ) → (a ++ y ∷ []) ++ b ≡ a ++ y ∷ b
onto [] y b = refl
onto (x ∷ a) y b = ap (λ (l : List ℕ). x ∷ l) (onto a y b)

-- a list of blocks with no first, or no last, is empty
no-first : (l : List ℕ) → Blocks l → hd l ≡ 0 → l ≡ []
no-first [] b e = refl
no-first (a ∷ l) b e = absurd (omega (arith, e, (first_block a l b).0))

no_last : (l : List ℕ) → Blocks l → lst 0 l ≡ 0 → l ≡ []
no_last [] b e = refl
no_last (a ∷ l) b e = absurd (omega (arith, e, (last_block a l b).0))

-- a block of lists is in one of them
found_in : (y : ℕ) (ls : List (List ℕ)) → 1 ≤ counts y ls → (q : ℕ) × (q < length ls) × (1 ≤ count y (get_or ls q []))
unfolding counts
found_in y [] c = absurd (omega (arith, c))
found_in y (l ∷ ls) c =
    ⊎_elim (λ z. let w = found_in y ls (omega (arith, c, z)) in (suc w.0, omega (arith, w.1), w.2)) (λ z. (0, omega arith, z)) (under-or-from (count y l) 1)

module _ (t : Threads) (s : Sound t) where
  -- ---- No block, and a block of no queue.
  pub fwd-zero : get_or t.fwd 0 0 ≡ 0
  unfolding threaded row
  fwd-zero = ap (λ (u : Threads). get_or u.fwd 0 0) s.canon

  pub back-zero : get_or t.back 0 0 ≡ 0
  unfolding threaded row
  back-zero = ap (λ (u : Threads). get_or u.back 0 0) s.canon

  module _ (y : ℕ) (some : 1 ≤ y) (fits : y ≤ BLOCKS) (out : counts y (queues_of t) ≡ 0) where
    pub none-behind : get_or t.fwd y 0 ≡ 0
    unfolding threaded
    none-behind =
        ap (λ (u : Threads). get_or u.fwd y 0) s.canon ∙ ap (λ (l : List ℕ). get_or l y 0) (fwd-row (queues_of t)) ∙ row_at (after (flat (queues_of t))) y some fits ∙ after_none (flat (queues_of t)) y (count-flat y (queues_of t) some ∙ out)

    pub none_ahead : get_or t.back y 0 ≡ 0
    unfolding threaded
    none_ahead =
        ap (λ (u : Threads). get_or u.back y 0) s.canon ∙ ap (λ (l : List ℕ). get_or l y 0) (back-row (queues_of t)) ∙ row_at (before 0 (flat (queues_of t))) y some fits
        ∙ before-none 0 (flat (queues_of t)) y (count-flat y (queues_of t) some ∙ out)

  -- ---- A block of a queue, which is cut there.
  record Cut (y : ℕ) : Type 0 where
    at : ℕ
    queue : at < QUEUES
    ahead : List ℕ
    behind : List ℕ
    whole : queue_in (queues_of t) at ≡ ahead ++ y ∷ behind
    next : get_or t.fwd y 0 ≡ hd behind
    prev : get_or t.back y 0 ≡ lst 0 ahead
    blocks-ahead : Blocks ahead
    blocks-behind : Blocks behind

  cut : (y : ℕ) → 1 ≤ counts y (queues_of t) → Cut y
  cut y c =
      let f = found_in y (queues_of t) c in
      let q = f.0 in
      let l : q < QUEUES = omega (arith, f.1, s.apart.nine) in
      let (a, b, e) = split y (queue_in (queues_of t) q) f.2 in
      let w = spot s l a (y ∷ b) e in
      record {
        at = q;
        queue = l;
        ahead = a;
        behind = b;
        whole = e;
        next = next_of t s q l a b y e;
        prev = prev-of t s q l a b y e;
        blocks-ahead = (sides w).0;
        blocks-behind = (sides (onward w)).1;
      }

  -- by whether it is in one
  placed : {C : Type 0} (y : ℕ) → (counts y (queues_of t) ≡ 0 → C) → (Cut y → C) → C
  placed y f g = ⊎_elim (λ z. f (omega (arith, z))) (λ z. g (cut y z)) (under-or-from (counts y (queues_of t)) 1)

  -- ---- The two agree.
  module _ (y z : ℕ) (some-y : 1 ≤ y) (low-y : y ≤ BLOCKS) (some-z : 1 ≤ z) (low-z : z ≤ BLOCKS) where
    behind-ahead : get_or t.fwd y 0 ≡ z → get_or t.back z 0 ≡ y
    behind-ahead e =
        placed y (λ o. absurd (omega (arith, e, none-behind y some-y low-y o, some-z)))
        (λ c.
        let o = opened c.behind z (sym e ∙ c.next) (λ i. omega (arith, i, some-z)) in
        let w = c.whole ∙ ap (λ (l : List ℕ). c.ahead ++ y ∷ l) o ∙ sym (onto c.ahead y (z ∷ _)) in
        prev-of t s c.at c.queue (c.ahead ++ y ∷ []) _ z w ∙ lst-append 0 c.ahead (y ∷ []))

    ahead-behind : get_or t.back z 0 ≡ y → get_or t.fwd y 0 ≡ z
    ahead-behind e =
        placed z (λ o. absurd (omega (arith, e, none_ahead z some-z low-z o, some-y)))
        (λ c.
        let m = last-split c.ahead y (sym c.prev ∙ e) (λ i. omega (arith, i, some-y)) in
        let w = c.whole ∙ ap (λ (l : List ℕ). l ++ z ∷ c.behind) m.1 ∙ onto m.0 y (z ∷ c.behind) in
        next_of t s c.at c.queue m.0 (z ∷ c.behind) y w)

    pub both_ways : (get_or t.fwd y 0 ≡ z) ↔ (get_or t.back z 0 ≡ y)
    both_ways = (behind-ahead, ahead-behind)

  -- ---- They name blocks.
  pub names-blocks : (y : ℕ) → y ≤ BLOCKS → (get_or t.fwd y 0 ≤ BLOCKS) × (get_or t.back y 0 ≤ BLOCKS)
  names-blocks y b =
      ⊎_elim (λ (z : y < 1). let i : y ≡ 0 = omega (arith, z) in rw i (omega (arith, fwd-zero, back-zero)))
      (λ z. placed y (λ o. omega (arith, none-behind y z b o, none_ahead y z b o))
      (λ c. (rw c.next (first-low c.behind c.blocks-behind), rw c.prev (last-low c.ahead c.blocks-ahead)))) (under-or-from y 1)

  -- ---- The first of a queue has none before it, and no other block of it has; the last has none behind it, and no other.
  module _ (q : ℕ) (h : q < QUEUES) where
    pub first_ends : get_or t.back (get_or t.first q 0) 0 ≡ 0
    first_ends = go (queue_in (queues_of t) q) refl
      where
        go : (l : List ℕ) → queue_in (queues_of t) q ≡ l → get_or t.back (get_or t.first q 0) 0 ≡ 0
        go [] e = ap (λ (y : ℕ). get_or t.back y 0) (first_of t s q h ∙ ap hd e) ∙ back-zero
        go (a ∷ l) e = ap (λ (y : ℕ). get_or t.back y 0) (first_of t s q h ∙ ap hd e) ∙ prev-of t s q h [] l a e

    pub last-ends : get_or t.fwd (get_or t.last q 0) 0 ≡ 0
    last-ends = go (queue_in (queues_of t) q) refl
      where
        go : (l : List ℕ) → queue_in (queues_of t) q ≡ l → get_or t.fwd (get_or t.last q 0) 0 ≡ 0
        go [] e = ap (λ (y : ℕ). get_or t.fwd y 0) (last_of t s q h ∙ ap (lst 0) e) ∙ fwd-zero
        go (a ∷ l) e =
            let w = ended_by a l in
            ap (λ (y : ℕ). get_or t.fwd y 0) (last_of t s q h ∙ ap (lst 0) e) ∙ next_of t s q h w.0 [] (lst a l) (e ∙ w.1)

  module _ (y : ℕ) (in-queue : 1 ≤ counts y (queues_of t)) where
    pub begins : get_or t.back y 0 ≡ 0 → (q : ℕ) × (q < QUEUES) × (get_or t.first q 0 ≡ y)
    begins e =
        let c = cut y in-queue in
        let a = no_last c.ahead c.blocks-ahead (sym c.prev ∙ e) in
        (c.at, c.queue, first_of t s c.at c.queue ∙ ap hd (c.whole ∙ ap (λ (l : List ℕ). l ++ y ∷ c.behind) a))

    pub ends : get_or t.fwd y 0 ≡ 0 → (q : ℕ) × (q < QUEUES) × (get_or t.last q 0 ≡ y)
    ends e =
        let c = cut y in-queue in
        let b = no-first c.behind c.blocks-behind (sym c.next ∙ e) in
        (c.at, c.queue, last_of t s c.at c.queue ∙ ap (lst 0) (c.whole ∙ ap (λ (l : List ℕ). c.ahead ++ y ∷ l) b) ∙ lst-append 0 c.ahead (y ∷ []))
