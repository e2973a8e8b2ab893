-- Laws of tables that are held: one set of tables for a state; the first of a queue; a block of no queue.
use mathlib.Core.Path.{◌≡◌, refl, sym, ap, ◌∙◌}
use mathlib.Core.Bool.{true, false, true≢false}
use mathlib.Core.Logic.{◌≢◌}
use mathlib.Core.List.{List, [], ◌∷◌, ◌++◌, tail}
use Prim.Native.Nat.{ℕ, ◌<◌, suc}
use native.Mathlib.Omega.{arith}
use lib.ListN.{length, set, get_or}
use Rattle.threads.specs.declared.Threads.{Threads}
use Rattle.threads.specs.Threads.{hd, count, counts, queues_of, walk, without, Sound, Member, Outside, QUEUES}
use Rattle.threads.proofs.Lists.{count-hit}
use Rattle.threads.proofs.Read.{first_of, next_of, walked, gone}
use Rattle.threads.proofs.Walk.{none_first}
use Rattle.words.specs.Words.{is_empty}
use Rattle.tables.specs.declared.Tables.{Tables}
use Rattle.tables.specs.State.{State, queue, read, pointing, tabled}
use Rattle.tables.specs.Held.{Shows, Fit, Held, Loose}
use Rattle.tables.specs.Blocks.{task_blocks}

-- tables that show a state are the tables of it, and so no others show it
pub shown : {t : Tables} {s : State} → Shows t s → t ≡ tabled s
shown {t} {s} h = ap (pointing (read t)) h.sound.canon ∙ ap tabled h.reads

pub shown-once : {t u : Tables} {s : State} → Shows t s → Shows u s → t ≡ u
shown-once h k = shown h ∙ sym (shown k)

-- what a function ensures is what the next one asks, where the lists fit
pub held : {t : Tables} {s : State} → Shows t s → Fit s → Held t
held h f = record { sound = h.sound; fit = rw h.reads f }

-- ---- The first of a queue: 0 where the queue is empty, else one of it. All that callers use of the laws of the threads is here.

pub first-filled : (l : List ℕ) → hd l ≢ 0 → is_empty l ≡ false
first-filled [] n = absurd (n refl)
first-filled (a ∷ l) n = refl

pub first-split : (l : List ℕ) {k : ℕ} → k ≡ hd l → k ≢ 0 → l ≡ k ∷ tail l
first-split [] e n = absurd (n e)
first-split (a ∷ l) e n = ap (λ (i : ℕ). i ∷ l) (sym e)

pub queues-nine : {h : Threads} → Sound h → length (queues_of h) ≡ QUEUES
queues-nine s = s.apart.nine

module _ {h : Threads} {q : ℕ} (s : Sound h) (l : q < QUEUES) where
  pub first-is : get_or h.first q 0 ≡ hd (get_or (queues_of h) q [])
  first-is = first_of h s q l

  pub first-empty : hd (get_or (queues_of h) q []) ≡ 0 → get_or (queues_of h) q [] ≡ []
  first-empty e = none_first s l e

  pub first-none : hd (get_or (queues_of h) q []) ≡ 0 → is_empty (get_or (queues_of h) q []) ≡ true
  first-none e = ap is_empty (first-empty e)

  pub first_some : is_empty (get_or (queues_of h) q []) ≡ false → hd (get_or (queues_of h) q []) ≢ 0
  first_some f e = true≢false (sym (first-none e) ∙ f)

  pub first_member : {k : ℕ} → k ≡ hd (get_or (queues_of h) q []) → k ≢ 0 → Member h q k
  first_member {k} e n =
      let m = ap (count k) (first-split (get_or (queues_of h) q []) e n) in
      record { sound = s; queue = l; here = omega (arith, m, count-hit k k (tail (get_or (queues_of h) q [])) refl) }

  -- the blocks from k on, and the one behind it
  module _ (A B : List ℕ) where
    pub walk_is : get_or (queues_of h) q [] ≡ A ++ B → walk h.fwd 41 (hd B) ≡ B
    walk_is e = walked s l A B e

    pub next-is : (k : ℕ) → get_or (queues_of h) q [] ≡ A ++ k ∷ B → get_or h.fwd k 0 ≡ hd B
    next-is k e = next_of h s q l A B k e

pub first-low : {t : Tables} {q k : ℕ} → Held t → q < 8 → k ≡ hd (queue (read t) q) → k ≢ 0 → k < suc task_blocks
first-low h l e n = h.fit.tasks _ _ l (first_member h.sound (omega arith) e n).here

-- a block that leaves its queue is in none
pub left_out : {h : Threads} {q k : ℕ} → Member h q k → counts k (set (queues_of h) q (without k (get_or (queues_of h) q []))) ≡ 0
left_out m = gone m

-- a block of no queue can be put into any
pub loose-free : {t : Tables} {k : ℕ} (q : ℕ) → Loose t k → q < QUEUES → Outside t.threads q k
loose-free q l h = record { sound = l.held.sound; queue = h; some = l.some; low = omega (arith, l.low); none = l.out }
