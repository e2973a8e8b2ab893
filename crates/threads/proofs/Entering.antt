-- A block x on its way to its place by key: at each turn of the walk along the queue, placing x in the whole queue is passing over what is passed and
-- placing x in what is ahead.
use native.Mathlib.Omega.{arith}
use mathlib.Core.Path.{◌≡◌, refl, sym, ap, ◌∙◌}
use mathlib.Core.Logic.{◌≢◌}
use mathlib.Core.List.{List, [], ◌∷◌, ◌++◌, tail, append-nil}
use Prim.Native.Nat.{ℕ, suc, ◌≤◌, ◌<◌}
use lib.ListN.{length, get_or}
use lib.Seq.{append_snoc}
use borrow.Author.Tests.{lt-ltb, le-ltb}
use Rattle.words.specs.Words.{inserted_by}
use Rattle.threads.specs.declared.Threads.{Threads}
use Rattle.threads.specs.Threads.{BLOCKS, hd, walk, count, queue_in, queues_of, Outside, Member, insert_before}
use Rattle.threads.proofs.Lists.{count-hit}
use Rattle.threads.proofs.Read.{first_of}
use Rattle.threads.proofs.Walk.{opened, at-member, at-insert, at_next, at_split, at_less, none_ahead}

-- the walk is at y, the first of what is ahead
pub record Entering (t : Threads) (q x : ℕ) (Fits : (ℕ → ℕ) → Type 0) (y : ℕ) : Type 0 where
  pub passed : List ℕ
  pub ahead : List ℕ
  pub split : get_or (queues_of t) q [] ≡ passed ++ ahead
  pub here : y ≡ hd ahead
  pub same : (key : ℕ → ℕ) → Fits key → inserted_by key x (get_or (queues_of t) q []) ≡ passed ++ inserted_by key x ahead

-- x is asked for its key, and so is a block of the queue
pub asked-own : (x : ℕ) (l : List ℕ) → 1 ≤ count x (x ∷ l)
asked-own x l = omega (arith, count-hit x x l refl)

pub asked-in : (x y : ℕ) (l : List ℕ) → 1 ≤ count y l → 1 ≤ count y (x ∷ l)
unfolding count
asked-in x y l h = omega (arith, h)

module _ {t : Threads} {q x : ℕ} (f : Outside t q x) (Fits : (ℕ → ℕ) → Type 0) where
  pub entering : Entering t q x Fits (get_or t.first q 0)
  entering = record { passed = []; ahead = queue_in (queues_of t) q; split = refl; here = first_of t f.sound q f.queue; same = λ key h. refl }

  module _ {y : ℕ} (i : Entering t q x Fits y) where
    -- no block is ahead: x goes to the end
    pub entering-end : (key : ℕ → ℕ) → Fits key → y ≡ 0 → inserted_by key x (queue_in (queues_of t) q) ≡ queue_in (queues_of t) q ++ x ∷ []
    unfolding inserted_by
    entering-end key k z =
        let e = none_ahead f.sound f.queue i.passed i.ahead i.split (sym i.here ∙ z) in
        i.same key k ∙ rw (i.split, e, append-nil)

    module _ (n : y ≢ 0) where
      pub entering-member : Member t q y
      entering-member = at-member f.sound f.queue i.passed i.ahead i.split i.here n

      pub entering-less : length (walk t.fwd (suc BLOCKS) (get_or t.fwd y 0)) < length (walk t.fwd (suc BLOCKS) y)
      entering-less = at_less f.sound f.queue i.passed i.ahead i.split i.here n

      same_here : (key : ℕ → ℕ) → Fits key → inserted_by key x (queue_in (queues_of t) q) ≡ i.passed ++ inserted_by key x (y ∷ tail i.ahead)
      same_here key k = i.same key k ∙ ap (λ (l : List ℕ). i.passed ++ inserted_by key x l) (opened i.ahead y i.here n)

      -- y has a greater key: x goes before it
      pub entering-before : (key : ℕ → ℕ) → Fits key → key x < key y → inserted_by key x (queue_in (queues_of t) q) ≡ insert_before y x (queue_in (queues_of t) q)
      unfolding inserted_by
      entering-before key k h =
          same_here key k ∙ rw (lt-ltb (key x) (key y) h, at-insert f.sound f.queue i.passed i.ahead i.split i.here n x)

      -- it has not: x goes behind it
      pub entering-behind : ((key : ℕ → ℕ) → Fits key → key y ≤ key x) → Entering t q x Fits (get_or t.fwd y 0)
      unfolding inserted_by
      entering-behind h =
          record {
            passed = i.passed ++ (y ∷ []);
            ahead = tail i.ahead;
            split = at_split f.sound f.queue i.passed i.ahead i.split i.here n;
            here = at_next f.sound f.queue i.passed i.ahead i.split i.here n;
            same = λ key k. same_here key k ∙ rw (le-ltb (key x) (key y) (h key k), append_snoc i.passed y (inserted_by key x (tail i.ahead)));
          }
