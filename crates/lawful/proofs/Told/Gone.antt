-- What becomes of the tasks that an abort takes: each is free, or waits as ending, and has no parent. A task is so once it is taken, and stays so while those above it are taken,
-- since it is in no queue. By induction on the chain. And of the others, by Others.
use mathlib.Core.Bool.{Bool, true, false}
use mathlib.Core.Path.{◌≡◌, refl, sym, ap, ◌∙◌}
use mathlib.Core.Logic.{◌≢◌, ◌⊎◌, inl, inr, ⊎_elim}
use mathlib.Core.List.{List, [], ◌∷◌}
use Prim.Native.Nat.{ℕ, zero, suc, ◌≤◌}
use native.Mathlib.Omega.{arith}
use lib.Seq.{get_or-set_other}
use Rattle.threads.specs.Threads.{count}
use Rattle.words.proofs.Truth.{tested}
use Rattle.words.specs.Words.{if◌then◌else◌}
use Rattle.tables.specs.declared.Task.{Task}
use Rattle.tables.specs.Blocks.{Free, Ending, no_task, task_blocks}
use Rattle.tables.specs.State.{State, core_queue, with_running, task_at, queue, level_of}
use Rattle.calls.specs.declared.Call.{Call}
use Rattle.meaning.specs.Ready.{placed}
use Rattle.calls.specs.Calls.{PROGRAM-CHECK}
use Rattle.meaning.specs.Services.{program_check, deeds, deed_of, effect}
use Rattle.meaning.proofs.Deeds.{deed-at}
use Rattle.meaning.specs.Rules.{queue_for, upward}
use Rattle.meaning.specs.Finish.{freed_task, pending, finished, ended, unlinked, aborted}
use Rattle.lawful.specs.Shape.{place_of}
use Rattle.lawful.specs.Resting.{Aborting, Lawful}
use Rattle.lawful.specs.Reached.{taken, taken_by}
use Rattle.lawful.proofs.Blocks.Shape.{other_place, rest-place}
use Rattle.words.proofs.Counting.{one-other}
use Rattle.lawful.proofs.Blocks.Members.{queue-place}
use Rattle.lawful.proofs.Each.Chains.{upward-none}
use Rattle.lawful.proofs.Each.Finish.{Finishes}
use Rattle.lawful.proofs.Chained.Views.{set_own}
use Rattle.lawful.proofs.Each.Abort.{done, end-alone, aborted-none, aborted-step, upward-zero, upward-step, starts-abort}
use Rattle.lawful.proofs.Told.Taken.{some, on, not-again, above, absent, upward-stopped, the-chain, check-takes}
use Rattle.lawful.proofs.Told.Others.{Other, freed-free, unlinked-parent, others-stay}

pub record Gone (s : State) (y : ℕ) : Type 0 where
  pub place : ((task_at s y).place ≡ Free) ⊎ ((task_at s y).place ≡ Ending)
  pub parent : (task_at s y).parent ≡ 0

gone_same : {s t : State} {y : ℕ} → task_at t y ≡ task_at s y → Gone s y → Gone t y
gone_same {s} {t} {y} e g = record { place = rw e g.place; parent = rw e g.parent }

-- ---- The task that is taken.
-- a block as it is, or no task
is-gone : (s : State) (k : ℕ) {x : Task} → x.place ≡ Ending → x.parent ≡ 0 → (task_at s k ≡ x) ⊎ (task_at s k ≡ no_task) → Gone s k
is-gone s k p q e =
    ⊎_elim (λ z. record { place = inr (ap (λ (t : Task). t.place) z ∙ p); parent = ap (λ (t : Task). t.parent) z ∙ q })
    (λ z. record { place = inl (ap (λ (t : Task). t.place) z); parent = ap (λ (t : Task). t.parent) z }) e

waits-gone : (s : State) (k : ℕ) → (task_at s k).parent ≡ 0 → Gone (placed s k Ending) k
waits-gone s k e = is-gone (placed s k Ending) k refl e (set_own _ no_task s.tasks k)

free-gone : (s : State) (k : ℕ) → Gone (freed_task s k) k
free-gone s k =
    let e = freed-free s k in
    record { place = inl (ap (λ (t : Task). t.place) e); parent = ap (λ (t : Task). t.parent) e }

freed-gone : (s : State) (k : ℕ) → Gone (finished s k) k
unfolding finished
freed-gone s k = free-gone _ k

pub taken-gone : (s : State) (k : ℕ) → Gone (taken k s) k
unfolding taken ended
taken-gone s k = go (pending (unlinked s k) k)
  where
    go : (b : Bool) → Gone (if b then placed (unlinked s k) k Ending else finished (unlinked s k) k) k
    go true = waits-gone (unlinked s k) k (unlinked-parent s k)
    go false = freed-gone (unlinked s k) k

-- ---- A task that was taken before, while another is.
module _ {n k : ℕ} {s : State} (a : Aborting (suc n) k s) (y : ℕ) (lo : 1 ≤ y) (hi : y ≤ task_blocks) (d : y ≢ k) (g : Gone s y) where
  -- it is in no core queue
  no-queue : (level : ℕ) → 1 ≤ level → level ≤ 3 → count y (queue s (core_queue level)) ≡ 0
  no-queue level l h =
      let p = other_place s [] k y d ∙ rest-place s y in
      (a.hand.shape.tasks y lo hi).queued (core_queue level) (omega arith)
      ∙ one-other (queue_for (place_of s (k ∷ []) y) (level_of s y)) (core_queue level)
      (λ e. let b = queue-place (place_of s (k ∷ []) y) (level_of s y) (core_queue level) e (omega arith) in ⊎_elim (λ z. omega (arith, b, p ∙ z)) (λ z. omega (arith, b, p ∙ z)) g.place)

  still : {h : List ℕ} → Finishes (unlinked s k) (ended (unlinked s k) k) k h [] → task_at (taken k s) y ≡ task_at s y
  unfolding taken unlinked
  still f =
      f.tasks y d (λ z. omega (arith, z, unlinked-parent s k, lo)) no-queue ∙ get_or-set_other s.tasks k y _ no_task d

  kept-gone : Gone (taken k s) y
  kept-gone =
      gone_same (⊎_elim (λ z. still (end-alone a.hand a.rest a.core z.1)) (λ z. still (done a.hand a.rest a.core z.1)) (tested (task_at s k).parent 0)) g

-- ---- The chain. One that was taken before, and is not on the chain that is left, stays so; and so each that is on the chain comes to be so, once it is taken.
next_up : {n k : ℕ} {s : State} (a : Aborting (suc n) k s) (z : (task_at s k).parent ≢ 0) (i : ℕ) → upward (taken k s) i (task_at s k).parent ≡ upward s (suc i) k
next_up {n} {k} {s} a z i = above a z i (task_at s k).parent (not-again a z) ∙ sym (upward-step s i k)

takes_first : (n k : ℕ) (s : State) → k ≢ 0 → aborted (suc n) k s ≡ aborted n (task_at s k).parent (taken k s)
unfolding taken
takes_first n k s d = aborted-step n k s d

-- the rest of the chain is taken
rest-taken : {n k : ℕ} {s : State} {y : ℕ} (a : Aborting (suc n) k s) → ((task_at s k).parent ≢ 0 → Gone (aborted n (task_at s k).parent (taken k s)) y) → Gone (taken k s) y
    → Gone (aborted (suc n) k s) y
rest-taken {n} {k} {s} a f g =
    rw (takes_first n k s (some a)) (⊎_elim (λ z. rw (z.1, aborted-none n (taken k s)) g) (λ z. f z.1) (tested (task_at s k).parent 0))

stays-gone : (n k : ℕ) (s : State) → Aborting n k s → (y : ℕ) → 1 ≤ y → y ≤ task_blocks → ((i : ℕ) → upward s i k ≢ y) → Gone s y → Gone (aborted n k s) y
stays-gone zero k s a y lo hi f g = absurd (omega (arith, sym (upward-zero s k) ∙ a.chain, a.hand.some))
stays-gone (suc n) k s a y lo hi f g =
    let g' = kept-gone a y lo hi (λ e. f 0 (upward-zero s k ∙ sym e)) g in
    rest-taken a (λ z. stays-gone n (task_at s k).parent (taken k s) (on a z) y lo hi (λ i e. f (suc i) (sym (next_up a z i) ∙ e)) g') g'

pub chain-gone : (n k : ℕ) (s : State) → Aborting n k s → (i : ℕ) → upward s i k ≢ 0 → Gone (aborted n k s) (upward s i k)
chain-gone zero k s a i d = absurd (omega (arith, sym (upward-zero s k) ∙ a.chain, a.hand.some))
chain-gone (suc n) k s a zero d =
    rw (upward-zero s k) (rest-taken a (λ z. stays-gone n (task_at s k).parent (taken k s) (on a z) k a.hand.some a.hand.low
    (λ i e. not-again a z i (sym (above a z i (task_at s k).parent (not-again a z)) ∙ e)) (taken-gone s k)) (taken-gone s k))
chain-gone (suc n) k s a (suc i) d =
    ⊎_elim (λ z. absurd (d (upward-step s i k ∙ ap (upward s i) z.1 ∙ upward-none a.hand.shape i)))
    (λ z.
    rw (takes_first n k s (some a), ← next_up a z.1 i)
    (chain-gone n (task_at s k).parent (taken k s) (on a z.1) i (λ e. d (sym (next_up a z.1 i) ∙ e)))) (tested (task_at s k).parent 0)

-- ---- The abort of a program check: those of the chain that the tables had, and the others.
module _ {s : State} (g : Lawful s) (c : Call) (e : c.code ≡ PROGRAM-CHECK) where
  pub check-gone : (i : ℕ) → upward s i s.running ≢ 0 → Gone (effect s c).state (upward s i s.running)
  unfolding deeds deed_of program_check
  check-gone i d =
      let r : s.running ≢ 0 = λ z. d (ap (upward s i) z ∙ upward-none g.shape i) in
      let u = upward-stopped s 0 i s.running in
      rw (deed-at s c PROGRAM-CHECK e, ← u) (chain-gone 24 s.running (with_running s 0) (starts-abort g r) i (λ z. d (sym u ∙ z)))

  pub check-others : (y : ℕ) → y ≢ 0 → ((i : ℕ) → upward s i s.running ≢ y) → Other s (effect s c).state y
  check-others y d f =
      rw (check-takes s c e) (others-stay (taken_by 24 s.running (with_running s 0)) (with_running s 0) y (absent y _ d (λ i z. f i (sym (the-chain g i) ∙ z))))
