-- A block in hand enters a queue: the queue has it once more, at the end or by its time, and the block says so. By `put`.
use mathlib.Core.Bool.{true}
use mathlib.Core.Path.{◌≡◌, refl, sym, ap, ◌∙◌}
use mathlib.Core.Logic.{◌≢◌, ⊎_elim}
use mathlib.Core.List.{List, []}
use Prim.Native.Nat.{ℕ, ◌+◌, ◌≤◌, ◌<◌}
use native.Mathlib.Omega.{arith}
use lib.ListN.{set, get_or}
use lib.Seq.{get_or-set_other}
use Rattle.threads.specs.Threads.{count, QUEUES}
use Rattle.words.proofs.Truth.{tested}
use Rattle.words.specs.Words.{up_by}
use Rattle.tables.specs.declared.Task.{Task}
use Rattle.tables.specs.State.{State, time_queue, channel_queue, with_task, task_at, queue, level_of}
use Rattle.tables.specs.Blocks.{Running, InLink, no_task, since_in}
use Rattle.meaning.specs.Rules.{queue_for}
use Rattle.lawful.specs.Shape.{Hand, Fields, Stands, Shape, InHand}
use Rattle.words.specs.Counting.{one}
use Rattle.lawful.proofs.Blocks.Shape.{held_place}
use Rattle.words.proofs.Counting.{one_same, one-other}
use Rattle.lawful.proofs.Blocks.Fields.{SameTask}
use Rattle.lawful.proofs.Blocks.Put.{putting, put}
use Rattle.threads.proofs.Queues.{set-nine, set-queue, set-others, set-count, up_same}

module _ {s : State} {k : ℕ} {h : List ℕ} {e : ℕ} (i : InHand s k h e) where
  pub hand-stands : Stands s Hand k
  hand-stands = rw (held_place s h k) at (i.shape.tasks k i.some i.low)

  -- it is in no queue, and does not run
  pub hand-count : (q : ℕ) → q < QUEUES → count k (queue s q) ≡ 0
  unfolding queue_for
  hand-count q l = hand-stands.queued q l ∙ one-other 9 q (λ z. omega (arith, z, l))

  pub hand-runs : one s.running k ≡ 0
  hand-runs = hand-stands.runs ∙ one-other Hand Running (λ z. omega (arith, z))

  -- the times of the others stay, whatever becomes of its block
  pub hand-timed : (x : Task) → up_by (λ a. (task_at (with_task s k x) a).time) (queue s time_queue) ≡ true
  hand-timed x =
      up_same _ (λ a. (task_at s a).time) (queue s time_queue)
      (λ y c. ap (λ (t : Task). t.time)
      (get_or-set_other s.tasks k y x no_task (λ z. omega (arith, c, hand-count time_queue (omega arith), ap (λ (j : ℕ). count j (queue s time_queue)) z))))
      ∙ i.shape.timed

  -- into the queue q, as the block x: the list m has k once more
  module _ (x : Task) (q : ℕ) (m : List ℕ) (low : q < 8) (own : queue_for x.place (level_of s k) ≡ q) (more : (y : ℕ) → count y m ≡ count y (queue s q) + one k y)
      (same : SameTask (task_at s k) x) (since : x.since ≡ since_in s.clock x.place) (f : Fields s.directory x.place x) (kinds : (2 ≤ x.place) × (x.place ≤ 5)) where
    pub enter : up_by (λ a. (task_at (with_task s k x) a).time) (get_or (set s.queues q m) time_queue []) ≡ true
        → Shape (putting s k x (set s.queues q m) s.running) h e
    enter timed =
        let nine = i.shape.sizes.queues in
        put s k x i.shape (record {
          some = i.some;
          low = i.low;
          out = i.out;
          same = same;
          used = omega (arith, kinds);
          fields = f;
          nine = set-nine s.queues q m nine (omega arith);
          others = λ j y d. set-count s.queues q m nine (omega arith) j y (omega (arith, more y, one-other k y (λ z. d (sym z))));
          own = λ j l.
              ⊎_elim
              (λ z. rw (z.1, set-queue s.queues q m nine (omega arith)) (omega (arith, more k, hand-count q (omega arith), one_same k k refl, one_same _ q own)))
              (λ z. rw (set-others s.queues q m nine (omega arith) j z.1) (hand-count j l ∙ sym (one-other _ j (λ b. z.1 (sym b ∙ own)))))
              (tested j q);
          bound = i.shape.blank.running;
          runs = hand-runs ∙ sym (one-other x.place Running (λ z. omega (arith, z, kinds)));
          run-others = λ y a b. refl;
          checks = λ z. absurd (omega (arith, z, kinds));
          ends = λ z. absurd (omega (arith, z, kinds));
          since = since;
          links = omega (arith, one-other x.place InLink (λ z. omega (arith, z, kinds)));
          link-others = λ y a d. refl;
          timed = timed;
          channel = set-others s.queues q m nine (omega arith) channel_queue (λ z. omega (arith, z));
        })

    -- into another queue than the time queue, whose order is then what it was
    pub enter-other : q ≢ time_queue → Shape (putting s k x (set s.queues q m) s.running) h e
    enter-other d = enter (rw (set-others s.queues q m i.shape.sizes.queues (omega arith) time_queue (λ z. d (sym z))) (hand-timed x))
