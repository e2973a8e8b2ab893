-- A block in hand waits for events, or for a time: it enters the event queue at its end, or the time queue by its time.
use mathlib.Core.Bool.{false}
use mathlib.Core.Path.{◌≡◌, refl, sym, ap, ◌∙◌}
use mathlib.Core.Logic.{⊎_elim}
use mathlib.Core.List.{List, [], ◌∷◌, ◌++◌}
use Prim.Native.Nat.{ℕ, ◌≤◌}
use native.Mathlib.Omega.{arith}
use lib.ListN.{length, get_or}
use lib.Seq.{get_or-set_same, get_or-set_other}
use lib.Bits.{bit_and}
use Rattle.threads.specs.Threads.{count, QUEUES}
use Rattle.words.proofs.Truth.{tested}
use Rattle.words.specs.Words.{inserted_by, size}
use Rattle.image.specs.Directory.{no_entry}
use Rattle.tables.specs.State.{State, with_task, event_queue, time_queue, channel_queue, core_queue, task_at, queue, joining}
use Rattle.tables.specs.Blocks.{awaiting_events, awaiting_time, no_task}
use Rattle.meaning.specs.Conditions.{in_time, enough}
use Rattle.meaning.specs.Rules.{queue_for}
use Rattle.lawful.specs.Shape.{Shape, InHand}
use Rattle.lawful.specs.Resting.{Rest}
use Rattle.words.proofs.Counting.{one-other}
use Rattle.lawful.proofs.Blocks.Fields.{event-fields, time-fields}
use Rattle.threads.proofs.Queues.{set-queue, set-others, up-placed, count-last, count-placed}
use Rattle.lawful.proofs.Blocks.Enter.{hand-stands, hand-count, hand-timed, enter, enter-other}
use Rattle.lawful.proofs.Ready.Resting.{rest-beside}
use Rattle.lawful.proofs.Ready.Made.{stuck-same}
use Rattle.lawful.proofs.Blocks.Sums.{field-kept}

module _ {s : State} {k : ℕ} {h : List ℕ} {e : ℕ} (i : InHand s k h e) where
  nine : length s.queues ≡ QUEUES
  nine = i.shape.sizes.queues

  module _ (n v : ℕ) (p : (bit_and v s.directory.defined ≡ v) × (1 ≤ n) × (n ≤ size v)) where
    pub await-event : Shape (joining (with_task s k (awaiting_events s.clock (task_at s k) n v)) event_queue k) h e
    unfolding queue_for
    await-event =
        enter-other i (awaiting_events s.clock (task_at s k) n v) event_queue (queue s event_queue ++ k ∷ []) (omega arith) refl (λ y. count-last k y _) refl refl
        (event-fields s.clock (hand-stands i).fields p) (omega arith) (λ z. omega (arith, z))

    pub event-rest : {m : List ℕ} → enough s n v ≡ false → Rest s m → Rest (joining (with_task s k (awaiting_events s.clock (task_at s k) n v)) event_queue k) m
    unfolding enough
    event-rest {m} f r =
        let q = queue s event_queue ++ k ∷ [] in
        let same = get_or-set_same s.tasks k (awaiting_events s.clock (task_at s k) n v) no_task (omega (arith, i.shape.sizes.tasks, i.low)) in
        record {
          asleep = record {
            asleep = λ y c d.
                ⊎_elim
                (λ z. rw (z.1, same) f)
                (λ z. rw (get_or-set_other s.tasks k y (awaiting_events s.clock (task_at s k) n v) no_task z.1)
                (r.asleep.asleep y (omega (arith, rw (set-queue s.queues event_queue q nine (omega arith)) at c, count-last k y (queue s event_queue), one-other k y (λ w. z.1 (sym w)))) d))
                (tested y k);
          };
          stuck = λ level lo hi.
              stuck-same {s = s} (set-others s.queues event_queue q nine (omega arith) (core_queue level) (λ z. omega (arith, z))) refl
              (λ y. ap (λ (j : ℕ). (get_or s.directory.entries j no_entry).units) (field-kept (λ t. t.program) s.tasks k y (awaiting_events s.clock (task_at s k) n v) no_task refl))
              (r.stuck level lo hi);
          flowing = record { flowing = λ x c. set-others s.queues event_queue q nine (omega arith) channel_queue (λ z. omega (arith, z)) ∙ r.flowing.flowing x c };
        }

  module _ (x : ℕ) where
    pub await-time : Shape (in_time (with_task s k (awaiting_time s.clock (task_at s k) x)) k) h e
    unfolding queue_for in_time
    await-time =
        let key : ℕ → ℕ = λ a. (task_at (with_task s k (awaiting_time s.clock (task_at s k) x)) a).time in
        let l = inserted_by key k (queue s time_queue) in
        enter i (awaiting_time s.clock (task_at s k) x) time_queue l (omega arith) refl (λ y. count-placed key k y (queue s time_queue)) refl refl
        (time-fields s.clock (hand-stands i).fields) (omega arith)
        (rw (set-queue s.queues time_queue l nine (omega arith)) (up-placed key k (queue s time_queue) (hand-timed i (awaiting_time s.clock (task_at s k) x))))

    pub time-rest : {m : List ℕ} → Rest s m → Rest (in_time (with_task s k (awaiting_time s.clock (task_at s k) x)) k) m
    unfolding in_time
    time-rest r =
        let l = inserted_by (λ a. (task_at (with_task s k (awaiting_time s.clock (task_at s k) x)) a).time) k (queue s time_queue) in
        let set = set-others s.queues time_queue l nine (omega arith) in
        rest-beside {s = s} {k = k} (record {
          directory = refl;
          on = refl;
          channel = refl;
          tasks = λ y d. get_or-set_other s.tasks k y _ no_task d;
          pools = λ level lo hi. refl;
          event = λ y c.
              let c' = rw (set event_queue (λ z. omega (arith, z))) at c in
              (c', λ z. omega (arith, c', hand-count i event_queue (omega arith), ap (λ (w : ℕ). count w (queue s event_queue)) z));
          core = λ level lo hi. set (core_queue level) (λ z. omega (arith, z));
          out = λ level lo hi. hand-count i (core_queue level) (omega arith);
          requested = set channel_queue (λ z. omega (arith, z));
        }) r
