-- The timer: each task of the time queue whose time has come is made ready, in turn. DISPATCH CHECK: the caller goes to the front of its level.
use mathlib.Core.Bool.{Bool, true, false, ◌&&◌}
use mathlib.Core.Path.{refl, sym, ap, ◌∙◌}
use mathlib.Core.Logic.{◌≢◌}
use mathlib.Core.List.{List, [], ◌∷◌}
use Prim.Native.Nat.{ℕ, ◌+◌, ◌%◌, ◌≤◌}
use native.Mathlib.Omega.{arith}
use lib.Seq.{get_or-set_other}
use lib.Dec.{eqb, leb, ltb}
use Rattle.threads.specs.Threads.{count, without}
use Rattle.words.specs.Words.{if◌then◌else◌, each}
use Rattle.tables.specs.State.{State, event_queue, time_queue, channel_queue, core_queue, ready_queue, task_at, queue, level_of, with_clock, with_running, leaving, leading}
use Rattle.tables.specs.Blocks.{Ready, no_task, moving}
use Rattle.calls.specs.declared.Call.{Call}
use Rattle.meaning.specs.Conditions.{enough}
use Rattle.meaning.specs.Ready.{made_ready, best_ready}
use Rattle.meaning.specs.Services.{timely, timer, stopped, dispatch_check}
use Rattle.meaning.specs.Rules.{queue_for}
use Rattle.lawful.specs.Shape.{InHand}
use Rattle.lawful.specs.Resting.{Asleep, Lawful, Settled}
use Rattle.words.proofs.Counting.{one_same}
use Rattle.threads.proofs.Queues.{count-cons, count-without, set-queue, set-others}
use Rattle.lawful.proofs.Blocks.Members.{level-best, level-worst, runs-place, runs-stands}
use Rattle.lawful.proofs.Blocks.Fields.{plain-fields}
use Rattle.lawful.proofs.Blocks.Enter.{hand-stands, hand-count, enter-other}
use Rattle.lawful.proofs.Ready.Made.{made-ready}
use Rattle.lawful.proofs.Blocks.Leave.{leave, stop}
use Rattle.lawful.proofs.Ready.Resting.{rest-beside, rest-made}
use Rattle.lawful.proofs.Each.Signal.{Walk, rest-on}
use Rattle.lawful.proofs.Blocks.Still.{shape_on}
use Rattle.lawful.proofs.Each.Calls.{settled, rest-stopped}

-- ---- Timer: the walk over those of the time queue that are left.
module _ {s : State} {a : ℕ} {l : List ℕ} (w : Walk time_queue (a ∷ l) s []) where
  here : 1 ≤ count a (queue s time_queue)
  here = omega (arith, w.left a, count-cons a a l, one_same a a refl)

  hand : InHand (leaving s time_queue a) a [] 0
  hand = leave w.shape a time_queue (omega arith) here

  walk-timely : Walk time_queue l (made_ready (leaving s time_queue a) a) []
  walk-timely =
      let d = made-ready hand in
      let nine = w.shape.sizes.queues in
      let gone = set-queue s.queues time_queue (without a (queue s time_queue)) nine (omega arith) in
      let set = set-others s.queues time_queue (without a (queue s time_queue)) nine (omega arith) in
      let ev = set event_queue (λ z. omega (arith, z)) in
      record {
        shape = d.shape;
        rest = rest-made hand d (rest-beside {s = s} {k = a} (record {
          directory = refl;
          on = refl;
          channel = refl;
          tasks = λ y n. refl;
          pools = λ level lo hi. refl;
          event = λ y c. (rw ev at c, λ z. omega (arith, c, hand-count hand event_queue (omega arith), ap (λ (x : ℕ). count x (queue (leaving s time_queue a) event_queue)) z));
          core = λ level lo hi. set (core_queue level) (λ z. omega (arith, z));
          out = λ level lo hi. sym (ap (count a) (set (core_queue level) (λ z. omega (arith, z)))) ∙ hand-count hand (core_queue level) (omega arith);
          requested = set channel_queue (λ z. omega (arith, z));
        }) w.rest);
        left = λ y. rw (d.frame.queues time_queue (λ z. omega (arith, z)), gone) (omega (arith, w.left y, count-cons a y l, count-without a y (queue s time_queue) here));
      }

  pub walk-tick : Walk time_queue l (timely a s) []
  unfolding timely
  walk-tick = go (leb (task_at s a).time s.clock)
    where
      go : (b : Bool) → Walk time_queue l (if b then made_ready (leaving s time_queue a) a else s) []
      go true = walk-timely
      go false = record { shape = w.shape; rest = w.rest; left = λ y. omega (arith, w.left y, count-cons a y l) }

pub ticked : (l : List ℕ) (s : State) → Walk time_queue l s [] → Walk time_queue [] (each timely l s) []
unfolding each
ticked [] s w = w
ticked (a ∷ l) s w = ticked l (timely a s) (walk-tick w)

same-asleep : (s : State) (c : ℕ) {m : List ℕ} → Asleep s m → Asleep (with_clock s c) m
unfolding enough
same-asleep s c a = record { asleep = a.asleep }

pub timer-walk : {s : State} → Lawful s → Walk time_queue (queue s time_queue) (with_clock s (s.clock + 1)) []
timer-walk {s} g =
    record {
      shape = shape_on (s.clock + 1) s.on s.signalled (omega arith) g.shape g.shape.blank.events;
      rest = rest-on (s.clock + 1) s.on s.signalled (same-asleep s (s.clock + 1) g.rest.asleep) g.rest;
      left = λ y. omega arith;
    }

pub timer-keeps : {s : State} (c : Call) → Lawful s → Settled (timer s c).state
unfolding timer
timer-keeps {s} c g = go (eqb ((s.clock + 1) % s.directory.every) 0)
  where
    go : (b : Bool) → Settled (if b then each timely (queue s time_queue) (with_clock s (s.clock + 1)) else with_clock s (s.clock + 1))
    go true = let w = ticked (queue s time_queue) (with_clock s (s.clock + 1)) (timer-walk g) in settled w.shape w.rest
    go false = settled (timer-walk g).shape (timer-walk g).rest

-- ---- DISPATCH CHECK.
module _ {s : State} (g : Lawful s) (n : s.running ≢ 0) where
  pub caller : InHand (with_running s 0) s.running [] 0
  caller = stop g.shape n

  abbrev level : ℕ
  level = level_of s s.running

  pub best : 1 ≤ level
  best = level-best g.shape caller.some caller.low (λ z. omega (arith, z, runs-place g.shape n))

  pub worst : level ≤ 3
  worst = level-worst g.shape caller.some caller.low (λ z. omega (arith, z, runs-place g.shape n))

  abbrev front : List ℕ
  front = s.running ∷ queue s level

  yields : Settled (leading (stopped s Ready) level s.running)
  unfolding stopped queue_for
  yields =
      let w = runs-stands g.shape n in
      let set = set-others s.queues level front g.shape.sizes.queues (omega (arith, worst)) in
      let ev = set event_queue (λ z. omega (arith, z, best)) in
      settled
      (enter-other caller (moving s.clock (task_at s s.running) Ready) level front (omega (arith, worst)) refl (λ y. omega (arith, count-cons s.running y (queue s level))) refl refl
      (plain-fields s.clock (hand-stands caller).fields Ready (omega arith) (omega arith) (λ z. omega (arith, z)) (λ z. omega (arith, z)) (λ a b. (w.fields.needs a b).0 (runs-place g.shape n)))
      (omega arith) (λ z. omega (arith, z, worst)))
      (rest-beside {s = with_running s 0} {k = s.running} (record {
        directory = refl;
        on = refl;
        channel = refl;
        tasks = λ y d. get_or-set_other s.tasks s.running y _ no_task d;
        pools = λ level lo hi. refl;
        event = λ y c. let c' = rw ev at c in (c', λ z. omega (arith, c', hand-count caller event_queue (omega arith), ap (λ (x : ℕ). count x (queue s event_queue)) z));
        core = λ i lo hi. set (core_queue i) (λ z. omega (arith, z, worst));
        out = λ i lo hi. hand-count caller (core_queue i) (omega arith);
        requested = set channel_queue (λ z. omega (arith, z, worst));
      }) (rest-stopped s 0 g.rest))

pub dispatch-check-keeps : {s : State} (c : Call) → Lawful s → s.running ≢ 0 → Settled (dispatch_check s c).state
unfolding dispatch_check
dispatch-check-keeps {s} c g n = go (ltb 0 (best_ready s) && ltb (best_ready s) (level_of s s.running))
  where
    go : (b : Bool) → Settled (if b then leading (stopped s Ready) (ready_queue (level_of s s.running)) s.running else s)
    go true = yields g n
    go false = settled g.shape g.rest
