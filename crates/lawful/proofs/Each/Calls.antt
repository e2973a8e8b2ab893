-- The calls that make a task or wait: from the rules, to all of them but that nobody is ready while no task runs, which the dispatch brings back. A new
-- task is in hand until it is ready or waits; so is the caller of WAIT.
use mathlib.Core.Bool.{Bool, true, false, cond}
use mathlib.Core.Path.{◌≡◌, refl}
use mathlib.Core.Logic.{◌≢◌, ⊎_elim}
use mathlib.Core.List.{List, []}
use Prim.Native.Nat.{ℕ, ◌≤◌, ◌<◌}
use native.Mathlib.Omega.{arith}
use lib.Seq.{get_or-set_other}
use Rattle.words.proofs.Truth.{tested}
use Rattle.words.specs.Words.{least}
use Rattle.tables.specs.State.{State, with_running}
use Rattle.tables.specs.Blocks.{no_task, task_blocks}
use Rattle.calls.specs.declared.Call.{Call}
use Rattle.meaning.specs.Conditions.{enough, holds, due_of, waiting, awaits_events, awaits_time}
use Rattle.meaning.specs.Ready.{made_ready}
use Rattle.meaning.specs.Services.{created, operator_start, schedule, wait, test_event}
use Rattle.lawful.specs.Shape.{Shape, InHand}
use Rattle.lawful.specs.Resting.{Rest, Lawful, Settled}
use Rattle.lawful.specs.Accepts.{Condition}
use Rattle.lawful.proofs.Blocks.Enter.{hand-count}
use Rattle.lawful.proofs.Ready.Made.{made-ready}
use Rattle.lawful.proofs.Blocks.Leave.{stop}
use Rattle.words.proofs.Free.{least-in, least-some, least-low}
use Rattle.lawful.proofs.Blocks.Create.{create}
use Rattle.lawful.proofs.Ready.Resting.{rest-alone, rest-made}
use Rattle.lawful.proofs.Ready.Waits.{await-event, event-rest, await-time, time-rest}

pub settled : {s : State} → Shape s [] 0 → Rest s [] → Settled s
settled g r = record { shape = g; rest = r }

-- ---- TEST EVENT.
pub test-event-keeps : {s : State} (c : Call) → Lawful s → Settled (test_event s c).state
unfolding test_event
test-event-keeps c g = settled g.shape g.rest

-- ---- A new task.
module _ {s : State} (g : Lawful s) (m : ℕ) (known : m < s.directory.modules) (some : s.free_tasks ≢ 0) where
  abbrev k : ℕ
  k = least s.free_tasks

  module _ (p : ℕ) (parent : p ≤ task_blocks) (apart : p ≢ k) where
    pub new : InHand (created s k m p) k [] p
    new =
        let b = g.shape.blank in
        create g.shape k m p (least-some s.free_tasks 25 (omega arith) b.free_tasks some b.free_tasks-none)
        (omega (arith, least-low s.free_tasks 25 (omega arith) b.free_tasks some b.free_tasks-none))
        (least-in s.free_tasks 25 (omega arith) b.free_tasks some b.free_tasks-none) known parent apart

    pub new-rest : Rest (created s k m p) []
    unfolding created
    new-rest =
        rest-alone {s = s} {k = k} refl refl refl refl refl (λ y d. get_or-set_other s.tasks k y _ no_task d) (hand-count new) g.rest

  pub new_apart : 0 ≢ k
  new_apart z = let b = g.shape.blank in omega (arith, z, least-some s.free_tasks 25 (omega arith) b.free_tasks some b.free_tasks-none)

  pub made-settled : Settled (made_ready (created s k m 0) k)
  made-settled =
      let i = new 0 (omega arith) new_apart in
      let d = made-ready i in
      settled d.shape (rest-made i d (new-rest 0 (omega arith) new_apart))

-- ---- Operator start.
pub start-keeps : {s : State} (c : Call) → Lawful s → c.number < s.directory.modules → s.free_tasks ≢ 0 → Settled (operator_start s c).state
unfolding operator_start
start-keeps c g known some = made-settled g c.number known some

-- ---- Waiting. A block in hand waits, for a condition that does not hold
module _ {s : State} {k : ℕ} {h : List ℕ} {e : ℕ} {c : Call} (i : InHand s k h e) (w : Condition s c) (f : holds s c ≡ false) where
  not_yet : c.kind ≡ 1 → enough s c.value c.events ≡ false
  unfolding holds
  not_yet z = rw z at f

  pub wait-shape : Shape (waiting s k c) h e
  unfolding waiting awaits_events awaits_time
  wait-shape =
      ⊎_elim
      (λ z. rw z.0 (await-event i c.value c.events (w.set z.1)))
      (λ z. rw z.0 (await-time i (due_of s c))) (tested c.kind 1)

  pub wait-rest : {m : List ℕ} → Rest s m → Rest (waiting s k c) m
  unfolding waiting awaits_events awaits_time
  wait-rest r =
      ⊎_elim
      (λ z. rw z.0 (event-rest i c.value c.events (w.set z.1) (not_yet z.1) r))
      (λ z. rw z.0 (time-rest i (due_of s c) r)) (tested c.kind 1)

pub condition-new : {s : State} {c : Call} (k m : ℕ) → Condition s c → Condition (created s k m 0) c
unfolding created
condition-new k m w = record { kind = w.kind; set = w.set; time = w.time }

pub holds-new : (s : State) (k m : ℕ) (c : Call) → holds s c ≡ false → holds (created s k m 0) c ≡ false
unfolding holds created enough due_of
holds-new s k m c f = f

pub holds-stopped : (s : State) (c : Call) → holds s c ≡ false → holds (with_running s 0) c ≡ false
unfolding holds enough due_of
holds-stopped s c f = f

-- the rules of rest do not ask who runs
pub rest-stopped : (s : State) (r : ℕ) {m : List ℕ} → Rest s m → Rest (with_running s r) m
unfolding enough
rest-stopped s r a =
    record {
      asleep = record { asleep = a.asleep.asleep };
      stuck = λ level lo hi. record { stuck = (a.stuck level lo hi).stuck };
      flowing = record { flowing = a.flowing.flowing };
    }

-- ---- SCHEDULE.
pub schedule-keeps : {s : State} (c : Call) → Lawful s → c.number < s.directory.modules → s.free_tasks ≢ 0 → Condition s c → Settled (schedule s c).state
unfolding schedule
schedule-keeps {s} c g known some w = go (holds s c) refl
  where
    k : ℕ
    k = least s.free_tasks

    go : (b : Bool) → holds s c ≡ b → Settled (cond b (made_ready (created s k c.number 0) k) (waiting (created s k c.number 0) k c))
    go true f = made-settled g c.number known some
    go false f =
        let a = new_apart g c.number known some in
        let i = new g c.number known some 0 (omega arith) a in
        let w' : Condition (created s k c.number 0) c = condition-new k c.number w in
        let f' : holds (created s k c.number 0) c ≡ false = holds-new s k c.number c f in
        settled (wait-shape i w' f') (wait-rest i w' f' (new-rest g c.number known some 0 (omega arith) a))

-- ---- WAIT.
pub wait-keeps : {s : State} (c : Call) → Lawful s → s.running ≢ 0 → Condition s c → Settled (wait s c).state
unfolding wait
wait-keeps {s} c g n w = go (holds s c) refl
  where
    go : (b : Bool) → holds s c ≡ b → Settled (cond b s (waiting (with_running s 0) s.running c))
    go true f = settled g.shape g.rest
    go false f =
        let i = stop g.shape n in
        let w' : Condition (with_running s 0) c = record { kind = w.kind; set = w.set; time = w.time } in
        let f' = holds-stopped s c f in
        settled (wait-shape i w' f') (wait-rest i w' f' (rest-stopped s 0 g.rest))
