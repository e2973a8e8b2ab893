-- SIGNAL: the events on and signalled change, and all event waiters are excused; each in turn is made ready or found asleep, until none is excused. By induction on the
-- queue as it was.
use mathlib.Core.Bool.{Bool, true, false}
use mathlib.Core.Path.{◌≡◌, refl, sym, ap, ◌∙◌}
use mathlib.Core.Logic.{⊎_elim}
use mathlib.Core.List.{List, [], ◌∷◌}
use Prim.Native.Nat.{ℕ, ◌≤◌}
use native.Mathlib.Omega.{arith}
use lib.Bits.{bit_and}
use borrow.Author.Tests.{leb-false, lt-leb}
use Rattle.threads.specs.Threads.{count, without}
use Rattle.threads.proofs.Lists.{count-nil}
use Rattle.words.proofs.Truth.{tested}
use Rattle.words.specs.Words.{if◌then◌else◌, each, adding, dropping, size}
use Rattle.tables.specs.State.{State, event_queue, channel_queue, core_queue, task_at, queue, with_on, leaving}
use Rattle.calls.specs.declared.Call.{Call}
use Rattle.meaning.specs.Conditions.{enough}
use Rattle.meaning.specs.Ready.{made_ready}
use Rattle.meaning.specs.Services.{woken, noted, signal}
use Rattle.lawful.specs.Shape.{Events, Shape, InHand}
use Rattle.words.specs.Counting.{bit}
use Rattle.lawful.specs.Resting.{Asleep, Rest, Lawful, Settled}
use Rattle.words.proofs.Bits.{fewer, bit_le}
use Rattle.lawful.proofs.Blocks.Still.{timed-on, shape_on}
use Rattle.words.proofs.Counting.{one_same, one-other}
use Rattle.words.proofs.Free.{added-same, added-other, dropped-same, dropped-other}
use Rattle.threads.proofs.Queues.{count-cons, count-without, set-queue, set-others}
use Rattle.lawful.proofs.Blocks.Enter.{hand-count}
use Rattle.lawful.proofs.Ready.Made.{made-ready}
use Rattle.lawful.proofs.Blocks.Leave.{leave}
use Rattle.lawful.proofs.Ready.Resting.{rest-beside, rest-made}
use Rattle.lawful.proofs.Each.Calls.{settled}

-- ---- Fewer events on: no condition comes to hold.
pub asleep-fewer : {s : State} {m : List ℕ} (c o g : ℕ) → ((u : ℕ) → bit o u ≤ bit s.on u) → Asleep s m → Asleep (timed-on s c o g) m
unfolding enough
asleep-fewer {s} c o g f a =
    record {
      asleep = λ y z n.
          let t = task_at s y in
          lt-leb t.count (size (bit_and t.events o)) (let l = leb-false t.count (size (bit_and t.events s.on)) (a.asleep y z n) in omega (arith, l, fewer t.events s.on o f));
    }

pub rest-on : {s : State} {m : List ℕ} (c o g : ℕ) → Asleep (timed-on s c o g) m → Rest s [] → Rest (timed-on s c o g) m
rest-on c o g a r =
    record {
      asleep = a;
      stuck = λ level lo hi. record { stuck = (r.stuck level lo hi).stuck };
      flowing = record { flowing = λ x. r.flowing.flowing (count-nil 0) };
    }

dropped-le : (w n u : ℕ) → bit (dropping w n) u ≤ bit w u
dropped-le w n u = ⊎_elim (λ z. rw z.1 (omega (arith, dropped-same w n))) (λ z. omega (arith, dropped-other w n u z.1)) (tested u n)

added-ge : (w n u : ℕ) → bit w u ≤ bit (adding w n) u
added-ge w n u = ⊎_elim (λ z. rw z.1 (omega (arith, added-same w n, bit_le w n))) (λ z. omega (arith, added-other w n u z.1)) (tested u n)

added-le : (w n d : ℕ) → bit d n ≡ 1 → ((v : ℕ) → bit w v ≤ bit d v) → (u : ℕ) → bit (adding w n) u ≤ bit d u
added-le w n d e f u =
    ⊎_elim (λ z. rw z.1 (omega (arith, added-same w n, e))) (λ z. omega (arith, added-other w n u z.1, f u)) (tested u n)

-- ---- An event that is signalled: it has been, and it is on or off. "an event that is on has been signalled, and a signalled one is defined" goes on.
module _ {d o m : ℕ} (n : ℕ) (e : Events d o m) (k : bit d n ≡ 1) where
  pub events-on : Events d (adding o n) (adding m n)
  events-on =
      record {
        on = added-le o n (adding m n) (added-same m n) (λ v. omega (arith, e.on v, added-ge m n v));
        signalled = added-le m n d k e.signalled;
      }

  events-off : Events d (dropping o n) (adding m n)
  events-off = record { on = λ v. omega (arith, dropped-le o n v, e.on v, added-ge m n v); signalled = added-le m n d k e.signalled }

-- the state in which the waiters are looked at, and the one that off leaves
abbrev pub told-on : State → ℕ → State
told-on s n = with_on (noted s n) (adding s.on n)

abbrev pub told-off : State → ℕ → State
told-off s n = with_on (noted s n) (dropping s.on n)

-- ---- SIGNAL off.
pub off-keeps : {s : State} (n : ℕ) → bit s.directory.defined n ≡ 1 → Lawful s → Settled (told-off s n)
off-keeps {s} n d g =
    let o = dropping s.on n in
    let m = adding s.signalled n in
    settled (shape_on s.clock o m (omega arith) g.shape (events-off n g.shape.blank.events d))
    (rest-on s.clock o m (asleep-fewer s.clock o m (dropped-le s.on n) g.rest.asleep) g.rest)

-- ---- Waking: the walk over those of a queue that are left.
pub record Walk (q : ℕ) (l : List ℕ) (s : State) (m : List ℕ) : Type 0 where
  pub shape : Shape s [] 0
  pub rest : Rest s m
  pub left : (y : ℕ) → count y l ≤ count y (queue s q)

module _ {s : State} {a : ℕ} {l : List ℕ} (w : Walk event_queue (a ∷ l) s (a ∷ l)) where
  here : 1 ≤ count a (queue s event_queue)
  here = omega (arith, w.left a, count-cons a a l, one_same a a refl)

  hand : InHand (leaving s event_queue a) a [] 0
  hand = leave w.shape a event_queue (omega arith) here

  gone : queue (leaving s event_queue a) event_queue ≡ without a (queue s event_queue)
  gone = set-queue s.queues event_queue _ w.shape.sizes.queues (omega arith)

  -- the first left is woken
  pub walk-woken : Walk event_queue l (made_ready (leaving s event_queue a) a) l
  walk-woken =
      let d = made-ready hand in
      let set = set-others s.queues event_queue (without a (queue s event_queue)) w.shape.sizes.queues (omega arith) in
      record {
        shape = d.shape;
        rest = rest-made hand d (shorter (rest-beside {s = s} {k = a} (record {
          directory = refl;
          on = refl;
          channel = refl;
          tasks = λ y n. refl;
          pools = λ level lo hi. refl;
          event = λ y c.
              let c' = rw gone at c in
              (omega (arith, c', count-without a y (queue s event_queue) here), λ z. omega (arith, c, hand-count hand event_queue (omega arith), ap (λ (x : ℕ). count x (queue (leaving s event_queue a) event_queue)) z));
          core = λ level lo hi. set (core_queue level) (λ z. omega (arith, z));
          out = λ level lo hi. sym (ap (count a) (set (core_queue level) (λ z. omega (arith, z)))) ∙ hand-count hand (core_queue level) (omega arith);
          requested = set channel_queue (λ z. omega (arith, z));
        }) w.rest));
        left = λ y. rw (d.frame.queues event_queue (λ z. omega (arith, z)), gone) (omega (arith, w.left y, count-cons a y l, count-without a y (queue s event_queue) here));
      }
    where
      -- a waits no more, so that it need not be left out
      shorter : Rest (leaving s event_queue a) (a ∷ l) → Rest (leaving s event_queue a) l
      shorter r = record {
        asleep = record { asleep = λ y c n. r.asleep.asleep y c (omega (arith, n, count-cons a y l, one-other a y (λ z. omega (arith, c, hand-count hand event_queue (omega arith), ap (λ (x : ℕ). count x (queue (leaving s event_queue a) event_queue)) z)))) };
        stuck = r.stuck;
        flowing = record { flowing = λ x. r.flowing.flowing (omega (arith, x, count-cons a 0 l, one-other a 0 (λ z. omega (arith, z, hand.some)))) };
      }

  -- the first left is not
  pub walk-past : enough s (task_at s a).count (task_at s a).events ≡ false → Walk event_queue l s l
  walk-past f =
      record {
        shape = w.shape;
        rest = record {
          asleep = record { asleep = λ y c n. ⊎_elim (λ z. rw (← z.1) f) (λ z. w.rest.asleep.asleep y c (omega (arith, n, count-cons a y l, one-other a y z.1))) (tested a y) };
          stuck = w.rest.stuck;
          flowing = record { flowing = λ x. w.rest.flowing.flowing (omega (arith, x, count-cons a 0 l, one-other a 0 (λ z. omega (arith, z, hand.some)))) };
        };
        left = λ y. omega (arith, w.left y, count-cons a y l);
      }

  pub walk_step : Walk event_queue l (woken a s) l
  unfolding woken
  walk_step = go (enough s (task_at s a).count (task_at s a).events) refl
    where
      go : (b : Bool) → enough s (task_at s a).count (task_at s a).events ≡ b → Walk event_queue l (if b then made_ready (leaving s event_queue a) a else s) l
      go true e = walk-woken
      go false e = walk-past e

pub walked : (l : List ℕ) (s : State) → Walk event_queue l s l → Walk event_queue [] (each woken l s) []
unfolding each
walked [] s w = w
walked (a ∷ l) s w = walked l (woken a s) (walk_step w)

-- ---- SIGNAL on.
pub signal-walk : {s : State} (n : ℕ) → bit s.directory.defined n ≡ 1 → Lawful s → Walk event_queue (queue s event_queue) (told-on s n) (queue s event_queue)
signal-walk {s} n d g =
    let o = adding s.on n in
    let m = adding s.signalled n in
    record {
      shape = shape_on s.clock o m (omega arith) g.shape (events-on n g.shape.blank.events d);
      rest = rest-on s.clock o m (record { asleep = λ y c z. absurd (omega (arith, c, z)) }) g.rest;
      left = λ y. omega arith;
    }

pub on-keeps : {s : State} (n : ℕ) → bit s.directory.defined n ≡ 1 → Lawful s
    → Settled (each woken (queue s event_queue) (told-on s n))
on-keeps {s} n d g = let w = walked (queue s event_queue) (told-on s n) (signal-walk n d g) in settled w.shape w.rest

pub signal-keeps : {s : State} (c : Call) → Lawful s → bit s.directory.defined c.number ≡ 1 → Settled (signal s c).state
unfolding signal
signal-keeps {s} c g d =
    ⊎_elim (λ z. rw z.0 (on-keeps c.number d g)) (λ z. rw z.0 (off-keeps c.number d g)) (tested c.value 1)
