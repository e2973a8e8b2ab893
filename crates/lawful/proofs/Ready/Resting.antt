-- The rules of rest under a change of one block that is in hand: it is in none of the queues that they read.
use mathlib.Core.Path.{◌≡◌, sym, ap, ap₂, ◌∙◌}
use mathlib.Core.Logic.{◌≢◌}
use mathlib.Core.List.{List, []}
use Prim.Native.Nat.{ℕ, ◌≤◌, ◌<◌}
use lib.ListN.{get_or}
use native.Mathlib.Omega.{arith}
use Rattle.threads.specs.Threads.{count, QUEUES}
use Rattle.image.specs.declared.Directory.{Directory}
use Rattle.tables.specs.declared.Task.{Task}
use Rattle.tables.specs.State.{State, event_queue, channel_queue, core_queue, task_at, pool_at, queue}
use Rattle.pools.specs.Pools.{long_enough}
use Rattle.meaning.specs.Conditions.{enough}
use Rattle.lawful.specs.Shape.{module_of, InHand}
use Rattle.lawful.specs.Resting.{Asleep, Stuck, Rest}
use Rattle.words.proofs.Counting.{one_same}
use Rattle.threads.proofs.Queues.{count-cons}
use Rattle.lawful.proofs.Blocks.Enter.{hand-count}
use Rattle.lawful.proofs.Chained.Framed.{frame_on, frame-channel}
use Rattle.lawful.proofs.Ready.Made.{Made}

-- s' is s, but for the block k, which stands in none of the queues that the rules read
pub record Beside (s s' : State) (k : ℕ) : Type 0 where
  pub directory : s'.directory ≡ s.directory
  pub on : s'.on ≡ s.on
  pub channel : s'.channel ≡ s.channel
  pub tasks : (y : ℕ) → y ≢ k → task_at s' y ≡ task_at s y
  pub pools : (level : ℕ) → 1 ≤ level → level ≤ 3 → pool_at s' level ≡ pool_at s level
  pub event : (y : ℕ) → 1 ≤ count y (queue s' event_queue) → (1 ≤ count y (queue s event_queue)) × (y ≢ k)
  pub core : (level : ℕ) → 1 ≤ level → level ≤ 3 → queue s' (core_queue level) ≡ queue s (core_queue level)
  pub out : (level : ℕ) → 1 ≤ level → level ≤ 3 → count k (queue s (core_queue level)) ≡ 0
  pub requested : queue s' channel_queue ≡ queue s channel_queue

module _ {s s' : State} {k : ℕ} (b : Beside s s' k) where
  pub asleep-beside : {m : List ℕ} → Asleep s m → Asleep s' m
  unfolding enough
  asleep-beside a =
      record { asleep = λ y c n. let p = b.event y c in rw (b.tasks y p.1, b.on) (a.asleep y p.0 n) }

  pub stuck-beside : (level : ℕ) → 1 ≤ level → level ≤ 3 → Stuck s level → Stuck s' level
  stuck-beside level lo hi g =
      record {
        stuck = λ j l e.
            let q = sym (b.core level lo hi) ∙ e in
            let d : j ≢ k = λ z.
            omega (arith, b.out level lo hi, ap (count k) q, count-cons j k l, one_same j k z) in
            rw (ap₂ long_enough (b.pools level lo hi) (ap₂ (λ (x : Directory) (t : Task). (module_of x t).units) b.directory (b.tasks j d))) (g.stuck j l q);
      }

  pub rest-beside : {m : List ℕ} → Rest s m → Rest s' m
  rest-beside r =
      record {
        asleep = asleep-beside r.asleep;
        stuck = λ level lo hi. stuck-beside level lo hi (r.stuck level lo hi);
        flowing = record { flowing = λ x c. b.requested ∙ r.flowing.flowing x (sym b.channel ∙ c) };
      }

-- a block of no queue changes by itself, and the queues stay
pub rest-alone : {s s' : State} {k : ℕ} → s'.directory ≡ s.directory → s'.on ≡ s.on → s'.channel ≡ s.channel → s'.pools ≡ s.pools → s'.queues ≡ s.queues
    → ((y : ℕ) → y ≢ k → task_at s' y ≡ task_at s y) → ((q : ℕ) → q < QUEUES → count k (queue s q) ≡ 0) → {m : List ℕ} → Rest s m → Rest s' m
rest-alone {s} {s'} {k} d o c p q t n r =
    let same : (i : ℕ) → queue s' i ≡ queue s i = λ i. ap (λ (l : List (List ℕ)). get_or l i []) q in
    rest-beside {s = s} {k = k} (record {
      directory = d;
      on = o;
      channel = c;
      tasks = t;
      pools = λ level lo hi. ap (λ (l : List ℕ). get_or l level 0) p;
      event = λ y w. let w' = rw (same event_queue) at w in (w', λ z. omega (arith, w', n event_queue (omega arith), ap (λ (x : ℕ). count x (queue s event_queue)) z));
      core = λ level lo hi. same (core_queue level);
      out = λ level lo hi. n (core_queue level) (omega arith);
      requested = same channel_queue;
    }) r

-- ---- Getting ready.
module _ {s s' : State} {k : ℕ} {h : List ℕ} {e : ℕ} (i : InHand s k h e) (d : Made s s' k h e) where
  pub not-hand : (q y : ℕ) → q < QUEUES → 1 ≤ count y (queue s q) → y ≢ k
  not-hand q y l c z = omega (arith, c, hand-count i q l, ap (λ (x : ℕ). count x (queue s q)) z)

  pub asleep-made : {m : List ℕ} → Asleep s m → Asleep s' m
  unfolding enough
  asleep-made a =
      record {
        asleep = λ y c n.
            let f = d.frame in
            let c' = rw (f.queues event_queue (λ z. omega (arith, z))) at c in
            rw (f.tasks y (not-hand event_queue y (omega arith) c'), frame_on f) (a.asleep y c' n);
      }

  pub rest-made : {m : List ℕ} → Rest s m → Rest s' m
  rest-made r =
      record {
        asleep = asleep-made r.asleep;
        stuck = λ level lo hi. d.stuck level lo hi (r.stuck level lo hi);
        flowing = record { flowing = λ x c. d.frame.queues channel_queue (λ z. omega (arith, z)) ∙ r.flowing.flowing x (sym (frame-channel d.frame) ∙ c) };
      }
