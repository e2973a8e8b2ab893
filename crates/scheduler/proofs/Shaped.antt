-- What the shape of a state gives: what the functions of the code ask.
use Rattle.std.specs.Prelude.{◌≡◌, ℕ, ◌<◌, ◌≤◌, true, ◌≢◌, List}
use mathlib.Core.Path.{refl}
use native.Mathlib.Omega.{arith}
use borrow.Author.Tests.{eq-eqb, eqb-true}
use Rattle.threads.specs.Threads.{queues_of, Sound}
use Rattle.tables.specs.declared.Tables.{Tables}
use Rattle.words.specs.Words.{has}
use Rattle.words.proofs.Masks.{in-run}
use Rattle.pools.specs.Pools.{run}
use Rattle.pools.specs.Runs.{HeldRun}
use Rattle.pools.proofs.Units.{held-shown}
use Rattle.tables.specs.Blocks.{Free, HoldsRun, no_task, task_blocks}
use Rattle.tables.specs.State.{State, core_queue, task_at, pool_at, level_of, units_of, read}
use Rattle.tables.specs.Held.{Fit, Held, Loose}
use Rattle.lawful.specs.Shape.{holding, place_of, Shape, InHand}
use Rattle.words.specs.Counting.{bit}
use Rattle.lawful.proofs.Blocks.Sums.{sum-le}
use Rattle.threads.proofs.Queues.{counts-none}
use Rattle.words.proofs.Bits.{bit_le}
use Rattle.lawful.proofs.Blocks.Cored.{holding-own, used-holder}
use Rattle.lawful.proofs.Blocks.Enter.{hand-stands, hand-count}
use Rattle.lawful.proofs.Blocks.Members.{level-best, level-worst, member-some, member-low, member-stands, member-used, member-core, channel-high}
use Rattle.scheduler.specs.Core.{Waiters, Holder}

shape-fit : {s : State} {h : List ℕ} {e : ℕ} → Shape s h e → Fit s
shape-fit g = record { tasks = λ q y l c. omega (arith, member-low g y q l c); requests = λ y c. channel-high g y c }

pub shape-held : {t : Tables} {h : List ℕ} {e : ℕ} → Sound t.threads → Shape (read t) h e → Held t
shape-held s g = record { sound = s; fit = shape-fit g }

-- a block in hand can be made ready
pub hand-loose : {t : Tables} {k : ℕ} {h : List ℕ} {e : ℕ} → Sound t.threads → InHand (read t) k h e → Loose t k
hand-loose {t} {k} s i =
    let d = i.shape.directory in
    let p = (hand-stands i).fields.program (λ z. omega (arith, z)) in
    record {
      held = shape-held s i.shape;
      some = i.some;
      low = omega (arith, i.low);
      out = counts-none k (queues_of t.threads) (λ q l. hand-count i q (omega (arith, l, i.shape.sizes.queues)));
      program = omega (arith, p, d.modules);
      best = d.best _ p;
      worst = d.worst _ p;
      units = d.units _ p;
    }

-- who waits for core of a level is a task of it
pub shape-waiters : {s : State} {h : List ℕ} {e : ℕ} → Shape s h e → (level : ℕ) → 1 ≤ level → level ≤ 3 → Waiters s level
shape-waiters {s} g level a b =
    record {
      best = a;
      worst = b;
      each = λ y c.
          let q : core_queue level < 8 = omega arith in
          record {
            some = member-some g y (core_queue level) q c;
            low = omega (arith, member-low g y (core_queue level) q c);
            program = omega (arith, (member-stands g y (core_queue level) q c).fields.program (member-used g y (core_queue level) q c), g.directory.modules);
            own = omega (arith, (member-core g y (core_queue level) q c (omega arith) (omega arith)).1);
          };
    }

-- ---- The run of a task that holds one is granted, unit by unit.
module _ {s : State} {h : List ℕ} {e k : ℕ} (g : Shape s h e) (some : 1 ≤ k) (low : k ≤ task_blocks) where
  unit-held : (task_at s k).core ≡ HoldsRun → (u : ℕ) → has (run (task_at s k).start (units_of s k)) u ≡ true → has (pool_at s (level_of s k)) u ≡ true
  unit-held c u r =
      let n = used-holder g some low c in
      eq-eqb (bit (pool_at s (level_of s k)) u) 1
      (omega (
        arith,
        eqb-true (bit (run (task_at s k).start (units_of s k)) u) 1 r,
        bit_le (pool_at s (level_of s k)) u,
        sum-le (holding s.directory (level_of s k) u) s.tasks k no_task (omega (arith, g.sizes.tasks)),
        g.core.units (level_of s k) u (level-best g some low n) (level-worst g some low n),
        holding-own s.directory (level_of s k) u (task_at s k) c refl,
      ))

  pub run-held : (task_at s k).core ≡ HoldsRun → HeldRun (pool_at s (level_of s k)) (task_at s k).start (units_of s k)
  run-held c =
      let a = (task_at s k).start in
      let n = units_of s k in
      record {
        inside = (g.tasks k some low).fields.inside c;
        held = held-shown (pool_at s (level_of s k)) n a (λ u b d. unit-held c u (in-run a n u b d));
      }

  -- a task that is not free can give its core back
  pub shape-holder : place_of s h k ≢ Free → Holder s k
  shape-holder n =
      record {
        low = omega arith;
        program = omega (arith, (g.tasks k some low).fields.program n, g.directory.modules);
        waiters = shape-waiters g (level_of s k) (level-best g some low n) (level-worst g some low n);
        granted = run-held;
      }
