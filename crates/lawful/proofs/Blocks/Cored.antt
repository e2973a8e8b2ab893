-- Core is granted to a task, or given back by it: one block and one pool change. The units stay those of the runs because the granted run is apart from
-- the pool, and the one given back inside it.
use mathlib.Core.Bool.{true, cond, and-false}
use mathlib.Core.Path.{◌≡◌, refl, sym, ap, ◌∙◌}
use mathlib.Core.Logic.{◌≢◌, inl, ⊎_elim}
use mathlib.Core.List.{List}
use Prim.Native.Nat.{ℕ, ◌+◌, ◌-◌, ◌^◌, ◌≤◌, ◌<◌}
use native.Mathlib.Omega.{arith}
use lib.ListN.{length, set, get_or, length-set}
use lib.Seq.{get_or-set_same, get_or-set_other}
use lib.Bits.{bit_and}
use borrow.Author.Tests.{eq-eqb, ne_eqb}
use Rattle.words.proofs.Truth.{tested}
use Rattle.words.specs.Words.{◌among◌}
use Rattle.image.specs.declared.Directory.{Directory}
use Rattle.image.specs.Directory.{no_entry}
use Rattle.tables.specs.declared.Task.{Task}
use Rattle.tables.specs.State.{State, time_queue, with_pool, with_task, task_at, pool_at, queue, level_of, units_of}
use Rattle.tables.specs.Blocks.{Free, no_task, with_core, task_blocks}
use Rattle.pools.specs.Pools.{run}
use Rattle.pools.specs.Runs.{FreeRun}
use Rattle.pools.proofs.Starts.{start-given, start-run}
use Rattle.pools.proofs.Runs.{granted-low, run-apart}
use Rattle.meaning.specs.Ready.{fits, start_for, given_run}
use Rattle.meaning.specs.Rules.{queue_for}
use Rattle.lawful.specs.Shape.{Hand, place_of, module_of, Fields, Stands, holding, Core, Shape}
use Rattle.words.specs.Counting.{one, bit}
use Rattle.lawful.proofs.Blocks.Change.{change, ranked-kept}
use Rattle.lawful.proofs.Blocks.Fields.{cored-fields}
use Rattle.threads.proofs.Queues.{up_same}
use Rattle.lawful.proofs.Blocks.Sums.{field-kept, sum-set, sum_kept, sum-le}
use Rattle.words.proofs.Bits.{bit-add, bit-sub}
use Rattle.lawful.proofs.Blocks.Members.{level-best, level-worst}

-- ---- What one task holds of a unit.
module _ (d : Directory) (level u : ℕ) (t : Task) where
  pub holding-own : t.core ≡ 1 → (module_of d t).level ≡ level → holding d level u t ≡ bit (run t.start (module_of d t).units) u
  unfolding holding
  holding-own a b = rw (eq-eqb _ _ a, eq-eqb _ _ b)

  pub holding-none : t.core ≢ 1 → holding d level u t ≡ 0
  unfolding holding
  holding-none n = rw (ne_eqb _ _ n)

  pub holding-other : (module_of d t).level ≢ level → holding d level u t ≡ 0
  unfolding holding
  holding-other n = rw (ne_eqb _ _ n, and-false)

-- ---- The law: core and start of one block change, and one pool, so that the units are still those of the runs.
module _ (s : State) (k c a level x : ℕ) where
  abbrev pub recored : Task
  recored = with_core (task_at s k) c a

  abbrev pub coring : State
  coring = with_pool (with_task s k recored) level x

  kept : (f : Task → ℕ) → f recored ≡ f (task_at s k) → (y : ℕ) → f (task_at coring y) ≡ f (task_at s y)
  kept f e y = field-kept f s.tasks k y recored no_task e

  pub core-level : (y : ℕ) → level_of coring y ≡ level_of s y
  core-level y = ap (λ (i : ℕ). (get_or s.directory.entries i no_entry).level) (kept (λ t. t.program) refl y)

  pub core-units : (y : ℕ) → units_of coring y ≡ units_of s y
  core-units y = ap (λ (i : ℕ). (get_or s.directory.entries i no_entry).units) (kept (λ t. t.program) refl y)

  pub core-place : (h : List ℕ) (y : ℕ) → place_of coring h y ≡ place_of s h y
  unfolding place_of
  core-place h y = ap (λ (i : ℕ). cond (y among h) Hand i) (kept (λ t. t.place) refl y)

  module _ {h : List ℕ} {e : ℕ} (g : Shape s h e) (some : 1 ≤ k) (low : k ≤ task_blocks) (best : 1 ≤ level) (f : Fields s.directory (place_of s h k) recored)
      (r : Core s.directory (set s.tasks k recored) (set s.pools level x)) where
    pub core-same : task_at coring k ≡ recored
    core-same = get_or-set_same s.tasks k recored no_task (omega (arith, g.sizes.tasks))

    cored-own : Stands coring (place_of coring h k) k
    cored-own =
        let w = g.tasks k some low in
        rw (core-place h k) (record {
          fields = rw core-same f;
          queued = λ q l. w.queued q l ∙ sym (ap (λ (b : ℕ). one (queue_for (place_of s h k) b) q) (core-level k));
          runs = w.runs;
          free_tasks = w.free_tasks;
          checks = λ p. rw (kept (λ t. t.request) refl k) (w.checks p);
          ends = w.ends;
          since = rw (kept (λ t. t.since) refl k) w.since;
        })

    pub recore : Shape coring h e
    recore =
        change s k (set s.tasks k recored) s.running s.free_tasks (set s.pools level x) s.queues g (record {
          some = some;
          low = low;
          own = cored-own;
          owner = λ j b b' m z. (λ w. (g.requests j b b').owned m (ap (place_of s h) z ∙ sym (core-place h k) ∙ w), core-level k);
          blocks = λ y d. get_or-set_other s.tasks k y recored no_task d;
          hands = λ y d. refl;
          queues = λ q y d. refl;
          runs = λ y b d. refl;
          free_tasks = λ y d. refl;
          long = length-set s.tasks k recored ∙ g.sizes.tasks;
          nine = g.sizes.queues;
          four = length-set s.pools level x ∙ g.sizes.pools;
          running = g.blank.running;
          tasks_free = g.blank.free_tasks;
          pool = get_or-set_other s.pools level 0 x 0 (λ z. omega (arith, z, best)) ∙ g.blank.pool;
          core = r;
          links = λ y b b'. sum_kept (λ (t : Task). one t.parent y) s.tasks k recored no_task refl ∙ rw (core-place h y) (g.links y b b');
          ranked = ranked-kept g.ranked (λ y b. inl (kept (λ t. t.parent) refl y));
          timed = up_same _ (λ a. (task_at s a).time) (queue s time_queue) (λ y c. kept (λ t. t.time) refl y) ∙ g.timed;
          channel = refl;
        })

-- ---- Pools.
module _ (d : Directory) (l : List Task) (pools : List ℕ) (k : ℕ) (y : Task) (x : ℕ) (g : Core d l pools) (low : k < length l) (four : length pools ≡ 4) where
  abbrev t : Task
  t = get_or l k no_task

  -- the block k holds as before but on its level, whose pool becomes x
  pub repool : (level : ℕ) → level ≤ 3 → x < 2 ^ 64
      → ((i u : ℕ) → i ≢ level → holding d i u y ≡ holding d i u t)
      → ((u : ℕ) → bit x u + holding d level u t ≡ bit (get_or pools level 0) u + holding d level u y)
      → Core d (set l k y) (set pools level x)
  repool level b xl other own =
      record {
        low = λ i. ⊎_elim (λ z. rw (z.1, get_or-set_same pools level x 0 (omega (arith, four))) xl)
            (λ z. rw (get_or-set_other pools level i x 0 z.1) (g.low i)) (tested i level);
        units = λ i u p q. ⊎_elim
            (λ z. rw (z.1, get_or-set_same pools level x 0 (omega (arith, four)))
            (omega (arith, sum-set (holding d level u) l k y no_task low, g.units level u (rw z.1 at p) b, own u)))
            (λ z. rw (get_or-set_other pools level i x 0 z.1)
            (omega (arith, sum-set (holding d i u) l k y no_task low, g.units i u p q, other i u z.1))) (tested i level);
      }

-- ---- Granting.
module _ {s : State} {h : List ℕ} {e k : ℕ} (g : Shape s h e) (some : 1 ≤ k) (low : k ≤ task_blocks) (hand : place_of s h k ≡ Hand) where
  used : place_of s h k ≢ Free
  used z = omega (arith, hand, z)

  module _ (n : 1 ≤ units_of s k) (z : (task_at s k).core ≡ 0) (f : fits s k ≡ true) where
    is_free : FreeRun (pool_at s (level_of s k)) (start_for s k) (units_of s k)
    unfolding fits start_for
    is_free = let p = pool_at s (level_of s k) in start-run s.holes p (units_of s k) (start_for s k) refl (start-given s.holes p (units_of s k) f)

    fits_in : pool_at s (level_of s k) + run (start_for s k) (units_of s k) < 2 ^ 64
    fits_in = granted-low (pool_at s (level_of s k)) (start_for s k) (units_of s k) is_free (g.core.low (level_of s k))

    apart : bit_and (pool_at s (level_of s k)) (run (start_for s k) (units_of s k)) ≡ 0
    apart = run-apart (pool_at s (level_of s k)) (start_for s k) (units_of s k) is_free

    pub grant : Shape (given_run s k) h e
    unfolding given_run
    grant =
        let w = (g.tasks k some low).fields in
        recore s k 1 (start_for s k) (level_of s k) _ g some low (level-best g some low used)
        (cored-fields w used (λ b. omega (arith, b, hand)) n (omega arith) (λ b. is_free.inside) (λ b. absurd (b refl)))
        (repool s.directory s.tasks s.pools k _ _ g.core (omega (arith, g.sizes.tasks)) g.sizes.pools (level_of s k)
        (level-worst g some low used) fits_in
        (λ i u b. holding-other s.directory i u _ (λ c. b (sym c)) ∙ sym (holding-none s.directory i u _ (λ c. omega (arith, c, z))))
        (λ u. omega (
          arith,
          holding-none s.directory (level_of s k) u (task_at s k) (λ c. omega (arith, c, z)),
          holding-own s.directory (level_of s k) u (recored s k 1 (start_for s k) (level_of s k) 0) refl refl,
          bit-add u (pool_at s (level_of s k)) (run (start_for s k) (units_of s k)) apart,
        )))

-- ---- Giving back.
module _ {s : State} {h : List ℕ} {e k : ℕ} (g : Shape s h e) (some : 1 ≤ k) (low : k ≤ task_blocks) (o : (task_at s k).core ≡ 1) where
  abbrev pub given_back : State
  given_back = coring s k 2 0 (level_of s k) (pool_at s (level_of s k) - run (task_at s k).start (units_of s k))

  pub used-holder : place_of s h k ≢ Free
  used-holder z = omega (arith, ap (λ (t : Task). t.core) ((g.tasks k some low).fields.free z), o)

  needed : {n : ℕ} → n ≢ 0 → 1 ≤ n
  needed n = omega (arith, n)

  run-granted : (u : ℕ) → bit (run (task_at s k).start (units_of s k)) u ≤ bit (pool_at s (level_of s k)) u
  run-granted u =
      omega (
        arith,
        sum-le (holding s.directory (level_of s k) u) s.tasks k no_task (omega (arith, g.sizes.tasks)),
        g.core.units (level_of s k) u (level-best g some low used-holder) (level-worst g some low used-holder),
        holding-own s.directory (level_of s k) u (task_at s k) o refl,
      )

  pub give-back : Shape given_back h e
  give-back =
      let v = (g.tasks k some low).fields in
      recore s k 2 0 (level_of s k) _ g some low (level-best g some low used-holder)
      (cored-fields v used-holder (λ b. omega (arith, v.waits b, o)) (needed (λ b. omega (arith, v.unneeded b, o))) (omega arith) (λ b. absurd (omega (arith, b))) (λ b. refl))
      (repool s.directory s.tasks s.pools k _ _ g.core (omega (arith, g.sizes.tasks)) g.sizes.pools (level_of s k)
      (level-worst g some low used-holder) (omega (arith, g.core.low (level_of s k)))
      (λ i u b. holding-none s.directory i u _ (λ c. omega (arith, c)) ∙ sym (holding-other s.directory i u _ (λ c. b (sym c))))
      (λ u. omega (
        arith,
        holding-own s.directory (level_of s k) u (task_at s k) o refl,
        holding-none s.directory (level_of s k) u (recored s k 2 0 (level_of s k) 0) (λ c. omega (arith, c)),
        bit-sub u (pool_at s (level_of s k)) (run (task_at s k).start (units_of s k)) run-granted,
      )))
