-- The rules as records give the rules as tests: a lawful state keeps each rule. Each test is shown by a file before this one; this file names them.
use mathlib.Core.Bool.{true, not}
use mathlib.Core.Path.{◌≡◌, ap}
use mathlib.Core.Logic.{◌≢◌, ⊎_elim}
use Prim.Native.Nat.{ℕ, ◌^◌, ◌≤◌, ◌+◌}
use native.Mathlib.Omega.{arith}
use lib.Dec.{eqb, leb}
use borrow.Author.Tests.{eq-eqb, eqb-true, le-leb, lt-ltb, ne_eqb}
use Rattle.words.proofs.Truth.{tested, and-of, of-implied}
use Rattle.words.specs.Words.{◌implies◌, has}
use Rattle.pools.specs.Pools.{SmallestHole}
use Rattle.tables.specs.Blocks.{Free, InLink, InCheck, Ending, task_blocks, request_blocks}
use Rattle.tables.specs.State.{State, task_at, pool_at, level_of}
use Rattle.meaning.specs.Conditions.{undefined_in}
use Rattle.meaning.specs.Finish.{pending_of, pending}
use Rattle.meaning.specs.Rules as rules
use Rattle.meaning.proofs.Rules.{KeepsEach, Keeps}
use Rattle.meaning.proofs.Parts.{task_range, request_range, task_stands, request_stands, task_free, request_free, task_clear, request_clear, Ranges, in-range, Sets, free-sets, Clears, all-clear}
use Rattle.lawful.specs.Shape.{children, Stands, Events}
use Rattle.words.specs.Counting.{one, bit}
use Rattle.lawful.specs.Resting.{Lawful}
use Rattle.lawful.proofs.Blocks.Shape.{rest-place}
use Rattle.words.proofs.Counting.{one-other}
use Rattle.threads.proofs.Tests.{to-all, of-set}
use Rattle.meaning.proofs.Blanks.{of-task-blank, of-request-blank}
use Rattle.lawful.proofs.Tested.PlaceRules.{of-task-placed}
use Rattle.lawful.proofs.Tested.TaskRules.{needed_at, of_range, no-request, of-clear, of-needed}
use Rattle.lawful.proofs.Tested.RequestRules.{owned_at, of-request-range, of-request-clear, of-carried, of-free_requests, of-owned}
use Rattle.lawful.proofs.Tested.CoreRules.{of-core, of-links}
use Rattle.lawful.proofs.Each.Chains.{of-ranked}
use Rattle.lawful.proofs.Tested.RestRules.{of-busy, of-asleep, of-stuck, of-flowing, of-levels, of-passes}
use Rattle.lawful.proofs.Tested.Pendings.{of-pending, some-pending}
use Rattle.words.proofs.Bits.{of-within}

has-not : (w : ℕ) → bit w 0 ≡ 0 → not (has w 0) ≡ true
has-not w e = ap not (ne_eqb (bit w 0) 1 (λ z. omega (arith, e, z)))

module _ {s : State} (g : Lawful s) where
  stands : (k : ℕ) → 1 ≤ k → k ≤ task_blocks → Stands s (task_at s k).place k
  stands k a b = rw (rest-place s k) at (g.shape.tasks k a b)

  level-low : (k : ℕ) → 1 ≤ k → k ≤ task_blocks → (task_at s k).place ≢ Free → level_of s k ≤ 3
  level-low k a b n = g.shape.directory.worst _ ((stands k a b).fields.program n)

  request-low : (k : ℕ) → 1 ≤ k → k ≤ task_blocks → (task_at s k).request ≤ request_blocks
  request-low k a b =
      let w = stands k a b in
      ⊎_elim (λ i. (w.checks i.1).low) (λ i. omega (arith, no-request s k w.fields i.1)) (tested (task_at s k).place InCheck)

  -- "every field in range"
  range : Ranges s
  range =
      record {
        running = le-leb s.running 24 g.shape.blank.running;
        channel = le-leb s.channel 16 g.shape.blank.channel;
        holes = le-leb s.holes SmallestHole g.shape.blank.holes;
        tasks = to-all (task_range s) task_blocks (λ k a b. of_range s k (stands k a b).fields (request-low k a b));
        requests = to-all (request_range s) request_blocks (λ r a b. of-request-range s r (g.shape.requests r a b));
      }

  -- "events on are defined"; "an event that is on has been signalled, and a signalled one is defined"
  events : Events s.directory.defined s.on s.signalled
  events = g.shape.blank.events

  on-defined : rules.on_defined s ≡ true
  unfolding rules.on_defined undefined_in
  on-defined = ap not (ap not (eq-eqb _ _ (of-within s.on s.directory.defined (λ v. omega (arith, events.on v, events.signalled v)))))

  on-signalled : rules.on_signalled s ≡ true
  unfolding rules.on_signalled
  on-signalled = eq-eqb _ _ (of-within s.on s.signalled events.on)

  signalled-defined : rules.signalled_defined s ≡ true
  unfolding rules.signalled_defined undefined_in
  signalled-defined = ap not (ap not (eq-eqb _ _ (of-within s.signalled s.directory.defined events.signalled)))

  -- the places of blocks, and the free ones
  tasks-placed : rules.tasks_in_place s ≡ true
  unfolding rules.tasks_in_place
  tasks-placed =
      to-all (task_stands s) task_blocks
      (λ k a b. of-task-placed s k g.shape.sizes.queues (level-low k a b) (record { only = (stands k a b).queued }) (stands k a b).runs)

  requests-placed : rules.requests_in_place s ≡ true
  unfolding rules.requests_in_place
  requests-placed = to-all (request_stands s) request_blocks (λ r a b. of-carried s r (g.shape.requests r a b) g.shape.sizes.queues)

  free : Sets s
  free =
      let b = g.shape.blank in
      record {
        tasks = to-all (task_free s) task_blocks (λ k a b. of-set s.free_tasks (task_at s k).place Free k (stands k a b).free_tasks);
        requests = to-all (request_free s) request_blocks (λ r a b. of-free_requests s r (g.shape.requests r a b));
        free_tasks = lt-ltb s.free_tasks (2 ^ (task_blocks + 1)) b.free_tasks;
        free_tasks-none = has-not s.free_tasks b.free_tasks-none;
        free_requests = lt-ltb s.free_requests (2 ^ (request_blocks + 1)) b.free_requests;
        free_requests-none = has-not s.free_requests b.free_requests-none;
      }

  clear : Clears s
  clear =
      let b = g.shape.blank in
      record {
        tasks = to-all (task_clear s) task_blocks (λ k a b. of-clear s k (stands k a b).fields);
        requests = to-all (request_clear s) request_blocks (λ r a b. of-request-clear s r (g.shape.requests r a b));
        task = of-task-blank b.block;
        request = of-request-blank b.request;
        pool = eq-eqb (pool_at s 0) 0 b.pool;
      }

  in_order : rules.queues_in_order s ≡ true
  unfolding rules.queues_in_order
  in_order = and-of _ _ g.shape.timed g.shape.levelled

  core-needed : rules.core_needed s ≡ true
  unfolding rules.core_needed
  core-needed = to-all (needed_at s) task_blocks (λ k a b. of-needed s k (stands k a b).fields)

  all-owned : rules.owned s ≡ true
  unfolding rules.owned
  all-owned = to-all (owned_at s) request_blocks (λ r a b. of-owned s r (g.shape.requests r a b))

  checks : rules.checks_pending s ≡ true
  unfolding rules.checks_pending
  checks =
      to-all (λ k. eqb (task_at s k).place InCheck implies pending_of s k (task_at s k).request) task_blocks
      (λ k a b. of-implied (eqb (task_at s k).place InCheck) (pending_of s k (task_at s k).request) (λ i. of-pending s k _ ((stands k a b).checks (eqb-true _ _ i))))

  endings : rules.ending_pending s ≡ true
  unfolding rules.ending_pending
  endings =
      to-all (λ k. eqb (task_at s k).place Ending implies pending s k) task_blocks
      (λ k a b. of-implied (eqb (task_at s k).place Ending) (pending s k) (λ i. let w = (stands k a b).ends (eqb-true _ _ i) in some-pending s k w.0 w.1))

  never-past : rules.never_past s ≡ true
  unfolding rules.never_past
  never-past = to-all (λ k. leb (task_at s k).since s.clock) task_blocks (λ k a b. le-leb _ _ (stands k a b).since)

  -- with none in hand, a block has a child where it is in LINK
  all-linked : (p : ℕ) → 1 ≤ p → p ≤ task_blocks → children s.tasks p ≡ one (task_at s p).place InLink
  all-linked p a b = omega (arith, g.shape.links p a b, one-other p 0 (λ i. omega (arith, i, a)), ap (λ (x : ℕ). one x InLink) (rest-place s p))

  each : KeepsEach s
  each =
      record {
        directory_passes = g.shape.directory.passes;
        in_range = in-range s range;
        on_defined = on-defined;
        on_signalled = on-signalled;
        signalled_defined = signalled-defined;
        tasks_in_place = tasks-placed;
        requests_in_place = requests-placed;
        free_sets = free-sets s free;
        fields_clear = all-clear s clear;
        core_needed = core-needed;
        owned = all-owned;
        checks_pending = checks;
        ending_pending = endings;
        never_past = never-past;
      }

  pub lawful-rules : Keeps s
  lawful-rules =
      let b = g.shape.blank.block in
      let n = g.shape.sizes.tasks in
      record {
        each = each;
        core_held = of-core s n b g.shape.core;
        chains_end = of-ranked s g.shape;
        idle_only_if_none_ready = of-busy s g.busy;
        events_wait = of-asleep s g.rest.asleep;
        core_waits = of-stuck g.shape g.rest.stuck;
        queues_in_order = in_order;
        of_their_level = of-levels g.shape;
        events_pass = of-passes g.shape;
        linked = of-links s n b all-linked;
        channel_busy = of-flowing s g.rest.flowing;
      }
