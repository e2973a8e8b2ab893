-- Demand 3: "From a loaded image, after any sequence of calls, refused ones included, the tables that demand 2 prescribes hold together." Each sentence is a theorem of the tables t
-- that are reached from an image, `Reached image t`. Here: places, threads, core, and who waits; who is linked is in Aborted, who runs in Dispatched.
use mathlib.Core.Bool.{true, false}
use mathlib.Core.Path.{◌≡◌}
use mathlib.Core.Logic.{◌≢◌, ◌↔◌}
use mathlib.Core.List.{List, ◌∷◌}
use Prim.Native.Nat.{ℕ, ◌+◌, ◌≤◌, ◌<◌}
use lib.ListN.{get_or}
use lib.Bits.{bit_and}
use lib.Dec.{eqb}
use Rattle.threads.specs.Threads.{lst, count, counts, Sound, BLOCKS, QUEUES}
use Rattle.threads.proofs.Read.{last_of}
use Rattle.words.specs.Words.{if◌then◌else◌, one_to, ◌among◌, how_many, has, size}
use Rattle.answers.specs.Answer.{Refused}
use Rattle.tables.specs.declared.Tables.{Tables}
use Rattle.tables.specs.Blocks.{Free, Running, Ending, Queued, OnChannel, Done, task_blocks, request_blocks}
use Rattle.tables.specs.State.{State, event_queue, core_queue, channel_queue, node, task_at, request_at, pool_at, queue, level_of, units_of, read}
use Rattle.meaning.specs.Rules.{queue_for, holds_unit, rules_hold}
use Rattle.meaning.specs.Step.{step_of}
use Rattle.lawful.specs.Shape.{place_of}
use Rattle.words.specs.Counting.{one}
use Rattle.lawful.specs.Resting.{Lawful}
use Rattle.lawful.specs.Reached.{Reached}
use Rattle.lawful.proofs.Blocks.Members.{level-best, level-worst, member-some, member-low, channel-high, channel-low}
use Rattle.lawful.proofs.Told.Corollaries.{units-make, runs-apart}
use Rattle.lawful.proofs.Told.Steps.{reached-lawful, reached-rules}
use Rattle.lawful.proofs.Told.Never.{not-nine}
use Rattle.lawful.proofs.Told.Plain.{same-where, has-where, too_few, no_run}
use Rattle.lawful.proofs.Told.Agree.{none-behind, none_ahead, both_ways, names-blocks, first_ends, last-ends, begins, ends}

module _ (image : List ℕ) {t : Tables} (reached : Reached image t) where
  abbrev s : State
  s = read t

  lawful : Lawful s
  lawful = (reached-lawful image reached).state

  -- ---- "the tables .. hold together": all the table rules hold, and so 9 is never given
  pub hold-together : rules_hold t ≡ true
  hold-together = reached-rules image reached

  pub never-nine : (bytes : List ℕ) → (step_of t bytes).outcome ≢ Refused 9
  never-nine bytes = not-nine t bytes hold-together

  -- ---- "Each task .. block is in exactly one place": its place is one of the nine; it stands once in the queue of that place and level, and in no other queue; it runs where its
  -- place is running, and is free where its place is free
  module _ (k : ℕ) (some : 1 ≤ k) (low : k ≤ task_blocks) where
    pub task-place : (task_at s k).place ≤ Ending
    task-place = (lawful.shape.tasks k some low).fields.place

    pub task-level : (task_at s k).place ≢ Free → (1 ≤ level_of s k) × (level_of s k ≤ 3)
    unfolding place_of ◌among◌
    task-level used = (level-best lawful.shape some low used, level-worst lawful.shape some low used)

    pub task-in-one-queue : (q : ℕ) → q < QUEUES → count k (queue s q) ≡ (if eqb (queue_for (task_at s k).place (level_of s k)) q then 1 else 0)
    unfolding place_of ◌among◌ one
    task-in-one-queue = (lawful.shape.tasks k some low).queued

    pub task-runs : (t.running ≡ k) ↔ ((task_at s k).place ≡ Running)
    unfolding place_of ◌among◌
    task-runs = same-where t.running k (task_at s k).place Running (lawful.shape.tasks k some low).runs

    pub task-free : (has t.free_tasks k ≡ true) ↔ ((task_at s k).place ≡ Free)
    unfolding place_of ◌among◌
    task-free = has-where t.free_tasks k (task_at s k).place Free (lawful.shape.tasks k some low).free_tasks

  -- "and request block is in exactly one place": one of the four; once in the channel queue where it is queued, in no other queue, on the channel or not, free or not
  module _ (r : ℕ) (some : 1 ≤ r) (low : r ≤ request_blocks) where
    pub request-place : (request_at s r).place ≤ Done
    request-place = (lawful.shape.requests r some low).kind

    pub request-in-one-queue : count (node r) (queue s channel_queue) ≡ (if eqb (request_at s r).place Queued then 1 else 0)
    unfolding one
    request-in-one-queue = (lawful.shape.requests r some low).queued

    pub request-in-no-other : (q : ℕ) → q < 8 → count (node r) (queue s q) ≡ 0
    request-in-no-other = (lawful.shape.requests r some low).others

    pub request-on-channel : (t.channel ≡ r) ↔ ((request_at s r).place ≡ OnChannel)
    request-on-channel = same-where t.channel r (request_at s r).place OnChannel (lawful.shape.requests r some low).runs

    pub request-free : (has t.free_requests r ≡ true) ↔ ((request_at s r).place ≡ Free)
    request-free = has-where t.free_requests r (request_at s r).place Free (lawful.shape.requests r some low).free_requests

  -- and nothing else is in a place: queues hold blocks, and what runs or is on the channel is a block or none
  pub queues-hold-tasks : (q y : ℕ) → q < 8 → 1 ≤ count y (queue s q) → (1 ≤ y) × (y ≤ task_blocks)
  queues-hold-tasks q y l c = (member-some lawful.shape y q l c, member-low lawful.shape y q l c)

  pub channel-holds-requests : (y : ℕ) → 1 ≤ count y (queue s channel_queue) → (node 1 ≤ y) × (y ≤ node 16)
  channel-holds-requests y c = (channel-high lawful.shape y c, channel-low lawful.shape y c)

  pub runs-a-block : (t.running ≤ task_blocks) × (t.channel ≤ request_blocks)
  runs-a-block = (lawful.shape.blank.running, lawful.shape.blank.channel)

  -- ---- "its threads agreeing forward and back", of the pointers alone. Of two blocks y and z (task blocks 1 to 24, request blocks 25 to 40), z is behind y where y is before z; a
  -- pointer names a block or none; and a block in no queue has no pointer
  abbrev fwd : ℕ → ℕ
  fwd y = get_or t.threads.fwd y 0

  abbrev back : ℕ → ℕ
  back y = get_or t.threads.back y 0

  pub threads : Sound t.threads
  threads = (reached-lawful image reached).pointers

  pub agree : (y z : ℕ) → 1 ≤ y → y ≤ BLOCKS → 1 ≤ z → z ≤ BLOCKS → (fwd y ≡ z) ↔ (back z ≡ y)
  agree = both_ways t.threads threads

  pub name-blocks : (y : ℕ) → y ≤ BLOCKS → (fwd y ≤ BLOCKS) × (back y ≤ BLOCKS)
  name-blocks = names-blocks t.threads threads

  pub none : (y : ℕ) → 1 ≤ y → y ≤ BLOCKS → counts y s.queues ≡ 0 → (fwd y ≡ 0) × (back y ≡ 0)
  none y some low out = (none-behind t.threads threads y some low out, none_ahead t.threads threads y some low out)

  -- the first of a queue has none before it, and no other block of a queue has; the last has none behind it, and no other
  module _ (q : ℕ) (low : q < QUEUES) where
    pub none-before-first : back (get_or t.threads.first q 0) ≡ 0
    none-before-first = first_ends t.threads threads q low

    pub none-behind-last : fwd (get_or t.threads.last q 0) ≡ 0
    none-behind-last = last-ends t.threads threads q low

    pub last-is-last : get_or t.threads.last q 0 ≡ lst 0 (queue s q)
    last-is-last = last_of t.threads threads q low

  module _ (y : ℕ) (in-queue : 1 ≤ counts y s.queues) where
    pub only-first : back y ≡ 0 → (q : ℕ) × (q < QUEUES) × (get_or t.threads.first q 0 ≡ y)
    only-first = begins t.threads threads y in-queue

    pub only-last : fwd y ≡ 0 → (q : ℕ) × (q < QUEUES) × (get_or t.threads.last q 0 ≡ y)
    only-last = ends t.threads threads y in-queue

  -- ---- "Core runs of a level are disjoint and with its free units make 64": no unit is in the runs of two tasks; and each of the 64 units is in one run, or free
  pub runs-disjoint : (i j level u : ℕ) → 1 ≤ i → i ≤ task_blocks → 1 ≤ j → j ≤ task_blocks → holds_unit s level u i ≡ true → holds_unit s level u j ≡ true → i ≡ j
  runs-disjoint = runs-apart lawful.shape

  pub make-64 : (level u : ℕ) → 1 ≤ level → level ≤ 3 → u < 64 → how_many (holds_unit s level u) (one_to task_blocks) ≡ (if has (pool_at s level) u then 1 else 0)
  make-64 level u lo hi l = units-make lawful.shape level u lo hi

  -- ---- "No event waiter's condition already holds": of its set fewer events are on than it waits for
  pub no-condition-holds : (k : ℕ) → 1 ≤ count k (queue s event_queue) → size (bit_and (task_at s k).events t.on) < (task_at s k).count
  no-condition-holds = too_few lawful

  -- ---- "and no first waiter for core would fit": no run of its length that lies in the pool is free of granted units
  pub no-first-fits : (level : ℕ) → 1 ≤ level → level ≤ 3 → (k : ℕ) (behind : List ℕ) → queue s (core_queue level) ≡ k ∷ behind
      → (a : ℕ) → a + units_of s k ≤ 64 → ((u : ℕ) → a ≤ u → u < a + units_of s k → has (pool_at s level) u ≡ false) → ⊥
  no-first-fits = no_run lawful
