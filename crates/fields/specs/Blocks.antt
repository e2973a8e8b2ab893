-- The rules over one block, gathered: what a task block and a request block pass in one turn of a loop.
use Rattle.std.specs.Prelude.{Bool, not, ◌&&◌, ◌||◌, ◌≡◌, List, [], ◌∷◌, ℕ, ◌+◌, ◌≤◌, ◌^◌, eqb, leb, ltb, get_or, if◌then◌else◌}
use Rattle.std.specs.Bool.{beq}
use Rattle.std.specs.Int.Bits.{bit_and}
use Rattle.words.specs.Words.{◌implies◌, all_of, some_of, one_to, standing, all_true, has, size}
use Rattle.pools.specs.Pools.{SmallestHole}
use Rattle.tables.specs.declared.Task.{Task}
use Rattle.tables.specs.declared.Request.{Request}
use Rattle.tables.specs.declared.Tables.{Tables}
use Rattle.tables.specs.Blocks.{Free, Running, InCore, InEvent, InTime, InCheck, Ending, Queued, OnChannel, NotGranted, HoldsRun, waits_in, task_blocks, request_blocks}
use Rattle.tables.specs.State.{State, channel_queue, node, task_at, request_at, pool_at, level_of, units_of, read}
use Rattle.meaning.specs.Rules.{directory_passes, task_in_range, request_in_range, queue_for, blank_task, blank_request, clear_task, clear_request}
use Rattle.threads.specs.Threads.{BLOCKS}

-- the marks say where each block stands
pub record Marked (t : Tables) (m : List ℕ) : Type 0 where
  pub stands : (y : ℕ) → y ≤ BLOCKS → get_or m y 0 ≡ standing y (read t).queues

-- ---- A task block, of a module of so many units.

-- its fields by themselves: "every field in range", "any field with no meaning .. is zero", "core waiters still need core, and besides them only event
-- and time waiters may"
abbrev pub fields_right : ℕ → ℕ → Task → Bool
fields_right modules units x =
    let needs = ltb 0 units && eqb x.core NotGranted in
    task_in_range modules units x && clear_task units x
    && ((eqb x.place InCore implies needs)
    && ((not (eqb x.place Free) && needs) implies (eqb x.place InCore || eqb x.place InEvent || eqb x.place InTime)))

-- of its fields, those of its core
abbrev pub core_right : ℕ → Task → Bool
core_right units x =
    (eqb x.core HoldsRun implies leb (x.start + units) 64) && (eqb units 0 implies eqb x.core NotGranted)
    && (not (eqb x.core HoldsRun) implies eqb x.start 0)

-- of its fields, what is asked by its place, where it is used
abbrev pub own_right : ℕ → Task → Bool
own_right units x =
    let needs = ltb 0 units && eqb x.core NotGranted in
    leb x.place Ending && (not (eqb x.place InEvent) implies (eqb x.count 0 && eqb x.events 0))
    && (not (eqb x.place InTime) implies eqb x.time 0)
    && (leb x.request 16 && (not (eqb x.place InCheck) implies eqb x.request 0))
    && ((eqb x.place InCore implies needs) && (needs implies (eqb x.place InCore || eqb x.place InEvent || eqb x.place InTime)))

-- its place: the queue in which it stands is that of its place, it runs where it is the one that runs, it is free where the free set has it
abbrev pub place_right : ℕ → ℕ → Bool → Bool → Task → Bool
place_right stands level runs free x =
    eqb stands (queue_for x.place level) && beq runs (eqb x.place Running) && beq free (eqb x.place Free)

-- an event waiter: "event waiters pass 13 and 14", "No event waiter's condition already holds"
unfoldable pub waiter_right : ℕ → ℕ → Task → Bool
waiter_right defined on x =
    eqb x.place InEvent
    implies (eqb (bit_and x.events defined) x.events && leb 1 x.count && leb x.count (size x.events)
    && not (leb x.count (size (bit_and x.events on))))

-- E6: the reading is 0 where the place does not wait, and "never past the clock"
abbrev pub since_right : ℕ → Task → Bool
since_right clock x = (not (waits_in x.place) implies eqb x.since 0) && leb x.since clock

-- the request q is the task k's, and queued or on the channel
abbrev pub pends : ℕ → Request → Bool
pends k q = eqb q.owner k && (eqb q.place Queued || eqb q.place OnChannel)

-- "CHECK waits for an own pending request", "an ending task has one"
abbrev pub pending_right : Bool → Bool → Task → Bool
pending_right own some x = (eqb x.place InCheck implies own) && (eqb x.place Ending implies some)

unfoldable pub task_passes : State → ℕ → Bool
task_passes s k =
    let x = task_at s k in
    fields_right s.directory.modules (units_of s k) x
    && place_right (standing k s.queues) (level_of s k) (eqb s.running k) (has s.free_tasks k) x
    && waiter_right s.directory.defined s.on x
    && pending_right (pends k (request_at s x.request)) (some_of (λ r. pends k (request_at s r)) (one_to request_blocks)) x
    && leb x.since s.clock

-- ---- A request block: its fields, its place, and "a used request's owner is a used task".

abbrev pub request_right : ℕ → Bool → Bool → Bool → Request → Bool
request_right stands on free used q =
    request_in_range q && clear_request q
    && (eqb stands (if eqb q.place Queued then channel_queue else 9) && beq on (eqb q.place OnChannel))
    && beq free (eqb q.place Free)
    && (not (eqb q.place Free) implies used)

-- the number is that of a used task block, by the set of the free ones
abbrev pub used_by : ℕ → ℕ → Bool
used_by free_tasks k = leb k 24 && leb 1 k && not (has free_tasks k)

unfoldable pub request_passes : State → ℕ → Bool
request_passes s r =
    let q = request_at s r in
    request_right (standing (node r) s.queues) (eqb s.channel r) (has s.free_requests r) (used_by s.free_tasks q.owner) q

-- the set has the tasks that have a request pending
pub record Owners (s : State) (owners : ℕ) : Type 0 where
  pub each : (k : ℕ) → k ≤ task_blocks → has owners k ≡ some_of (λ r. pends k (request_at s r)) (one_to request_blocks)

-- ---- The first pass: the directory, the numbers of the tables, slot 0, and each block by itself.

unfoldable pub first_tests : State → List Bool
first_tests s =
    directory_passes s.directory
    ∷ leb s.running 24
    ∷ leb s.channel 16
    ∷ leb s.holes SmallestHole
    ∷ eqb (bit_and s.on s.directory.defined) s.on
    ∷ eqb (bit_and s.on s.signalled) s.on
    ∷ eqb (bit_and s.signalled s.directory.defined) s.signalled
    ∷ ltb s.free_tasks (2 ^ (task_blocks + 1))
    ∷ not (has s.free_tasks 0)
    ∷ ltb s.free_requests (2 ^ (request_blocks + 1))
    ∷ not (has s.free_requests 0)
    ∷ blank_task (task_at s 0)
    ∷ blank_request (request_at s 0)
    ∷ eqb (pool_at s 0) 0
    ∷ all_of (request_passes s) (one_to request_blocks)
    ∷ all_of (task_passes s) (one_to task_blocks)
    ∷ []

unfoldable pub first_pass : State → Bool
first_pass s = all_true (first_tests s)
