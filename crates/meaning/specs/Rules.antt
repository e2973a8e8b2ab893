-- Document 01, 'What each call does', last paragraph: "Table rules, exactly". Each rule is a test of its own under its words; `rules_hold` is all of them.
-- A rule over one block is a test of the block, with what it needs of its module.
use Rattle.std.specs.Prelude.{Bool, true, not, ◌&&◌, ◌||◌, List, [], ◌∷◌, ◌++◌, ℕ, zero, suc, ◌+◌, ◌^◌, eqb, leb, ltb, if◌then◌else◌}
use Rattle.std.specs.Bool.{beq}
use Rattle.std.specs.Int.Bits.{bit_and}
use Rattle.threads.specs.declared.Threads.{Threads}
use Rattle.threads.specs.Threads.{BLOCKS, hd, counts, threaded, queues_of, no_queue}
use Rattle.words.specs.Words.{◌implies◌, is_empty, below, one_to, all_of, how_many, same_list, up_by, standing, all_true, has, size}
use Rattle.words.specs.Rows.{first_of}
use Rattle.image.specs.declared.Directory.{Directory}
use Rattle.image.specs.Directory.{directory_rows}
use Rattle.tables.specs.declared.Task.{Task}
use Rattle.tables.specs.declared.Request.{Request}
use Rattle.tables.specs.declared.Tables.{Tables}
use Rattle.tables.specs.Blocks.{task_blocks, request_blocks, Free, Running, Ready, InCore, InEvent, InTime, InLink, InCheck, Ending, Queued, OnChannel, Done, HoldsRun, GaveBack, NotGranted, waits_in}
use Rattle.tables.specs.State.{State, event_queue, ready_queue, core_queue, time_queue, channel_queue, node, task_at, request_at, pool_at, queue, level_of, units_of, read}
use Rattle.meaning.specs.Conditions.{undefined_in, enough}
use Rattle.pools.specs.Pools.{in_run, SmallestHole}
use Rattle.meaning.specs.Ready.{fits, needs_core}
use Rattle.meaning.specs.Finish.{pending_of, pending}
use Rattle.meaning.specs.Channel.{channel_level}

-- the test holds of every task block, of every request block, of every level
abbrev pub every_task : (ℕ → Bool) → Bool
every_task p = all_of p (one_to task_blocks)

abbrev pub every_request : (ℕ → Bool) → Bool
every_request p = all_of p (one_to request_blocks)

abbrev pub every_level : (ℕ → Bool) → Bool
every_level p = all_of p (one_to 3)

-- ---- "the directory passes 4 to 7"
unfoldable pub directory_passes : Directory → Bool
directory_passes d = eqb (first_of (directory_rows d)) 0

-- ---- "every field in range"

-- of a directory of so many modules, and a module of so many units
abbrev pub task_in_range : ℕ → ℕ → Task → Bool
task_in_range modules units t =
    leb t.place Ending && leb t.parent task_blocks && leb t.core GaveBack && leb t.request request_blocks
    && (not (eqb t.place Free) implies ltb t.program modules)
    && (eqb t.core HoldsRun implies leb (t.start + units) 64)

abbrev pub request_in_range : Request → Bool
request_in_range q =
    leb q.place Done && leb q.owner task_blocks
    && (not (eqb q.place Free) implies (leb q.device 249 && (eqb q.command 13 || eqb q.command 14) && leb 1 q.bytes))

unfoldable pub in_range : State → Bool
in_range s =
    leb s.running task_blocks && leb s.channel request_blocks
    && leb s.holes SmallestHole  -- E8
    && every_task (λ k. task_in_range s.directory.modules (units_of s k) (task_at s k))
    && every_request (λ r. request_in_range (request_at s r))

-- ---- "events on are defined"
unfoldable pub on_defined : State → Bool
on_defined s = not (undefined_in s s.on)

-- E1: "an event that is on has been signalled,"
unfoldable pub on_signalled : State → Bool
on_signalled s = eqb (bit_and s.on s.signalled) s.on

-- E1: "and a signalled one is defined"
unfoldable pub signalled_defined : State → Bool
signalled_defined s = not (undefined_in s s.signalled)

-- ---- "this paragraph"

-- "Task and request blocks carry a forward and a back pointer for the queue they are on": the pointers are those of nine lists of blocks, in which none
-- stands twice
unfoldable pub everywhere : (ℕ → Bool) → List (List ℕ) → Bool
everywhere p [] = true
everywhere p (l ∷ ls) = all_of p l && everywhere p ls

unfoldable pub pointers_sound : Threads → Bool
pointers_sound t =
    let ls = queues_of t in
    everywhere (λ y. leb 1 y && leb y BLOCKS) ls
    && all_of (λ y. leb (counts y ls) 1) (one_to BLOCKS)
    && (same_list t.fwd (threaded ls).fwd && same_list t.back (threaded ls).back)
    && (same_list t.first (threaded ls).first && same_list t.last (threaded ls).last)

-- "A task block is in one of these places: free, running, a level's ready or core queue, the event queue, the time queue, or waiting in LINK, in CHECK
-- or as ending." The queue of a place, of a task of a level
unfoldable pub queue_for : ℕ → ℕ → ℕ
queue_for place level =
    if eqb place Ready then ready_queue level
    else if eqb place InCore then core_queue level
    else if eqb place InEvent then event_queue
    else if eqb place InTime then time_queue
    else no_queue

-- a block is in the queue of its place; that it is in no other follows, since no block stands twice (`pointers_sound`)
unfoldable pub tasks_in_place : State → Bool
tasks_in_place s =
    every_task (λ k. let t = task_at s k in
    eqb (standing k s.queues) (queue_for t.place (level_of s k)) && beq (eqb s.running k) (eqb t.place Running))

-- "A request block is free, queued, on the channel or done."
unfoldable pub requests_in_place : State → Bool
requests_in_place s =
    every_request (λ r. let q = request_at s r in
    eqb (standing (node r) s.queues) (if eqb q.place Queued then channel_queue else no_queue)
    && beq (eqb s.channel r) (eqb q.place OnChannel))

-- "The free blocks are sets." Of blocks 1 to 24, and of blocks 1 to 16
unfoldable pub free_sets : State → Bool
free_sets s =
    every_task (λ k. beq (has s.free_tasks k) (eqb (task_at s k).place Free))
    && every_request (λ r. beq (has s.free_requests r) (eqb (request_at s r).place Free))
    && ltb s.free_tasks (2 ^ (task_blocks + 1)) && not (has s.free_tasks 0)
    && ltb s.free_requests (2 ^ (request_blocks + 1)) && not (has s.free_requests 0)

-- "A free block, and any field with no meaning in the block's present place, is zero." "Zero names no block": slot 0 is zero.
abbrev pub blank_task : Task → Bool
blank_task t =
    eqb t.place 0 && eqb t.program 0 && eqb t.parent 0 && eqb t.core 0 && eqb t.start 0
    && eqb t.count 0 && eqb t.events 0 && eqb t.time 0 && eqb t.since 0 && eqb t.request 0

abbrev pub blank_request : Request → Bool
blank_request q = eqb q.place 0 && eqb q.owner 0 && eqb q.device 0 && eqb q.command 0 && eqb q.bytes 0

abbrev pub clear_task : ℕ → Task → Bool
clear_task units t =
    (eqb t.place Free implies blank_task t)
    && (eqb units 0 implies eqb t.core NotGranted)
    && (not (eqb t.core HoldsRun) implies eqb t.start 0)
    && (not (eqb t.place InEvent) implies (eqb t.count 0 && eqb t.events 0))
    && (not (eqb t.place InTime) implies eqb t.time 0)
    && (not (eqb t.place InCheck) implies eqb t.request 0)
    && (not (waits_in t.place) implies eqb t.since 0)  -- E6

abbrev pub clear_request : Request → Bool
clear_request q = eqb q.place Free implies blank_request q

unfoldable pub fields_clear : State → Bool
fields_clear s =
    every_task (λ k. clear_task (units_of s k) (task_at s k)) && every_request (λ r. clear_request (request_at s r))
    && (blank_task (task_at s 0) && blank_request (request_at s 0) && eqb (pool_at s 0) 0)

-- ---- "demand 3 but for its words on new dispatches". "Each task and request block is in exactly one place, its threads agreeing forward and back":
-- the rules of this paragraph, above.

-- the unit u of the level is in the run of the task k
unfoldable pub holds_unit : State → ℕ → ℕ → ℕ → Bool
holds_unit s level u k =
    eqb (task_at s k).core HoldsRun && eqb (level_of s k) level && in_run (task_at s k).start (units_of s k) u

-- "Core runs of a level are disjoint and with its free units make 64": a unit is granted where one task's run has it, and free where none has
unfoldable pub core_held : State → Bool
core_held s =
    every_level (λ level. all_of (λ u.
    let holders = how_many (holds_unit s level u) (one_to task_blocks) in
    eqb holders (if has (pool_at s level) u then 1 else 0)) (below 64))

-- "LINK parents never form a ring": from each task, parent by parent, one comes to none
unfoldable pub upward : State → ℕ → ℕ → ℕ
upward s zero k = k
upward s (suc n) k = upward s n (task_at s k).parent

unfoldable pub chains_end : State → Bool
chains_end s = every_task (λ k. eqb (upward s task_blocks k) 0)

-- "The processor is idle only if nothing is ready"
unfoldable pub idle_only_if_none_ready : State → Bool
idle_only_if_none_ready s = eqb s.running 0 implies every_level (λ level. is_empty (queue s (ready_queue level)))

-- "No event waiter's condition already holds"
unfoldable pub events_wait : State → Bool
events_wait s = all_of (λ k. not (enough s (task_at s k).count (task_at s k).events)) (queue s event_queue)

-- "and no first waiter for core would fit"
unfoldable pub core_waits : State → Bool
core_waits s = every_level (λ level. let l = queue s (core_queue level) in not (is_empty l) implies not (fits s (hd l)))

-- E6: "Demand 3 gains: it is never past the clock."
unfoldable pub never_past : State → Bool
never_past s = every_task (λ k. leb (task_at s k).since s.clock)

-- ---- "the time queue by time, the channel queue by level"
unfoldable pub queues_in_order : State → Bool
queues_in_order s = up_by (λ k. (task_at s k).time) (queue s time_queue) && up_by (channel_level s) (queue s channel_queue)

-- ---- "ready and core queues hold their level's tasks"
unfoldable pub of_their_level : State → Bool
of_their_level s =
    every_level (λ level. all_of (λ k. eqb (level_of s k) level) (queue s (ready_queue level) ++ queue s (core_queue level)))

-- ---- "a run has its module's length": a task block has the start of its run alone, and `holds_unit` takes the length from its module.

-- ---- "core waiters still need core, and besides them only event and time waiters may"
unfoldable pub core_needed : State → Bool
core_needed s =
    every_task (λ k. let p = (task_at s k).place in
    (eqb p InCore implies needs_core s k)
    && ((not (eqb p Free) && needs_core s k) implies (eqb p InCore || eqb p InEvent || eqb p InTime)))

-- ---- "event waiters pass 13 and 14"
unfoldable pub events_pass : State → Bool
events_pass s =
    all_of (λ k. let t = task_at s k in not (undefined_in s t.events) && leb 1 t.count && leb t.count (size t.events)) (queue s event_queue)

-- ---- "a LINK waiter has exactly one child, a parent is in LINK"
unfoldable pub linked : State → Bool
linked s =
    every_task (λ k. eqb (how_many (λ c. eqb (task_at s c).parent k) (one_to task_blocks)) (if eqb (task_at s k).place InLink then 1 else 0))

-- ---- "a used request's owner is a used task"
unfoldable pub owned : State → Bool
owned s = every_request (λ r. let q = request_at s r in not (eqb q.place Free) implies not (eqb (task_at s q.owner).place Free))

-- ---- "CHECK waits for an own pending request"
unfoldable pub checks_pending : State → Bool
checks_pending s = every_task (λ k. let t = task_at s k in eqb t.place InCheck implies pending_of s k t.request)

-- ---- "an ending task has one"
unfoldable pub ending_pending : State → Bool
ending_pending s = every_task (λ k. eqb (task_at s k).place Ending implies pending s k)

-- ---- "no queue behind an empty channel"
unfoldable pub channel_busy : State → Bool
channel_busy s = eqb s.channel 0 implies is_empty (queue s channel_queue)

-- ---- All rules, in document 01's order: of the state that the tables read as, and of the pointers.
unfoldable pub state_rules : State → List Bool
state_rules s =
    directory_passes s.directory
    ∷ in_range s
    ∷ on_defined s
    ∷ on_signalled s  -- E1
    ∷ signalled_defined s  -- E1
    ∷ tasks_in_place s
    ∷ requests_in_place s
    ∷ free_sets s
    ∷ fields_clear s
    ∷ core_held s
    ∷ chains_end s
    ∷ idle_only_if_none_ready s
    ∷ events_wait s
    ∷ core_waits s
    ∷ never_past s  -- E6
    ∷ queues_in_order s
    ∷ of_their_level s
    ∷ core_needed s
    ∷ events_pass s
    ∷ linked s
    ∷ owned s
    ∷ checks_pending s
    ∷ ending_pending s
    ∷ channel_busy s
    ∷ []

unfoldable pub rules_hold : Tables → Bool
rules_hold t = pointers_sound t.threads && all_true (state_rules (read t))
