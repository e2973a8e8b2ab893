-- The rules with several parts, taken apart and put together in one place, each part under a name: "every field in range", "The free blocks are sets",
-- "any field with no meaning .. is zero", of all blocks and of one. A part more is a line more in its record: both ways find it.
use mathlib.Core.Bool.{Bool, true, not, ◌&&◌, ◌||◌, beq}
use mathlib.Core.Path.{◌≡◌}
use Prim.Native.Nat.{ℕ, ◌+◌, ◌^◌}
use lib.Dec.{eqb, leb, ltb}
use Rattle.words.specs.Words.{if◌then◌else◌, ◌implies◌, standing, has}
use Rattle.pools.specs.Pools.{SmallestHole}
use Rattle.tables.specs.declared.Task.{Task}
use Rattle.tables.specs.declared.Request.{Request}
use Rattle.tables.specs.Blocks.{task_blocks, request_blocks, Free, Running, InEvent, InTime, InCheck, Ending, Queued, OnChannel, Done, HoldsRun, GaveBack, NotGranted, waits_in}
use Rattle.tables.specs.State.{State, channel_queue, node, task_at, request_at, pool_at, level_of, units_of}
use Rattle.threads.specs.Threads.{no_queue}
use Rattle.meaning.specs.Rules.{every_task, every_request, task_in_range, request_in_range, in_range, queue_for, free_sets, blank_task, blank_request, clear_task, clear_request, fields_clear}
use Rattle.words.proofs.Truth.{and_left, and_right, and-of}

-- of tests that all hold, each
pub ruleset sides = (and_left, and_right)

-- ---- The tests of one block.

module _ (s : State) (k : ℕ) where
  abbrev pub task_range : Bool
  task_range = task_in_range s.directory.modules (units_of s k) (task_at s k)

  abbrev pub request_range : Bool
  request_range = request_in_range (request_at s k)

  abbrev pub task_stands : Bool
  task_stands = eqb (standing k s.queues) (queue_for (task_at s k).place (level_of s k)) && beq (eqb s.running k) (eqb (task_at s k).place Running)

  abbrev pub request_stands : Bool
  request_stands =
      eqb (standing (node k) s.queues) (if eqb (request_at s k).place Queued then channel_queue else no_queue)
      && beq (eqb s.channel k) (eqb (request_at s k).place OnChannel)

  abbrev pub task_free : Bool
  task_free = beq (has s.free_tasks k) (eqb (task_at s k).place Free)

  abbrev pub request_free : Bool
  request_free = beq (has s.free_requests k) (eqb (request_at s k).place Free)

  abbrev pub task_clear : Bool
  task_clear = clear_task (units_of s k) (task_at s k)

  abbrev pub request_clear : Bool
  request_clear = clear_request (request_at s k)

-- ---- "every field in range"

pub record Ranges (s : State) : Type 0 where
  pub running : leb s.running task_blocks ≡ true
  pub channel : leb s.channel request_blocks ≡ true
  pub holes : leb s.holes SmallestHole ≡ true
  pub tasks : every_task (task_range s) ≡ true
  pub requests : every_request (request_range s) ≡ true

module _ (s : State) where
  pub ranges : in_range s ≡ true → Ranges s
  unfolding in_range
  ranges e = search sides depth 10

  pub in-range : Ranges s → in_range s ≡ true
  unfolding in_range
  in-range r = search and-of

-- ---- "The free blocks are sets"

pub record Sets (s : State) : Type 0 where
  pub tasks : every_task (task_free s) ≡ true
  pub requests : every_request (request_free s) ≡ true
  pub free_tasks : ltb s.free_tasks (2 ^ (task_blocks + 1)) ≡ true
  pub free_tasks-none : not (has s.free_tasks 0) ≡ true
  pub free_requests : ltb s.free_requests (2 ^ (request_blocks + 1)) ≡ true
  pub free_requests-none : not (has s.free_requests 0) ≡ true

module _ (s : State) where
  pub sets : free_sets s ≡ true → Sets s
  unfolding free_sets
  sets e = search sides depth 10

  pub free-sets : Sets s → free_sets s ≡ true
  unfolding free_sets
  free-sets f = search and-of

-- ---- "A free block, and any field with no meaning in the block's present place, is zero", and slot 0

pub record Clears (s : State) : Type 0 where
  pub tasks : every_task (task_clear s) ≡ true
  pub requests : every_request (request_clear s) ≡ true
  pub task : blank_task (task_at s 0) ≡ true
  pub request : blank_request (request_at s 0) ≡ true
  pub pool : eqb (pool_at s 0) 0 ≡ true

module _ (s : State) where
  pub clears : fields_clear s ≡ true → Clears s
  unfolding fields_clear
  clears e = search sides depth 10

  pub all-clear : Clears s → fields_clear s ≡ true
  unfolding fields_clear
  all-clear c = search and-of

-- ---- One task block, of a directory of so many modules, and a module of so many units

pub record TaskRange (modules units : ℕ) (t : Task) : Type 0 where
  pub place : leb t.place Ending ≡ true
  pub parent : leb t.parent task_blocks ≡ true
  pub core : leb t.core GaveBack ≡ true
  pub request : leb t.request request_blocks ≡ true
  pub program : (not (eqb t.place Free) implies ltb t.program modules) ≡ true
  pub run : (eqb t.core HoldsRun implies leb (t.start + units) 64) ≡ true

pub record TaskClear (units : ℕ) (t : Task) : Type 0 where
  pub free : (eqb t.place Free implies blank_task t) ≡ true
  pub core : (eqb units 0 implies eqb t.core NotGranted) ≡ true
  pub start : (not (eqb t.core HoldsRun) implies eqb t.start 0) ≡ true
  pub event : (not (eqb t.place InEvent) implies (eqb t.count 0 && eqb t.events 0)) ≡ true
  pub time : (not (eqb t.place InTime) implies eqb t.time 0) ≡ true
  pub request : (not (eqb t.place InCheck) implies eqb t.request 0) ≡ true
  pub since : (not (waits_in t.place) implies eqb t.since 0) ≡ true

module _ (modules units : ℕ) (t : Task) where
  pub task-range : task_in_range modules units t ≡ true → TaskRange modules units t
  task-range e = search sides depth 10

  pub task-in-range : TaskRange modules units t → task_in_range modules units t ≡ true
  task-in-range r = search and-of

module _ (units : ℕ) (t : Task) where
  pub task-clear : clear_task units t ≡ true → TaskClear units t
  task-clear e = search sides depth 10

  pub clear-task : TaskClear units t → clear_task units t ≡ true
  clear-task c = search and-of

-- ---- One request block

pub record RequestRange (q : Request) : Type 0 where
  pub place : leb q.place Done ≡ true
  pub owner : leb q.owner task_blocks ≡ true
  pub used : (not (eqb q.place Free) implies (leb q.device 249 && (eqb q.command 13 || eqb q.command 14) && leb 1 q.bytes)) ≡ true

module _ (q : Request) where
  pub request-range : request_in_range q ≡ true → RequestRange q
  request-range e = search sides depth 10

  pub request-in-range : RequestRange q → request_in_range q ≡ true
  request-in-range r = search and-of
