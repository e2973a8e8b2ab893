-- ==== Inside: words for contracts below the public face. What the executive, its library and the demands claim does not rest on them.
-- The table rules of document 01 as records, over a state in which some task blocks are in hand: in no place, on the way from one to another.
-- These are the rules that hold between any two small changes; those that hold at rest alone are in Resting.
use Rattle.std.specs.Prelude.{true, false, cond, ◌&&◌, ◌≡◌, ◌≢◌, List, ◌∷◌, ℕ, ◌+◌, ◌^◌, ◌≤◌, ◌<◌, suc, length, get_or, eqb}
use Rattle.std.specs.Int.Bits.{bit_and}
use Rattle.threads.specs.Threads.{count, QUEUES}
use Rattle.words.specs.Words.{◌among◌, up_by, size}
use Rattle.words.specs.Counting.{one, bit, sum}
use Rattle.image.specs.declared.Entry.{Entry}
use Rattle.image.specs.declared.Directory.{Directory}
use Rattle.image.specs.Directory.{entry_at}
use Rattle.tables.specs.declared.Task.{Task}
use Rattle.tables.specs.declared.Request.{Request}
use Rattle.tables.specs.Blocks.{Free, Running, Ready, InCore, InEvent, InTime, InLink, InCheck, Ending, Queued, OnChannel, no_task, no_request, in_place, task_blocks, request_blocks}
use Rattle.tables.specs.State.{State, time_queue, channel_queue, node, task_at, request_at, pool_at, queue, level_of}
use Rattle.pools.specs.Pools.{run, SmallestHole}
use Rattle.meaning.specs.Rules.{directory_passes, queue_for}
use Rattle.meaning.specs.Channel.{channel_level}

-- ---- Words.

-- the module of a task
abbrev pub module_of : Directory → Task → Entry
module_of d t = entry_at d t.program

-- where the block y is: in hand, which is no place of a block, or where it says
abbrev pub Hand : ℕ
Hand = 255

unfoldable pub place_of : State → List ℕ → ℕ → ℕ
place_of s h y = cond (y among h) Hand (task_at s y).place

-- "any field with no meaning in the block's present place, is zero": the block t in the place p, with those fields zero
abbrev pub cleared : ℕ → Task → Task
cleared p t =
    in_place t.since t p (cond (eqb p InEvent) t.count 0) (cond (eqb p InEvent) t.events 0) (cond (eqb p InTime) t.time 0) (cond (eqb p InCheck) t.request 0)

-- ---- One task block: "every field in range", "A free block, and any field with no meaning in the block's present place, is zero", "core waiters still need
-- core, and besides them only event and time waiters may", "event waiters pass 13 and 14".
pub record Fields (d : Directory) (p : ℕ) (t : Task) : Type 0 where
  pub place : t.place ≤ 8
  pub free : p ≡ Free → t ≡ no_task
  pub program : p ≢ Free → t.program < d.modules
  pub parent : t.parent ≤ task_blocks
  pub core : t.core ≤ 2
  pub inside : t.core ≡ 1 → t.start + (module_of d t).units ≤ 64
  pub start : t.core ≢ 1 → t.start ≡ 0
  pub unneeded : (module_of d t).units ≡ 0 → t.core ≡ 0
  pub waits : p ≡ InCore → (1 ≤ (module_of d t).units) × (t.core ≡ 0)
  pub needs : 1 ≤ (module_of d t).units → t.core ≡ 0 → (p ≢ Running) × (p ≢ Ready) × (p ≢ InLink) × (p ≢ InCheck) × (p ≢ Ending)
  pub clear : p ≢ Hand → t ≡ cleared p t
  pub passes : p ≡ InEvent → (bit_and t.events d.defined ≡ t.events) × (1 ≤ t.count) × (t.count ≤ size t.events)

-- the request r is the task y's, and "queued or on the channel"
pub record Pending (l : List Request) (y r : ℕ) : Type 0 where
  pub some : 1 ≤ r
  pub low : r ≤ request_blocks
  pub own : (get_or l r no_request).owner ≡ y
  pub first : 1 ≤ (get_or l r no_request).place
  pub last : (get_or l r no_request).place ≤ 2

-- "each task .. block is in exactly one place": the block y in the place p, in the queue of that place and in no other, running or not, free or not.
-- "CHECK waits for an own pending request", "an ending task has one". E6: its reading "is never past the clock"
pub record Stands (s : State) (p y : ℕ) : Type 0 where
  pub fields : Fields s.directory p (task_at s y)
  pub queued : (q : ℕ) → q < QUEUES → count y (queue s q) ≡ one (queue_for p (level_of s y)) q
  pub runs : one s.running y ≡ one p Running
  pub free_tasks : bit s.free_tasks y ≡ one p Free
  pub checks : p ≡ InCheck → Pending s.requests y (task_at s y).request
  pub ends : p ≡ Ending → (r : ℕ) × Pending s.requests y r
  pub since : (task_at s y).since ≤ s.clock

-- ---- One request block: "A request block is free, queued, on the channel or done", "a used request's owner is a used task".
pub record Carried (s : State) (h : List ℕ) (r : ℕ) : Type 0 where
  pub kind : (request_at s r).place ≤ 3
  pub free : (request_at s r).place ≡ 0 → request_at s r ≡ no_request
  pub used : 1 ≤ (request_at s r).place → (1 ≤ (request_at s r).owner) × ((request_at s r).owner ≤ task_blocks) × ((request_at s r).device ≤ 249) × (13 ≤ (request_at s r).command) × ((request_at s r).command ≤ 14) × (1 ≤ (request_at s r).bytes)
  pub owned : 1 ≤ (request_at s r).place → place_of s h (request_at s r).owner ≢ Free
  pub others : (q : ℕ) → q < 8 → count (node r) (queue s q) ≡ 0
  pub queued : count (node r) (queue s channel_queue) ≡ one (request_at s r).place Queued
  pub runs : one s.channel r ≡ one (request_at s r).place OnChannel
  pub free_requests : bit s.free_requests r ≡ one (request_at s r).place 0

-- ---- Core, unit by unit: "Core runs of a level are disjoint and with its free units make 64". A unit of a level is granted where one task's run has
-- it, and free where none has.

-- how often the task's run has unit u of the level: 1 or 0
unfoldable pub holding : Directory → ℕ → ℕ → Task → ℕ
holding d level u t = cond (eqb t.core 1 && eqb (module_of d t).level level) (bit (run t.start (module_of d t).units) u) 0

pub record Core (d : Directory) (l : List Task) (pools : List ℕ) : Type 0 where
  pub low : (level : ℕ) → get_or pools level 0 < 2 ^ 64
  pub units : (level u : ℕ) → 1 ≤ level → level ≤ 3 → sum (holding d level u) l ≡ bit (get_or pools level 0) u

-- ---- Links: "a LINK waiter has exactly one child", "LINK parents never form a ring".

abbrev pub children : List Task → ℕ → ℕ
children l p = sum (λ t. one t.parent p) l

-- no ring of parents: each is below its child by some measure
pub record Ranked (l : List Task) : Type 0 where
  pub rank : ℕ → ℕ
  pub above : (y : ℕ) → y ≤ task_blocks → (get_or l y no_task).parent ≢ 0 → rank (get_or l y no_task).parent < rank y

-- ---- "the directory passes 4 to 7", and what the rules of the blocks take from it.
pub record Passing (d : Directory) : Type 0 where
  pub passes : directory_passes d ≡ true
  pub modules : d.modules ≤ 32
  pub every : 1 ≤ d.every
  pub best : (m : ℕ) → m < d.modules → 1 ≤ (entry_at d m).level
  pub worst : (m : ℕ) → m < d.modules → (entry_at d m).level ≤ 3
  pub units : (m : ℕ) → m < d.modules → (entry_at d m).units ≤ 64

-- ---- 'Sizes', with slot 0 for no block.
pub record Sizes (s : State) : Type 0 where
  pub tasks : length s.tasks ≡ suc task_blocks
  pub requests : length s.requests ≡ suc request_blocks
  pub pools : length s.pools ≡ 4
  pub queues : length s.queues ≡ QUEUES

-- of the defined events d, o are on and m have been signalled: "an event that is on has been signalled, and a signalled one is defined" (E1). So "events on are defined"
pub record Events (d o m : ℕ) : Type 0 where
  pub on : (v : ℕ) → bit o v ≤ bit m v
  pub signalled : (v : ℕ) → bit m v ≤ bit d v

-- "Zero names no block": block 0 is zero. "The free blocks are sets", of blocks
pub record Blank (s : State) : Type 0 where
  pub block : task_at s 0 ≡ no_task
  pub request : request_at s 0 ≡ no_request
  pub pool : pool_at s 0 ≡ 0
  pub free_tasks : s.free_tasks < 2 ^ (task_blocks + 1)
  pub free_tasks-none : bit s.free_tasks 0 ≡ 0
  pub free_requests : s.free_requests < 2 ^ (request_blocks + 1)
  pub free_requests-none : bit s.free_requests 0 ≡ 0
  pub running : s.running ≤ task_blocks
  pub channel : s.channel ≤ request_blocks
  pub holes : s.holes ≤ SmallestHole
  pub events : Events s.directory.defined s.on s.signalled

-- ---- All of them: the blocks h are in hand, and e (0: none) has a child though it is not in LINK. "the time queue by time, the channel queue by level"
pub record Shape (s : State) (h : List ℕ) (e : ℕ) : Type 0 where
  pub sizes : Sizes s
  pub directory : Passing s.directory
  pub blank : Blank s
  pub tasks : (y : ℕ) → 1 ≤ y → y ≤ task_blocks → Stands s (place_of s h y) y
  pub requests : (r : ℕ) → 1 ≤ r → r ≤ request_blocks → Carried s h r
  pub none : (q : ℕ) → count 0 (queue s q) ≡ 0
  pub beyond : (q y : ℕ) → 40 < y → count y (queue s q) ≡ 0
  pub core : Core s.directory s.tasks s.pools
  pub links : (p : ℕ) → 1 ≤ p → p ≤ task_blocks → children s.tasks p ≡ one (place_of s h p) InLink + one p e
  pub ranked : Ranked s.tasks
  pub timed : up_by (λ a. (task_at s a).time) (queue s time_queue) ≡ true
  pub levelled : up_by (channel_level s) (queue s channel_queue) ≡ true

-- the block k is in hand, besides h
pub record InHand (s : State) (k : ℕ) (h : List ℕ) (e : ℕ) : Type 0 where
  pub some : 1 ≤ k
  pub low : k ≤ task_blocks
  pub out : k among h ≡ false
  pub shape : Shape s (k ∷ h) e
