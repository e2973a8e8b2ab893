-- The state of the executive: the tables with nine lists in place of the pointers. `read` takes it from the tables, `tabled` gives its tables.
use Rattle.std.specs.Prelude.{List, [], ◌∷◌, ◌++◌, ℕ, ◌+◌, ◌-◌, ◌^◌, set, get_or, replicate}
use Rattle.threads.specs.declared.Threads.{Threads}
use Rattle.threads.specs.Threads.{QUEUES, queues_of, threaded, without}
use Rattle.image.specs.declared.Entry.{Entry}
use Rattle.image.specs.declared.Directory.{Directory}
use Rattle.image.specs.Directory.{no_entry, no_directory}
use Rattle.tables.specs.declared.Task.{Task}
use Rattle.tables.specs.declared.Request.{Request}
use Rattle.tables.specs.declared.Tables.{Tables}
use Rattle.tables.specs.Blocks.{task_blocks, request_blocks, no_task, no_request}

pub record State : Type 0 where
  pub directory : Directory
  pub holes : ℕ  -- E8
  pub clock : ℕ
  pub on : ℕ
  pub signalled : ℕ  -- E1
  pub running : ℕ
  pub channel : ℕ
  pub free_tasks : ℕ
  pub free_requests : ℕ
  pub pools : List ℕ
  pub tasks : List Task
  pub requests : List Request
  pub queues : List (List ℕ)

-- ---- The nine queues: the event queue, "a level's ready or core queue", the time queue, the channel queue.

abbrev pub event_queue : ℕ
event_queue = 0

abbrev pub ready_queue : ℕ → ℕ
ready_queue level = level

abbrev pub core_queue : ℕ → ℕ
core_queue level = level + 3

abbrev pub time_queue : ℕ
time_queue = 7

abbrev pub channel_queue : ℕ
channel_queue = 8

-- the number of request block r in a queue (task block k is the number k), and the request block of such a number
abbrev pub node : ℕ → ℕ
node r = r + task_blocks

abbrev pub request_of : ℕ → ℕ
request_of n = n - task_blocks

-- ---- A state with one part changed. Only these few lines name every part.

abbrev state : Directory → ℕ → ℕ → ℕ → ℕ → ℕ → ℕ → ℕ → ℕ → List ℕ → List Task → List Request → List (List ℕ) → State
state d b c o g r h i f p t q l =
    record { directory = d; holes = b; clock = c; on = o; signalled = g; running = r; channel = h; free_tasks = i; free_requests = f; pools = p; tasks = t; requests = q; queues = l }

-- E8: by another rule
abbrev pub with_holes : State → ℕ → State
with_holes s x = state s.directory x s.clock s.on s.signalled s.running s.channel s.free_tasks s.free_requests s.pools s.tasks s.requests s.queues

abbrev pub with_clock : State → ℕ → State
with_clock s x = state s.directory s.holes x s.on s.signalled s.running s.channel s.free_tasks s.free_requests s.pools s.tasks s.requests s.queues

abbrev pub with_on : State → ℕ → State
with_on s x = state s.directory s.holes s.clock x s.signalled s.running s.channel s.free_tasks s.free_requests s.pools s.tasks s.requests s.queues

-- E1: the events that have been "signalled on or off since the load"
abbrev pub with_signalled : State → ℕ → State
with_signalled s x = state s.directory s.holes s.clock s.on x s.running s.channel s.free_tasks s.free_requests s.pools s.tasks s.requests s.queues

abbrev pub with_running : State → ℕ → State
with_running s x = state s.directory s.holes s.clock s.on s.signalled x s.channel s.free_tasks s.free_requests s.pools s.tasks s.requests s.queues

abbrev pub with_channel : State → ℕ → State
with_channel s x = state s.directory s.holes s.clock s.on s.signalled s.running x s.free_tasks s.free_requests s.pools s.tasks s.requests s.queues

abbrev pub with_free_tasks : State → ℕ → State
with_free_tasks s x = state s.directory s.holes s.clock s.on s.signalled s.running s.channel x s.free_requests s.pools s.tasks s.requests s.queues

abbrev pub with_free_requests : State → ℕ → State
with_free_requests s x = state s.directory s.holes s.clock s.on s.signalled s.running s.channel s.free_tasks x s.pools s.tasks s.requests s.queues

abbrev pub with_pools : State → List ℕ → State
with_pools s x = state s.directory s.holes s.clock s.on s.signalled s.running s.channel s.free_tasks s.free_requests x s.tasks s.requests s.queues

abbrev pub with_tasks : State → List Task → State
with_tasks s x = state s.directory s.holes s.clock s.on s.signalled s.running s.channel s.free_tasks s.free_requests s.pools x s.requests s.queues

abbrev pub with_requests : State → List Request → State
with_requests s x = state s.directory s.holes s.clock s.on s.signalled s.running s.channel s.free_tasks s.free_requests s.pools s.tasks x s.queues

abbrev pub with_queues : State → List (List ℕ) → State
with_queues s x = state s.directory s.holes s.clock s.on s.signalled s.running s.channel s.free_tasks s.free_requests s.pools s.tasks s.requests x

-- with one pool, one block or one queue changed
abbrev pub with_pool : State → ℕ → ℕ → State
with_pool s level x = with_pools s (set s.pools level x)

abbrev pub with_task : State → ℕ → Task → State
with_task s k x = with_tasks s (set s.tasks k x)

abbrev pub with_request : State → ℕ → Request → State
with_request s r x = with_requests s (set s.requests r x)

abbrev pub with_queue : State → ℕ → List ℕ → State
with_queue s q x = with_queues s (set s.queues q x)

-- ---- What stands in a state.

abbrev pub task_at : State → ℕ → Task
task_at s k = get_or s.tasks k no_task

abbrev pub request_at : State → ℕ → Request
request_at s r = get_or s.requests r no_request

-- the units of a level that are granted, as a set
abbrev pub pool_at : State → ℕ → ℕ
pool_at s level = get_or s.pools level 0

abbrev pub queue : State → ℕ → List ℕ
queue s q = get_or s.queues q []

-- the level and the core units of a task's module
abbrev pub entry_for : State → ℕ → Entry
entry_for s k = get_or s.directory.entries (task_at s k).program no_entry

abbrev pub level_of : State → ℕ → ℕ
level_of s k = (entry_for s k).level

abbrev pub units_of : State → ℕ → ℕ
units_of s k = (entry_for s k).units

-- ---- Joining the end of a queue, joining its front, leaving it.

abbrev pub joining : State → ℕ → ℕ → State
joining s q x = with_queue s q (queue s q ++ x ∷ [])

abbrev pub leading : State → ℕ → ℕ → State
leading s q x = with_queue s q (x ∷ queue s q)

abbrev pub leaving : State → ℕ → ℕ → State
leaving s q x = with_queue s q (without x (queue s q))

-- ---- Between tables and states.

abbrev pub read : Tables → State
read t =
    state t.directory t.holes t.clock t.on t.signalled t.running t.channel t.free_tasks t.free_requests t.pools t.tasks t.requests (queues_of t.threads)

-- the tables of a state, with these pointers
abbrev pub pointing : State → Threads → Tables
pointing s x =
    record {
      directory = s.directory;
      holes = s.holes;  -- E8
      clock = s.clock;
      on = s.on;
      signalled = s.signalled;  -- E1
      running = s.running;
      channel = s.channel;
      free_tasks = s.free_tasks;
      free_requests = s.free_requests;
      pools = s.pools;
      tasks = s.tasks;
      requests = s.requests;
      threads = x;
    }

abbrev pub tabled : State → Tables
tabled s = pointing s (threaded s.queues)

-- the set of the blocks 1 to n
abbrev all_up_to : ℕ → ℕ
all_up_to n = 2 ^ (n + 1) - 2

-- the state of a directory in which nothing is used, with the blocks of two sets free, in which grants follow a rule
abbrev pub unused : Directory → ℕ → ℕ → ℕ → State
unused d holes i f =
    state d holes 0 0 0 0 0 i f (replicate 4 0) (replicate (task_blocks + 1) no_task) (replicate (request_blocks + 1) no_request) (replicate QUEUES [])

-- "A loaded state has no tasks, all events off, clock 0." No event has been signalled either (E1). Grants follow the rule that is given to the load (E8).
unfoldable pub loaded : ℕ → Directory → State
loaded holes d = unused d holes (all_up_to task_blocks) (all_up_to request_blocks)

-- "all-zero tables": nothing in them, and no block free
unfoldable pub all_zero : State
all_zero = unused no_directory 0 0 0
