-- Document 01, 'Sizes' and 'What each call does': task blocks and request blocks, their places, and how one changes its place.
-- Every change of a block is one of these few.
use Rattle.std.specs.Prelude.{Bool, [], ◌∷◌, ℕ, if◌then◌else◌}
use Rattle.words.specs.Words.{◌among◌}
use Rattle.tables.specs.declared.Task.{Task}
use Rattle.tables.specs.declared.Request.{Request}

-- "Task blocks 1 to 24. Request blocks 1 to 16."
abbrev pub task_blocks : ℕ
task_blocks = 24

abbrev pub request_blocks : ℕ
request_blocks = 16

-- "A task block is in one of these places: free, running, a level's ready or core queue, the event queue, the time queue, or waiting in LINK, in CHECK
-- or as ending."
abbrev pub Free : ℕ
Free = 0

abbrev pub Running : ℕ
Running = 1

abbrev pub Ready : ℕ
Ready = 2

abbrev pub InCore : ℕ
InCore = 3

abbrev pub InEvent : ℕ
InEvent = 4

abbrev pub InTime : ℕ
InTime = 5

abbrev pub InLink : ℕ
InLink = 6

abbrev pub InCheck : ℕ
InCheck = 7

abbrev pub Ending : ℕ
Ending = 8

-- E6: "any waiting queue, core, LINK, CHECK and ending too": the places in which a task waits. The others are "free, ready or running".
unfoldable pub waits_in : ℕ → Bool
waits_in p = p among (InCore ∷ InEvent ∷ InTime ∷ InLink ∷ InCheck ∷ Ending ∷ [])

-- E6: "the clock reading at which it last entered" such a place, "and 0 while free, ready or running": what a block gets that is put into the place p when the clock is `now`
unfoldable pub since_in : ℕ → ℕ → ℕ
since_in now p = if waits_in p then now else 0

-- "A request block is free, queued, on the channel or done."
abbrev pub Queued : ℕ
Queued = 1

abbrev pub OnChannel : ℕ
OnChannel = 2

abbrev pub Done : ℕ
Done = 3

-- whether core was never granted, is held, or was given back
abbrev pub NotGranted : ℕ
NotGranted = 0

abbrev pub HoldsRun : ℕ
HoldsRun = 1

abbrev pub GaveBack : ℕ
GaveBack = 2

-- ---- A block that is new; the blocks that are free.

-- a task of the module m, child of q or of none, in no place yet: whoever makes one moves it on at once
abbrev pub new_task : ℕ → ℕ → Task
new_task m q = record { place = Free; program = m; parent = q; core = NotGranted; start = 0; count = 0; events = 0; time = 0; since = 0; request = 0 }

abbrev pub request : ℕ → ℕ → ℕ → ℕ → ℕ → Request
request p k d c n = record { place = p; owner = k; device = d; command = c; bytes = n }

-- "A free block .. is zero."
abbrev pub no_task : Task
no_task = new_task 0 0

abbrev pub no_request : Request
no_request = request Free 0 0 0 0

-- ---- A task block in a new place keeps its module, its parent and its core; "any field with no meaning in the block's present place, is zero".

-- put into a place when the clock is `now`, with so many of these events, this time and this request to wait for. Nothing else sets the reading (E6)
abbrev pub in_place : ℕ → Task → ℕ → ℕ → ℕ → ℕ → ℕ → Task
in_place now t p n e m r =  -- E6
    record { place = p; program = t.program; parent = t.parent; core = t.core; start = t.start; count = n; events = e; time = m; since = since_in now p; request = r }

-- in a place that gives what is waited for no meaning
abbrev pub moving : ℕ → Task → ℕ → Task
moving now t p = in_place now t p 0 0 0 0

-- in the event queue, in the time queue, in CHECK
abbrev pub awaiting_events : ℕ → Task → ℕ → ℕ → Task
awaiting_events now t count events = in_place now t InEvent count events 0 0

abbrev pub awaiting_time : ℕ → Task → ℕ → Task
awaiting_time now t time = in_place now t InTime 0 0 time 0

abbrev pub awaiting_request : ℕ → Task → ℕ → Task
awaiting_request now t r = in_place now t InCheck 0 0 0 r

-- ---- A task block where it is, with another parent, or with its core changed; a request block in a new place.

abbrev pub staying : Task → ℕ → ℕ → ℕ → Task
staying t q c a =
    record { place = t.place; program = t.program; parent = q; core = c; start = a; count = t.count; events = t.events; time = t.time; since = t.since; request = t.request }

abbrev pub with_parent : Task → ℕ → Task
with_parent t q = staying t q t.core t.start

abbrev pub with_core : Task → ℕ → ℕ → Task
with_core t c a = staying t t.parent c a

abbrev pub moving_request : Request → ℕ → Request
moving_request q p = request p q.owner q.device q.command q.bytes
