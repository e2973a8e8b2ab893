-- Document 01, 'What each call does': each accepted call, before the dispatch at its end.
use Rattle.std.specs.Prelude.{not, ◌&&◌, List, [], ◌∷◌, ℕ, ◌+◌, ◌%◌, eqb, leb, ltb, if◌then◌else◌}
use Rattle.words.specs.Words.{each, has, adding, dropping, least}
use Rattle.tables.specs.Blocks.{task_blocks, Ready, InLink, InCheck, Ending, Queued, Done, request, new_task, awaiting_request}
use Rattle.tables.specs.State.{State, ready_queue, event_queue, time_queue, with_clock, with_on, with_signalled, with_running, with_channel, with_free_tasks, with_free_requests, with_task, with_request, task_at, request_at, queue, level_of, leading, leaving}
use Rattle.calls.specs.declared.Call.{Call}
use Rattle.calls.specs.Calls.{FREEMAIN, LINK, END, SCHEDULE, WAIT, SIGNAL, TEST-EVENT, DISPATCH-CHECK, READ, WRITE, CHECK, TIMER, IO-DONE, PROGRAM-CHECK, OPERATOR-START}
use Rattle.meaning.specs.Conditions.{enough, holds, waiting}
use Rattle.meaning.specs.Ready.{placed, made_ready, best_ready}
use Rattle.meaning.specs.Finish.{freed_request, given_back, pending, finished, ended, aborted}
use Rattle.meaning.specs.Channel.{queued, request_placed, channel_filled}

-- What an accepted call gives: the state and the result.
pub record Effect : Type 0 where
  pub state : State
  pub result : ℕ

infix 5 ◌giving◌
abbrev pub ◌giving◌ : State → ℕ → Effect
◌giving◌ s r = record { state = s; result = r }

-- the caller stops running, and is in the place p
unfoldable pub stopped : State → ℕ → State
stopped s p = with_running (placed s s.running p) 0

-- a task of the module m, child of p or of none, in the block k
unfoldable pub created : State → ℕ → ℕ → ℕ → State
created s k m p = with_task (with_free_tasks s (dropping s.free_tasks k)) k (new_task m p)

-- ---- Service calls. "A freed block is used again: always the lowest-numbered free one", the least of the free.

-- "FREEMAIN frees the caller's run, if any; it isn't granted again."
unfoldable pub freemain : State → Call → Effect
freemain s c = given_back s s.running giving 1

-- "LINK makes a child and the caller waits for it."
unfoldable pub link : State → Call → Effect
link s c = let k = least s.free_tasks in made_ready (stopped (created s k c.number s.running) InLink) k giving k

-- "END: a caller with requests queued or on the channel waits as ending and keeps its core; otherwise it finishes."
unfoldable pub end : State → Call → Effect
end s c = ended (with_running s 0) s.running giving 1

-- SCHEDULE: "A condition that holds at the call doesn't wait".
unfoldable pub schedule : State → Call → Effect
schedule s c =
    let k = least s.free_tasks in
    let made = created s k c.number 0 in
    (if holds s c then made_ready made k else waiting made k c) giving k

-- "WAIT then goes on running."
unfoldable pub wait : State → Call → Effect
wait s c = (if holds s c then s else waiting (with_running s 0) s.running c) giving 1

-- "SIGNAL on, then the event queue is walked front to back and each task whose condition holds is made ready. Off wakes nobody."
unfoldable pub woken : ℕ → State → State
woken k s =
    let t = task_at s k in
    if enough s t.count t.events then made_ready (leaving s event_queue k) k else s

-- E1: "signalled on or off since the load": the event e has been, now
abbrev pub noted : State → ℕ → State
noted s e = with_signalled s (adding s.signalled e)

unfoldable pub signal : State → Call → Effect
signal s c =
    let t = noted s c.number in  -- E1
    (if eqb c.value 1 then each woken (queue t event_queue) (with_on t (adding t.on c.number))
    else with_on t (dropping t.on c.number))
    giving 1

-- TEST EVENT: "10 gives 1 for off, 2 for on".
-- Document 02, E1: "TEST EVENT has to answer 3 for a defined event that hasn't been signalled on or off since the load."
unfoldable pub test_event : State → Call → Effect
test_event s c = s giving
    (if not (has s.signalled c.number) then 3 else if has s.on c.number then 2 else 1)  -- E1

-- "DISPATCH CHECK: if a strictly better level is ready, the caller goes to the front of its own ready level and stops running."
unfoldable pub dispatch_check : State → Call → Effect
dispatch_check s c =
    let k = s.running in
    (if ltb 0 (best_ready s) && ltb (best_ready s) (level_of s k) then leading (stopped s Ready) (ready_queue (level_of s k)) k else s)
    giving 1

-- "READ, WRITE enter the channel queue by the caller's level, then arrival. An empty channel takes the first at once".
unfoldable pub asked : State → ℕ → Call → State
asked s r c =
    with_request (with_free_requests s (dropping s.free_requests r)) r (request Queued s.running c.number c.code c.amount)

unfoldable pub read_or_write : State → Call → Effect
read_or_write s c = let r = least s.free_requests in channel_filled (queued (asked s r c) r) giving r

-- "CHECK: done request, block freed, go on; pending one, wait for it."
unfoldable pub awaits_request : State → ℕ → State
awaits_request s r = let k = s.running in with_running (with_task s k (awaiting_request s.clock (task_at s k) r)) 0

unfoldable pub check : State → Call → Effect
check s c =
    let r = c.number in (if eqb (request_at s r).place Done then freed_request s r else awaits_request s r) giving 1

-- ---- Interrupts.

-- "Timer: clock plus 1; if N divides the new clock, every task on the time queue whose time is at most the clock is made ready, in queue order."
unfoldable pub timely : ℕ → State → State
timely k s = if leb (task_at s k).time s.clock then made_ready (leaving s time_queue k) k else s

unfoldable pub timer : State → Call → Effect
timer s c =
    let t = with_clock s (s.clock + 1) in
    (if eqb (t.clock % s.directory.every) 0 then each timely (queue t time_queue) t else t) giving 1

-- "I/O done: the request leaves the channel. If its owner waits on it in CHECK, its block is freed and the owner made ready; if its owner is ending
-- and this was its last pending one, its block is freed and the owner finishes; otherwise it is marked done. Then the next request goes on the
-- channel."
unfoldable pub io_done : State → Call → Effect
io_done s c =
    let r = s.channel in
    let k = (request_at s r).owner in
    let t = task_at s k in
    let left = with_channel s 0 in
    let done = request_placed left r Done in
    let waits = eqb t.place InCheck && eqb t.request r in
    let last = eqb t.place Ending && not (pending done k) in
    channel_filled
    (if waits then made_ready (freed_request left r) k
    else if last then finished (freed_request left r) k
    else done)
    giving 1

-- "Program check aborts the running task." The chain has at most 24 tasks.
unfoldable pub program_check : State → Call → Effect
program_check s c = aborted task_blocks s.running (with_running s 0) giving 1

-- operator start: a task with no parent; "Kind 0 holds at once (LINK and start always use it)"
unfoldable pub operator_start : State → Call → Effect
operator_start s c = let k = least s.free_tasks in made_ready (created s k c.number 0) k giving k

-- ---- All calls: for each code what a call of it does.
infix 68 ◌does◌
pub data Deed : Type 0 where
  ◌does◌ : ℕ → (State → Call → Effect) → Deed

unfoldable pub deeds : List Deed
deeds =
    FREEMAIN does freemain
    ∷ LINK does link
    ∷ END does end
    ∷ SCHEDULE does schedule
    ∷ WAIT does wait
    ∷ SIGNAL does signal
    ∷ TEST-EVENT does test_event
    ∷ DISPATCH-CHECK does dispatch_check
    ∷ READ does read_or_write
    ∷ WRITE does read_or_write
    ∷ CHECK does check
    ∷ TIMER does timer
    ∷ IO-DONE does io_done
    ∷ PROGRAM-CHECK does program_check
    ∷ OPERATOR-START does operator_start
    ∷ []

-- the deed of a code; a code that has none is refused by 24, and nothing is done
unfoldable pub deed_of : List Deed → ℕ → State → Call → Effect
deed_of [] code s c = s giving 0
deed_of (n does f ∷ l) code s c = (if eqb n code then f else deed_of l code) s c

unfoldable pub effect : State → Call → Effect
effect s c = deed_of deeds c.code s c
