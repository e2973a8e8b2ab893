-- Document 01, 'What each call does': giving core back, finishing, ending, aborting.
use Rattle.std.specs.Prelude.{Bool, ◌&&◌, ◌||◌, ℕ, zero, suc, ◌-◌, eqb, if◌then◌else◌}
use Rattle.words.specs.Words.{one_to, some_of, each, adding}
use Rattle.tables.specs.Blocks.{request_blocks, Ending, Queued, OnChannel, Done, HoldsRun, GaveBack, no_task, no_request, with_parent, with_core}
use Rattle.tables.specs.State.{State, with_free_tasks, with_free_requests, with_pool, with_task, with_request, task_at, request_at, pool_at, level_of, units_of}
use Rattle.pools.specs.Pools.{run}
use Rattle.meaning.specs.Ready.{placed, made_ready, served}

-- ---- Blocks: "The free blocks are sets."

unfoldable pub freed_task : State → ℕ → State
freed_task s k = with_task (with_free_tasks s (adding s.free_tasks k)) k no_task

unfoldable pub freed_request : State → ℕ → State
freed_request s r = with_request (with_free_requests s (adding s.free_requests r)) r no_request

-- ---- "frees the caller's run, if any; it isn't granted again"; "free the run and serve that core queue"
abbrev pub unseated : State → ℕ → State
unseated s k = with_pool (with_task s k (with_core (task_at s k) GaveBack 0)) (level_of s k) (pool_at s (level_of s k) - run (task_at s k).start (units_of s k))

unfoldable pub given_back : State → ℕ → State
given_back s k = if eqb (task_at s k).core HoldsRun then served (unseated s k) (level_of s k) else s

-- ---- Finishing.

-- the request r is the task k's, and "queued or on the channel"
unfoldable pub pending_of : State → ℕ → ℕ → Bool
pending_of s k r = let q = request_at s r in eqb q.owner k && (eqb q.place Queued || eqb q.place OnChannel)

unfoldable pub pending : State → ℕ → Bool
pending s k = some_of (pending_of s k) (one_to request_blocks)

-- "free its done requests"
unfoldable pub freed_if_done : ℕ → ℕ → State → State
freed_if_done k r s = let q = request_at s r in if eqb q.owner k && eqb q.place Done then freed_request s r else s

unfoldable pub freed_done : State → ℕ → State
freed_done s k = each (freed_if_done k) (one_to request_blocks) s

-- "make a waiting parent ready"
unfoldable pub parent_ready : State → ℕ → State
parent_ready s p = if eqb p 0 then s else made_ready s p

-- "Finishing: free the run and serve that core queue; free its done requests; make a waiting parent ready; free the block."
unfoldable pub finished : State → ℕ → State
finished s k =
    let a = given_back s k in
    let b = freed_done a k in
    let c = parent_ready b (task_at b k).parent in
    freed_task c k

-- "a caller with requests queued or on the channel waits as ending and keeps its core; otherwise it finishes"
unfoldable pub ended : State → ℕ → State
ended s k = if pending s k then placed s k Ending else finished s k

-- ---- "Child first, then its parent, and so on upward: each loses its link and finishes, or waits as ending if it has pending requests. Each step is
-- complete before the next." The first number bounds the chain's length.

unfoldable pub unlinked : State → ℕ → State
unlinked s k = with_task s k (with_parent (task_at s k) 0)

unfoldable pub aborted : ℕ → ℕ → State → State
aborted zero k s = s
aborted (suc n) k s =
    let further = aborted n (task_at s k).parent (ended (unlinked s k) k) in if eqb k 0 then s else further
