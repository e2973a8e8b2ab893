-- Document 01, 'Conditions and getting ready': core, making a task ready, serving a core queue, dispatching.
use Rattle.std.specs.Prelude.{Bool, not, ◌&&◌, ◌||◌, List, [], ◌∷◌, ℕ, ◌+◌, eqb, ltb, if◌then◌else◌}
use Rattle.threads.specs.Threads.{hd}
use Rattle.words.specs.Words.{is_empty}
use Rattle.pools.specs.Pools.{long_enough, start_of, run}
use Rattle.tables.specs.Blocks.{Running, Ready, InCore, NotGranted, HoldsRun, moving, with_core}
use Rattle.tables.specs.State.{State, ready_queue, core_queue, with_running, with_pool, with_task, task_at, pool_at, queue, level_of, units_of, joining, leaving}

-- a task block in a new place
abbrev pub placed : State → ℕ → ℕ → State
placed s k p = with_task s k (moving s.clock (task_at s k) p)

-- ---- Core.

-- a free run is long enough for the task k
unfoldable pub fits : State → ℕ → Bool
fits s k = long_enough (pool_at s (level_of s k)) (units_of s k)

-- the start that the task k is then given, by the rule that the tables name (E8)
unfoldable pub start_for : State → ℕ → ℕ
start_for s k = start_of s.holes (pool_at s (level_of s k)) (units_of s k)

-- ---- "Making a task ready"

-- "if it still needs core (module units above 0, none granted yet)"
unfoldable pub needs_core : State → ℕ → Bool
needs_core s k = ltb 0 (units_of s k) && eqb (task_at s k).core NotGranted

-- "it gets the units from the lowest start at which enough are free," or, by E8, from "the start of the shortest unbroken free run that is long enough"
unfoldable pub given_run : State → ℕ → State
given_run s k =
    let a = start_for s k in
    with_pool (with_task s k (with_core (task_at s k) HoldsRun a)) (level_of s k) (pool_at s (level_of s k) + run a (units_of s k))

-- "and goes to the end of its level's ready queue"
unfoldable pub readied : State → ℕ → State
readied s k = joining (placed s k Ready) (ready_queue (level_of s k)) k

-- "it joins the end of its level's core queue"
unfoldable pub awaits_core : State → ℕ → State
awaits_core s k = joining (placed s k InCore) (core_queue (level_of s k)) k

-- "Making a task ready: if it still needs core .., it joins the end of its level's core queue when that queue isn't empty or no free run is long
-- enough; otherwise it gets the units .., and goes to the end of its level's ready queue. A task that needs none goes there directly."
unfoldable pub made_ready : State → ℕ → State
made_ready s k =
    if needs_core s k then
    (if not (is_empty (queue s (core_queue (level_of s k)))) || not (fits s k) then awaits_core s k
    else readied (given_run s k) k)
    else readied s k

-- ---- "When core of a level is freed, its core queue is served from the front, stopping at the first that doesn't fit."

unfoldable pub seated : State → ℕ → ℕ → State
seated s q k = readied (given_run (leaving s q k) k) k

unfoldable pub serving : ℕ → List ℕ → State → State
serving q [] s = s
serving q (k ∷ l) s =
    let further = serving q l (seated s q k) in if fits s k then further else s

unfoldable pub served : State → ℕ → State
served s level = serving (core_queue level) (queue s (core_queue level)) s

-- ---- "Every accepted call ends so: if no task runs, the first of the best non-empty level is dispatched."

-- the best level that has a ready task; 0 where none has
unfoldable pub best_ready : State → ℕ
best_ready s =
    if not (is_empty (queue s (ready_queue 1))) then 1
    else if not (is_empty (queue s (ready_queue 2))) then 2
    else if not (is_empty (queue s (ready_queue 3))) then 3
    else 0

-- the first of a level's ready queue runs
unfoldable pub runs_first : State → ℕ → State
runs_first s level =
    let k = hd (queue s (ready_queue level)) in
    with_running (placed (leaving s (ready_queue level) k) k Running) k

unfoldable pub dispatched : State → State
dispatched s =
    if not (eqb s.running 0) then s else if eqb (best_ready s) 0 then s else runs_first s (best_ready s)
