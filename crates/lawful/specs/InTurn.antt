-- Document 01: "Nobody overtakes." Who waits for core of a level, before a call and after it.
use Rattle.std.specs.Prelude.{◌≡◌, ◌⊎◌, List, [], ◌++◌, ℕ, ◌≤◌}
use Rattle.threads.specs.Threads.{count}
use Rattle.tables.specs.Blocks.{HoldsRun}
use Rattle.tables.specs.State.{State, core_queue, task_at, queue, level_of}

-- of those who waited the first were served and have left, the others stand as they stood, and who is new stands behind them; and a task that holds a run of the level
-- held it before, or was one of those served, or nobody is left waiting of those who waited
pub record InTurn (s u : State) (level : ℕ) : Type 0 where
  pub served : List ℕ
  pub left : List ℕ
  pub new : List ℕ
  pub before : queue s (core_queue level) ≡ served ++ left
  pub after : queue u (core_queue level) ≡ left ++ new
  pub got : (k : ℕ) → (task_at u k).core ≡ HoldsRun → level_of u k ≡ level
      → (((task_at s k).core ≡ HoldsRun) × ((task_at u k).program ≡ (task_at s k).program)) ⊎ (1 ≤ count k served) ⊎ (left ≡ [])
