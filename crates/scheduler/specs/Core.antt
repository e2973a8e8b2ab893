-- Where a newcomer gets its core; what granting core, serving a core queue and giving core back ask.
use Rattle.std.specs.Prelude.{if◌then◌else◌}
use Rattle.std.specs.Prelude.{◌≡◌, ℕ, suc, ◌<◌, ◌≤◌, Option}
use Rattle.threads.specs.Threads.{count, Member}
use Rattle.words.specs.Words.{is_empty}
use Rattle.pools.specs.Find.{found_at, found_of}
use Rattle.pools.specs.Runs.{HeldRun}
use Rattle.tables.specs.declared.Tables.{Tables}
use Rattle.tables.specs.Blocks.{HoldsRun, task_blocks}
use Rattle.tables.specs.State.{State, core_queue, task_at, pool_at, queue, level_of, units_of, read}
use Rattle.meaning.specs.Ready.{start_for}

-- "when that queue isn't empty or no free run is long enough": nowhere
unfoldable pub seat_of : State → ℕ → ℕ → Option ℕ
seat_of s level n = if is_empty (queue s (core_queue level)) then found_of s.holes (pool_at s level) n else found_at 64

-- the task k can be given n units of the level's core from a on: they are its own number, and a is the start that the rule of the tables gives
pub record Granting (s : State) (k level n a : ℕ) : Type 0 where
  pub low : k < suc task_blocks
  pub worst : level ≤ 3
  pub start : a < 64
  pub own-level : level ≡ level_of s k
  pub own-units : n ≡ units_of s k
  pub own-start : a ≡ start_for s k

-- y is a task that waits for core of the level
pub record Waiter (s : State) (level y : ℕ) : Type 0 where
  pub some : 1 ≤ y
  pub low : y < suc task_blocks
  pub program : (task_at s y).program < 32
  pub own : level_of s y ≡ level

-- the level's core queue has only such tasks
pub record Waiters (s : State) (level : ℕ) : Type 0 where
  pub best : 1 ≤ level
  pub worst : level ≤ 3
  pub each : (y : ℕ) → 1 ≤ count y (queue s (core_queue level)) → Waiter s level y

-- k is the first that waits for core of the level, and its n units are free from a on
pub record Seating (t : Tables) (level k n a : ℕ) : Type 0 where
  pub best : 1 ≤ level
  pub worst : level ≤ 3
  pub member : Member t.threads (core_queue level) k
  pub waiter : Waiter (read t) level k
  pub start : a < 64
  pub own-units : n ≡ units_of (read t) k
  pub own-start : a ≡ start_for (read t) k

-- what giving the task k's core back asks: that its run, if it holds one, is granted, and that its level's core queue is of waiters
pub record Holder (s : State) (k : ℕ) : Type 0 where
  pub low : k < suc task_blocks
  pub program : (task_at s k).program < 32
  pub waiters : Waiters s (level_of s k)
  pub granted : (task_at s k).core ≡ HoldsRun → HeldRun (pool_at s (level_of s k)) (task_at s k).start (units_of s k)
