-- ==== Inside: words for contracts below the public face. What the executive, its library and the demands claim does not rest on them.
-- What the code of the executive keeps between any two functions: what tables show, and what a function may ask of the tables that it is given.
use Rattle.std.specs.Prelude.{◌≡◌, ℕ, ◌≤◌, ◌<◌, suc}
use Rattle.threads.specs.Threads.{count, counts, queues_of, Sound}
use Rattle.tables.specs.declared.Tables.{Tables}
use Rattle.tables.specs.State.{State, channel_queue, task_at, queue, level_of, units_of, read}
use Rattle.tables.specs.Blocks.{task_blocks}

-- the tables t show the state s: their pointers are those of nine lists apart, and s is what is read from them
pub record Shows (t : Tables) (s : State) : Type 0 where
  pub sound : Sound t.threads
  pub reads : read t ≡ s

-- task blocks stand in the first eight queues, request blocks in the last
pub record Fit (s : State) : Type 0 where
  pub tasks : (q y : ℕ) → q < 8 → 1 ≤ count y (queue s q) → y < suc task_blocks
  pub requests : (y : ℕ) → 1 ≤ count y (queue s channel_queue) → 24 < y

-- what makes a function of the code safe
pub record Held (t : Tables) : Type 0 where
  pub sound : Sound t.threads
  pub fit : Fit (read t)

-- k is a task block in no queue, of a module of the directory: what making it ready asks
pub record Loose (t : Tables) (k : ℕ) : Type 0 where
  pub held : Held t
  pub some : 1 ≤ k
  pub low : k < suc task_blocks
  pub out : counts k (queues_of t.threads) ≡ 0
  pub program : (task_at (read t) k).program < 32
  pub best : 1 ≤ level_of (read t) k
  pub worst : level_of (read t) k ≤ 3
  pub units : units_of (read t) k ≤ 64
