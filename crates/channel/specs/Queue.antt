-- What the channel's functions ask of the tables beside sound pointers.
use Rattle.std.specs.Prelude.{ℕ, ◌≤◌, ◌<◌, suc}
use Rattle.threads.specs.Threads.{Outside}
use Rattle.tables.specs.declared.Tables.{Tables}
use Rattle.tables.specs.State.{State, channel_queue, node, request_at, task_at, read}
use Rattle.tables.specs.Held.{Held}
use Rattle.tables.specs.Blocks.{request_blocks, task_blocks}

-- the owner of each request block is a task block, of a module of the directory
pub record Owned (s : State) : Type 0 where
  pub owner : (r : ℕ) → r ≤ request_blocks → (request_at s r).owner < suc task_blocks
  pub program : (r : ℕ) → r ≤ request_blocks → (task_at s (request_at s r).owner).program < 32

-- the request block r is in no queue: what entering the channel queue asks
pub record Entering (t : Tables) (r : ℕ) : Type 0 where
  pub held : Held t
  pub owned : Owned (read t)
  pub some : 1 ≤ r
  pub low : r ≤ request_blocks
  pub free : Outside t.threads channel_queue (node r)
