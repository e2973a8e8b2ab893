-- What the types of the tables say of them. Document 02's theorems of any tables that keep the rules are stated of such tables.
use Rattle.std.specs.Prelude.{◌≡◌, ℕ, ◌^◌, ◌<◌, suc, length, get_or}
use Rattle.threads.specs.Threads.{Sound, QUEUES}
use Rattle.tables.specs.declared.Tables.{Tables}
use Rattle.tables.specs.State.{read}
use Rattle.lawful.specs.Resting.{Lawful}
use Rattle.tables.specs.Blocks.{task_blocks, request_blocks}

-- the lengths of the arrays, and that a pool is 64 bits
pub record Typed (t : Tables) : Type 0 where
  pub tasks : length t.tasks ≡ suc task_blocks
  pub requests : length t.requests ≡ suc request_blocks
  pub pools : length t.pools ≡ 4
  pub queues : length t.threads.first ≡ QUEUES
  pub low : (level : ℕ) → get_or t.pools level 0 < 2 ^ 64

-- ==== Inside: words for contracts below the public face. What the executive, its library and the demands claim does not rest on them.
-- Tables that follow the rules: the pointers are those of nine lists apart, and the state that the tables read as is lawful
pub record LawfulTables (t : Tables) : Type 0 where
  pub pointers : Sound t.threads
  pub state : Lawful (read t)
