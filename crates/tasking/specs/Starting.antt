-- What starting a task asks.
use Rattle.std.specs.Prelude.{ℕ, ◌≢◌, ◌<◌}
use Rattle.words.specs.Words.{least}
use Rattle.tables.specs.declared.Tables.{Tables}
use Rattle.tables.specs.State.{State}
use Rattle.meaning.specs.Services.{Effect, ◌giving◌, created}
use Rattle.calls.specs.declared.Call.{Call}
use Rattle.lawful.specs.Tables.{LawfulTables}

-- the call names a module of the directory, and a task block is free
pub record Starting (t : Tables) (c : Call) : Type 0 where
  pub lawful : LawfulTables t
  pub program : c.number < t.directory.modules
  pub block : t.free_tasks ≢ 0

-- a task of the module that the call names, child of p or of none, in the lowest free block, and that block
abbrev pub newcomer : State → Call → ℕ → Effect
newcomer s c p = let k = least s.free_tasks in created s k c.number p giving k
