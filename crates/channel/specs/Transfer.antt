-- What READ and WRITE ask.
use Rattle.std.specs.Prelude.{◌≢◌, [], ◌≤◌}
use Rattle.tables.specs.State.{State}
use Rattle.calls.specs.declared.Call.{Call}
use Rattle.lawful.specs.Shape.{Shape}

-- a task runs, a request block is free, and the byte count is one that a block holds
pub record Transferring (s : State) (c : Call) : Type 0 where
  pub shape : Shape s [] 0
  pub runs : s.running ≢ 0
  pub free_requests : s.free_requests ≢ 0
  pub bytes : c.amount ≤ 65535
