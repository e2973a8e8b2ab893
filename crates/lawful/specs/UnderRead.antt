-- Document 02, E4: "A task called FREEMAIN during its READ, and the bytes landed in another task's page." The words of its theorem.
use Rattle.std.specs.Prelude.{true, ◌≡◌, List, ℕ}
use Rattle.tables.specs.declared.Tables.{Tables}
use Rattle.tables.specs.Blocks.{HoldsRun}
use Rattle.tables.specs.State.{State, task_at, level_of, units_of, read}
use Rattle.meaning.specs.Finish.{pending}
use Rattle.meaning.specs.Step.{step_of}

-- the task k holds in u the run that it has in s: units of the same level, from the same start, as many
pub record SameRun (s u : State) (k : ℕ) : Type 0 where
  pub holds : (task_at u k).core ≡ HoldsRun
  pub level : level_of u k ≡ level_of s k
  pub start : (task_at u k).start ≡ (task_at s k).start
  pub units : units_of u k ≡ units_of s k

-- any calls, refused ones included, after each of which the task k has a request queued or on the channel
pub data During (k : ℕ) (t : Tables) : Tables → Type 0 where
  begun : pending (read t) k ≡ true → During k t t
  call : {u : Tables} (bytes : List ℕ) → During k t u → pending (read (step_of u bytes).tables) k ≡ true → During k t (step_of u bytes).tables
