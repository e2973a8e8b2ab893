-- Document 02, E4: "A task called FREEMAIN during its READ, and the bytes landed in another task's page. Refuse FREEMAIN while any of the caller's requests is queued or on the
-- channel." Of any tables that keep the rules, whether they are reached from an image or not, and any calls, refused ones included.
use mathlib.Core.Bool.{true}
use mathlib.Core.Path.{◌≡◌}
use mathlib.Core.Logic.{◌≢◌}
use mathlib.Core.List.{List}
use Prim.Native.Nat.{ℕ, ◌≤◌}
use Rattle.tables.specs.declared.Tables.{Tables}
use Rattle.tables.specs.Blocks.{HoldsRun, task_blocks}
use Rattle.tables.specs.State.{task_at, read}
use Rattle.calls.specs.Calls.{IO-DONE, call_of}
use Rattle.meaning.specs.Finish.{pending}
use Rattle.meaning.specs.Rules.{holds_unit, rules_hold}
use Rattle.meaning.specs.Step.{step_of}
use Rattle.lawful.specs.Tables.{Typed, LawfulTables}
use Rattle.lawful.specs.UnderRead.{SameRun, During}
use Rattle.lawful.proofs.Told.Steps.{rules-tables}
use Rattle.lawful.proofs.Told.Throughout.{step_run, during-run, during-alone}

module _ (t : Tables) (typed : Typed t) (rules : rules_hold t ≡ true) (k : ℕ) (holds : (task_at (read t) k).core ≡ HoldsRun) where
  lawful : LawfulTables t
  lawful = rules-tables t typed rules

  -- ---- A task that holds a run and has a request queued or on the channel, and has one after the call too, holds the same run after it
  pub run-stays : (bytes : List ℕ) → pending (read t) k ≡ true → pending (read (step_of t bytes).tables) k ≡ true → SameRun (read t) (read (step_of t bytes).tables) k
  run-stays bytes before after = step_run t bytes lawful k holds before (λ z. after)

  -- of any call but I/O done it does, whatever it has after it: no call frees its core by taking the request away
  pub run-stays-until-done : (bytes : List ℕ) → (call_of bytes).code ≢ IO-DONE → pending (read t) k ≡ true → SameRun (read t) (read (step_of t bytes).tables) k
  run-stays-until-done bytes other before = step_run t bytes lawful k holds before (λ z. absurd (other z))

  -- and over any calls, as long as it has one
  pub run-stays-throughout : {u : Tables} → During k t u → SameRun (read t) (read u) k
  run-stays-throughout = during-run lawful holds

  -- ---- "the bytes landed in another task's page": not any more. All the while no unit of the run that it had at first is in the run of another task
  pub no-other-page : {u : Tables} → During k t u → (j level unit : ℕ) → 1 ≤ j → j ≤ task_blocks → holds_unit (read t) level unit k ≡ true → holds_unit (read u) level unit j ≡ true → j ≡ k
  no-other-page = during-alone lawful holds
