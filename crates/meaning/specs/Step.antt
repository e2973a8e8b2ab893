-- One call, whole: what the step has to give, for any tables and any bytes. And what loading gives.
use Rattle.std.specs.Prelude.{List, ℕ, eqb, if◌then◌else◌}
use Rattle.words.specs.Rows.{first_of}
use Rattle.answers.specs.Answer.{Outcome, refusal_of, outcome_of, answered}
use Rattle.image.specs.Load.{load_of}
use Rattle.tables.specs.declared.Tables.{Tables}
use Rattle.tables.specs.State.{read, tabled, loaded, all_zero}
use Rattle.meaning.specs.declared.Stepped.{Stepped}
use Rattle.calls.specs.Calls.{call_of, numbers}
use Rattle.meaning.specs.Ready.{dispatched}
use Rattle.meaning.specs.Services.{effect}
use Rattle.meaning.specs.Refusals.{refusals}

-- what a step gives: the tables as it leaves them, and the answer
pub record Step : Type 0 where
  pub tables : Tables
  pub outcome : Outcome

-- the step that the code gives, with the number of what refuses it
abbrev pub stepped : {N : Type 0} → (N → ℕ) → Stepped N → Step
stepped numbered r = record { tables = r.tables; outcome = answered numbered r.outcome }

-- "A refused call has result 0, leaves every table as it found it"
unfoldable pub refused : Tables → ℕ → Step
refused t n = record { tables = t; outcome = outcome_of n 0 }

-- "Every accepted call ends so: if no task runs, the first of the best non-empty level is dispatched."
unfoldable pub accepted : Tables → List ℕ → Step
accepted t bytes =
    let e = effect (read t) (call_of bytes) in
    record { tables = tabled (dispatched e.state); outcome = outcome_of 0 e.result }

-- "The first that applies in the table's order is given."
unfoldable pub step_of : Tables → List ℕ → Step
step_of t bytes = let n = first_of (refusals t bytes) in if eqb n 0 then accepted t bytes else refused t n

-- Loading: the loaded state of the directory, in which grants follow the rule `holes` (E8), or all-zero tables.
unfoldable pub tables_of : ℕ → List ℕ → Tables
tables_of holes image =
    let l = load_of image in
    tabled (if eqb (refusal_of l.outcome) 0 then loaded holes l.directory else all_zero)

-- The line that the desk writes of a step, and of the load: "(refusal, M or 0, 0)".
unfoldable pub line_of : Step → List ℕ
line_of r = numbers r.outcome r.tables.running

unfoldable pub load_line : List ℕ → List ℕ
load_line image = numbers (load_of image).outcome 0
