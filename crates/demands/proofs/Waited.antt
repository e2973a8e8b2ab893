-- Document 02, E6: "When did it start to wait? The day shift asks how long a task has been stuck. Every task block gets the clock reading at which it last entered any waiting queue, core,
-- LINK, CHECK and ending too, and 0 while free, ready or running. Moving between waiting queues sets it anew. Demand 3 gains: it is never past the clock."
-- Of the tables t that are reached from an image, `Reached image t`, and any calls after them, refused ones included. That the two rules are kept on any tables is `step_Keeps`.
use mathlib.Core.Path.{◌≡◌, ◌∙◌}
use mathlib.Core.Logic.{◌≢◌}
use mathlib.Core.List.{List}
use Prim.Native.Nat.{ℕ, ◌+◌, ◌≤◌}
use native.Mathlib.Omega.{arith}
use Rattle.tables.specs.declared.Tables.{Tables}
use Rattle.tables.specs.Blocks.{task_blocks}
use Rattle.tables.proofs.Readings.{since-waits}
use Rattle.meaning.specs.Step.{step_of}
use Rattle.lawful.specs.Tables.{LawfulTables}
use Rattle.lawful.specs.Reached.{Reached, step, after_calls}
use Rattle.lawful.specs.Waited.{place_in, reading_in, DoesNotWait, StaysIn, cycles}
use Rattle.lawful.proofs.Told.Steps.{reached-lawful}
use Rattle.lawful.proofs.Told.Clock.{calls-clock}
use Rattle.lawful.proofs.Told.Waited.{waits_there, zero-there, never-past, step-enters, calls-stay}

module _ (image : List ℕ) {t : Tables} (reached : Reached image t) (k : ℕ) (some : 1 ≤ k) (low : k ≤ task_blocks) where
  lawful : LawfulTables t
  lawful = reached-lawful image reached

  -- ---- "and 0 while free, ready or running"
  pub zero-where-it-does-not-wait : DoesNotWait (place_in t k) → reading_in t k ≡ 0
  zero-where-it-does-not-wait = zero-there k some low lawful

  -- ---- "Demand 3 gains: it is never past the clock"
  pub never-past-the-clock : reading_in t k ≤ t.clock
  never-past-the-clock = never-past k some low lawful

  -- ---- A call that puts it into another place, in which it waits
  module _ (bytes : List ℕ) (moved : place_in (step_of t bytes).tables k ≢ place_in t k) (waits : DoesNotWait (place_in (step_of t bytes).tables k) → ⊥) where
    abbrev pub entered : Tables
    entered = (step_of t bytes).tables

    entered-lawful : LawfulTables entered
    entered-lawful = reached-lawful image (step bytes reached)

    -- "the clock reading at which it last entered any waiting queue", and "Moving between waiting queues sets it anew": the clock as it is after that call, the timer's new one too
    pub set-on-entering : reading_in entered k ≡ entered.clock
    set-on-entering = step-enters k some low t bytes lawful moved ∙ since-waits _ _ (waits_there k some low entered-lawful waits)

    -- "how long a task has been stuck": as long as it stays there, the reading is that clock, and the clock less the reading is the cycles that have gone by since
    pub how-long : (calls : List (List ℕ)) → StaysIn k (place_in entered k) entered calls
        → (reading_in (after_calls entered calls) k ≡ entered.clock) × ((after_calls entered calls).clock ≡ reading_in (after_calls entered calls) k + cycles entered calls)
    how-long calls stays =
        let same : reading_in (after_calls entered calls) k ≡ entered.clock = calls-stay k some low calls entered entered-lawful (waits_there k some low entered-lawful waits) stays ∙ set-on-entering in
        (same, omega (arith, same, calls-clock calls entered))

  -- ---- While it stays in its waiting place its reading stays, whenever it came there
  pub reading-stays : (DoesNotWait (place_in t k) → ⊥) → (calls : List (List ℕ)) → StaysIn k (place_in t k) t calls → reading_in (after_calls t calls) k ≡ reading_in t k
  reading-stays waits calls stays = calls-stay k some low calls t lawful (waits_there k some low lawful waits) stays
