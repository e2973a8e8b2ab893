-- Demand 3: "The processor is idle only if nothing is ready, and each task newly dispatched is the first of the best level that is ready." Of the tables t that are reached,
-- `Reached image t`. And document 01: "an interrupt never takes the processor from a running background task".
use mathlib.Core.Bool.{true}
use mathlib.Core.Path.{◌≡◌}
use mathlib.Core.Logic.{◌≢◌, ◌⊎◌}
use mathlib.Core.List.{List, []}
use Prim.Native.Nat.{ℕ, ◌≤◌, ◌<◌}
use Rattle.words.specs.Words.{◌among◌}
use Rattle.answers.specs.Answer.{Accepted}
use Rattle.tables.specs.declared.Tables.{Tables}
use Rattle.tables.specs.State.{State, ready_queue, queue, level_of, read}
use Rattle.calls.specs.Calls.{PROGRAM-CHECK, call_of, interrupts}
use Rattle.meaning.specs.Services.{effect}
use Rattle.meaning.specs.Step.{step_of}
use Rattle.lawful.specs.Reached.{Reached, First}
use Rattle.lawful.proofs.Told.Steps.{reached-lawful}
use Rattle.lawful.proofs.Chained.Stays.{effect-puts}
use Rattle.lawful.proofs.Told.After.{step-newly, step-undisturbed, step_left, interrupts-need-none}
use Rattle.lawful.proofs.Told.Best.{step-best}

module _ (image : List ℕ) {t : Tables} (reached : Reached image t) where
  abbrev s : State
  s = read t

  -- ---- "The processor is idle only if nothing is ready"
  pub idle-only : t.running ≡ 0 → (level : ℕ) → 1 ≤ level → level ≤ 3 → queue s (ready_queue level) ≡ []
  idle-only = (reached-lawful image reached).state.busy.busy

  -- ---- "each task newly dispatched is the first of the best level that is ready". A call has two parts, what it does and the dispatch at its end; `left` is what the first leaves
  module _ (bytes : List ℕ) where
    abbrev left : State
    left = (effect s (call_of bytes)).state

    -- what a call does puts nobody on the processor: the same task runs, or none
    pub none-put-on : (left.running ≡ t.running) ⊎ (left.running ≡ 0)
    none-put-on = (effect-puts s (call_of bytes)).none-on

    -- and the dispatch puts one on only where none runs: the first of the best level that is ready
    pub dispatched-first : (r : ℕ) → (step_of t bytes).outcome ≡ Accepted r
        → ((step_of t bytes).tables.running ≡ left.running) ⊎ ((left.running ≡ 0) × First left (step_of t bytes).tables.running)
    dispatched-first = step_left t bytes

    -- so of any call: who runs after it and did not before is the first of the best level that is ready
    pub newly-dispatched : let u = (step_of t bytes).tables in u.running ≢ t.running → u.running ≢ 0 → First left u.running
    newly-dispatched = step-newly t bytes

    -- and in the tables that the call leaves, no level better than its own has a ready task
    pub none-better : let u = (step_of t bytes).tables in u.running ≢ t.running → u.running ≢ 0
        → (l : ℕ) → 1 ≤ l → l < level_of (read u) u.running → queue (read u) (ready_queue l) ≡ []
    none-better = step-best t bytes (reached-lawful image reached)

    -- ---- "an interrupt never takes the processor from a running background task": all but 34, the program check, which aborts it
    pub never-taken : (call_of bytes).code among interrupts ≡ true → (call_of bytes).code ≢ PROGRAM-CHECK → t.running ≢ 0 → (step_of t bytes).tables.running ≡ t.running
    never-taken i n = step-undisturbed t bytes (interrupts-need-none (call_of bytes).code i n)
