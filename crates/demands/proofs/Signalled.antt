-- Document 02, E1: "An event nobody has posted isn't off. .. TEST EVENT has to answer 3 for a defined event that hasn't been signalled on or off since the load. Waiting conditions
-- don't change. The table rules gain: an event that is on has been signalled, and a signalled one is defined."
-- From an image that loads, over any calls, one after the other, refused ones included: any lists of numbers, bytes or not.
use mathlib.Core.Bool.{true}
use mathlib.Core.Path.{◌≡◌, refl}
use mathlib.Core.Logic.{◌≢◌, ◌⊎◌, ◌↔◌}
use mathlib.Core.List.{List}
use Prim.Native.Nat.{ℕ, ◌≤◌}
use native.Mathlib.Omega.{arith}
use lib.ListN.{length}
use Rattle.words.specs.Words.{has}
use Rattle.answers.specs.Answer.{refusal_of, result_of}
use Rattle.image.specs.Load.{load_of}
use Rattle.pools.specs.Pools.{SmallestHole}
use Rattle.tables.specs.declared.Tables.{Tables}
use Rattle.tables.specs.State.{State, with_signalled}
use Rattle.calls.specs.declared.Call.{Call}
use Rattle.calls.specs.Calls.{TEST-EVENT, call_of}
use Rattle.meaning.specs.Conditions.{enough, due_of, holds}
use Rattle.meaning.specs.Step.{step_of, tables_of}
use Rattle.lawful.specs.Reached.{Reached, load, after_calls}
use Rattle.lawful.specs.Signals.{Unsignalled, LastSignalled}
use Rattle.lawful.proofs.Told.Steps.{reached-rules}
use Rattle.lawful.proofs.Told.After.{reached-directory, after-reached}
use Rattle.lawful.proofs.Told.Signalling.{test-accepted}
use Rattle.lawful.proofs.Told.Signalled.{never-where, value-where, one_of_three, on-signalled, signalled-defined}

-- ---- TEST EVENT, after any calls from a load, by either program.
module _ (holes : ℕ) (either : holes ≤ SmallestHole) (image : List ℕ) (loads : refusal_of (load_of image).outcome ≡ 0) (calls : List (List ℕ)) where
  abbrev pub loaded_tables : Tables
  loaded_tables = tables_of holes image

  -- the tables after the calls; they are reached, so that they hold together (Kept)
  abbrev pub now : Tables
  now = after_calls loaded_tables calls

  pub now-reached : Reached image now
  now-reached = after-reached image calls (load holes either loads)

  -- a defined event is answered for, while a task runs
  pub answered : (bytes : List ℕ) → length bytes ≡ 16 → (call_of bytes).code ≡ TEST-EVENT → now.running ≢ 0 → (call_of bytes).number ≤ 63
      → has (load_of image).directory.defined (call_of bytes).number ≡ true → refusal_of (step_of now bytes).outcome ≡ 0
  answered bytes long test runs low defined = test-accepted now bytes (reached-rules image now-reached) long test runs low (rw (reached-directory image now-reached) defined)

  module _ (bytes : List ℕ) (test : (call_of bytes).code ≡ TEST-EVENT) (accepted : refusal_of (step_of now bytes).outcome ≡ 0) where
    abbrev pub event : ℕ
    event = (call_of bytes).number

    abbrev pub answer : ℕ
    answer = result_of (step_of now bytes).outcome

    -- "3 for a defined event that hasn't been signalled on or off since the load", and for no other: of the calls none was an accepted SIGNAL of it
    pub never-signalled : (answer ≡ 3) ↔ Unsignalled event loaded_tables calls
    never-signalled = never-where holes image loads calls bytes test accepted

    -- "1 for off": a SIGNAL of it was accepted since the load, and the last one's value was 0
    pub signalled-off : (answer ≡ 1) ↔ LastSignalled event 0 loaded_tables calls
    signalled-off = value-where holes image loads calls bytes test accepted 0 (omega arith)

    -- "2 for on": a SIGNAL of it was accepted since the load, and the last one's value was 1
    pub signalled-on : (answer ≡ 2) ↔ LastSignalled event 1 loaded_tables calls
    signalled-on = value-where holes image loads calls bytes test accepted 1 (omega arith)

    -- and there is no fourth answer
    pub no-fourth : (answer ≡ 1) ⊎ ((answer ≡ 2) ⊎ (answer ≡ 3))
    no-fourth = one_of_three holes image loads calls bytes test accepted

-- ---- "The table rules gain: an event that is on has been signalled, and a signalled one is defined." Of all tables that are reached
module _ (image : List ℕ) {t : Tables} (r : Reached image t) (e : ℕ) where
  pub on-has-been-signalled : has t.on e ≡ true → has t.signalled e ≡ true
  on-has-been-signalled = on-signalled image r e

  pub signalled-is-defined : has t.signalled e ≡ true → has t.directory.defined e ≡ true
  signalled-is-defined = signalled-defined image r e

-- ---- "Waiting conditions don't change": whatever has been signalled, the same conditions hold. An event nobody has signalled is not on
module _ (s : State) (signalled : ℕ) where
  pub same-conditions : (c : Call) → holds (with_signalled s signalled) c ≡ holds s c
  unfolding holds enough due_of
  same-conditions c = refl

  pub same-waiters : (count events : ℕ) → enough (with_signalled s signalled) count events ≡ enough s count events
  unfolding enough
  same-waiters count events = refl
