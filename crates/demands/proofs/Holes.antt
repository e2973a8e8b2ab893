-- Document 02, E8: "Smallest hole first. Long reports wait for hours because small tasks chop up the pool. The grant takes the start of the shortest unbroken
-- free run that is long enough, the lowest of equals. The rule for who waits is unchanged. The desk keeps the old program for recordings made before this."
-- Of any tables that keep the rules, whether they are reached from an image or not, and any call, refused or not. `t.holes` is the rule by which the tables t grant core.
use mathlib.Core.Bool.{true}
use mathlib.Core.Path.{◌≡◌, ◌∙◌}
use mathlib.Core.List.{List, []}
use Prim.Native.Nat.{ℕ, ◌≤◌}
use native.Mathlib.Omega.{arith}
use lib.Dec.{ltb}
use Rattle.answers.specs.Answer.{Accepted, refusal_of}
use Rattle.image.specs.Directory.{entry_at}
use Rattle.image.specs.Load.{load_of}
use Rattle.pools.specs.Pools.{long_enough, LowestStart, SmallestHole, start_of}
use Rattle.pools.proofs.Starts.{given-where}
use Rattle.tables.specs.declared.Tables.{Tables}
use Rattle.tables.specs.Blocks.{HoldsRun}
use Rattle.tables.specs.State.{State, core_queue, task_at, pool_at, queue, read}
use Rattle.calls.specs.Calls.{OPERATOR-START, call_of}
use Rattle.meaning.specs.Ready.{fits, made_ready}
use Rattle.meaning.specs.Rules.{rules_hold}
use Rattle.meaning.specs.Step.{step_of, tables_of}
use Rattle.lawful.specs.Tables.{Typed, LawfulTables}
use Rattle.lawful.specs.Reached.{load, after_calls}
use Rattle.lawful.specs.Granted.{by_rule, Course, GrantsSmallest, GrantsLowest}
use Rattle.lawful.proofs.Told.Steps.{rules-tables, reached-lawful}
use Rattle.lawful.proofs.Told.After.{loaded-holes, after-reached, after-holes}
use Rattle.lawful.proofs.Told.Granted.{step-course, step-smallest, step-lowest, same-given, same-fits, same-queues}
use Rattle.lawful.proofs.Told.Started.{step-starts}

module _ (t : Tables) (typed : Typed t) (rules : rules_hold t ≡ true) (bytes : List ℕ) where
  lawful : LawfulTables t
  lawful = rules-tables t typed rules

  abbrev before : State
  before = read t

  abbrev after : State
  after = read (step_of t bytes).tables

  -- ---- "The grant": in any call core goes from task to task by grants alone, to tasks that still need it, and by runs that are given back by those who held them before the call
  pub by-grants-alone : Course before before after
  by-grants-alone = step-course t bytes lawful

  -- ---- "The grant takes the start of the shortest unbroken free run that is long enough, the lowest of equals": each grant of a call, whether a task is made ready or a core
  -- queue is served
  pub smallest-hole-first : t.holes ≡ SmallestHole → GrantsSmallest before after
  smallest-hole-first = step-smallest t bytes lawful

  -- ---- "the old program": each grant takes document 01's "lowest start at which enough are free"
  pub lowest_start : t.holes ≡ LowestStart → GrantsLowest before after
  lowest_start = step-lowest t bytes lawful

  -- ---- The same of one call that is checked by hand: an operator start of a module with units, where nobody waits for core of its level and a free run is long enough. The new
  -- task, the result of the call, holds a run from the start that the rule gives in the pool as it was before the call
  pub one-start : (call_of bytes).code ≡ OPERATOR-START → (k : ℕ) → (step_of t bytes).outcome ≡ Accepted k
      → let m = entry_at t.directory (call_of bytes).number in
      1 ≤ m.units → queue before (core_queue m.level) ≡ [] → long_enough (pool_at before m.level) m.units ≡ true
      → ((task_at after k).core ≡ HoldsRun) × ((task_at after k).start ≡ start_of t.holes (pool_at before m.level) m.units)
  one-start = step-starts t bytes lawful

-- ---- "The desk keeps the old program": a program is loaded by one of the two rules, and no call changes the rule
module _ (image : List ℕ) (loads : refusal_of (load_of image).outcome ≡ 0) (calls : List (List ℕ)) where
  pub rule-stays : (holes : ℕ) → (after_calls (tables_of holes image) calls).holes ≡ holes
  rule-stays holes = after-holes (tables_of holes image) calls ∙ loaded-holes image holes loads

  -- so after any calls, refused ones included, each grant of the next call is by that rule
  pub of-the-program : (bytes : List ℕ) → let t = after_calls (tables_of SmallestHole image) calls in GrantsSmallest (read t) (read (step_of t bytes).tables)
  of-the-program bytes =
      step-smallest _ bytes (reached-lawful image (after-reached image calls (load SmallestHole (omega arith) loads))) (rule-stays SmallestHole)

  pub of-the-old-program : (bytes : List ℕ) → let t = after_calls (tables_of LowestStart image) calls in GrantsLowest (read t) (read (step_of t bytes).tables)
  of-the-old-program bytes =
      step-lowest _ bytes (reached-lawful image (after-reached image calls (load LowestStart (omega arith) loads))) (rule-stays LowestStart)

-- ---- "The rule for who waits is unchanged". That no first waiter for core would fit, and that nobody overtakes, is shown of either rule: in Kept and in Overtakes

-- a rule gives a start exactly where some free run is long enough; so where the one gives a start the other does
pub given-where-long-enough : (holes granted n : ℕ) → long_enough granted n ≡ ltb (start_of holes granted n) 64
given-where-long-enough = given-where

pub given-by-either : (holes others granted n : ℕ) → ltb (start_of holes granted n) 64 ≡ ltb (start_of others granted n) 64
given-by-either = same-given

module _ (s : State) (k : ℕ) where
  -- "stopping at the first that doesn't fit": in the same state a task fits by either rule or by neither
  pub fits-by-either : (holes : ℕ) → fits (by_rule holes s) k ≡ fits s k
  fits-by-either holes = same-fits holes s k

  -- a task that is made ready joins the same queue, its level's core queue or its ready queue, by either rule
  pub who-waits : (holes : ℕ) → (made_ready (by_rule holes s) k).queues ≡ (made_ready s k).queues
  who-waits holes = same-queues holes s k
