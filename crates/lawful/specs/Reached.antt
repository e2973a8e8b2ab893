-- What the statements of `demands` are about, besides the meaning: the tables that are reached, who is next for the processor, and whom an abort takes.
use Rattle.std.specs.Prelude.{◌≡◌, List, [], ◌∷◌, ℕ, zero, suc, ◌≤◌, ◌<◌, eqb, if◌then◌else◌}
use Rattle.answers.specs.Answer.{refusal_of}
use Rattle.image.specs.Load.{load_of}
use Rattle.pools.specs.Pools.{SmallestHole}
use Rattle.tables.specs.declared.Tables.{Tables}
use Rattle.tables.specs.State.{State, ready_queue, task_at, queue}
use Rattle.meaning.specs.Finish.{ended, unlinked}
use Rattle.meaning.specs.Step.{step_of, tables_of}

-- "From a loaded image, after any sequence of calls, refused ones included": any lists as calls, bytes or not
-- by either program: with the grants of today or with those of the old program (E8)
pub data Reached (image : List ℕ) : Tables → Type 0 where
  load : (holes : ℕ) → holes ≤ SmallestHole → refusal_of (load_of image).outcome ≡ 0 → Reached image (tables_of holes image)
  step : {t : Tables} (bytes : List ℕ) → Reached image t → Reached image (step_of t bytes).tables

-- E1: the tables that calls leave, made one after the other from t on, refused ones included
unfoldable pub after_calls : Tables → List (List ℕ) → Tables
after_calls t [] = t
after_calls t (bytes ∷ calls) = after_calls (step_of t bytes).tables calls

-- the task k is "the first of the best level that is ready": it heads the ready queue of a level, and no better level has a ready task
pub record First (s : State) (k : ℕ) : Type 0 where
  pub level : ℕ
  pub best : 1 ≤ level
  pub worst : level ≤ 3
  pub behind : List ℕ
  pub first : queue s (ready_queue level) ≡ k ∷ behind
  pub better : (l : ℕ) → 1 ≤ l → l < level → queue s (ready_queue l) ≡ []

-- an abort takes the task k: it "loses its link and finishes, or waits as ending if it has pending requests"
unfoldable pub taken : ℕ → State → State
taken k s = ended (unlinked s k) k

-- whom an abort that begins with k takes, in turn: "Child first, then its parent, and so on upward". The parent of each is read before it is taken, in the state that those
-- before it have left; at most n of them
unfoldable pub taken_by : ℕ → ℕ → State → List ℕ
taken_by zero k s = []
taken_by (suc n) k s = let further = taken_by n (task_at s k).parent (taken k s) in if eqb k 0 then [] else k ∷ further
