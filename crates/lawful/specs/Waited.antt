-- Document 02, E6: "The day shift asks how long a task has been stuck." The words of its theorem.
use Rattle.std.specs.Prelude.{◌&&◌, ◌≡◌, ◌⊎◌, List, [], ◌∷◌, ◌++◌, ℕ, ◌+◌, eqb, if◌then◌else◌}
use Rattle.answers.specs.Answer.{refusal_of}
use Rattle.tables.specs.declared.Tables.{Tables}
use Rattle.tables.specs.Blocks.{Free, Ready, Running}
use Rattle.tables.specs.State.{task_at, read}
use Rattle.calls.specs.Calls.{TIMER, call_of}
use Rattle.meaning.specs.Step.{step_of}
use Rattle.lawful.specs.Reached.{after_calls}

-- the place of the task k, and its reading
abbrev pub place_in : Tables → ℕ → ℕ
place_in t k = (task_at (read t) k).place

abbrev pub reading_in : Tables → ℕ → ℕ
reading_in t k = (task_at (read t) k).since

-- "free, ready or running": in any other place a task waits
abbrev pub DoesNotWait : ℕ → Type 0
DoesNotWait p = (p ≡ Free) ⊎ ((p ≡ Ready) ⊎ (p ≡ Running))

-- the task k is in the place p, before these calls and after each of them, made one after the other from t on
pub record StaysIn (k p : ℕ) (t : Tables) (calls : List (List ℕ)) : Type 0 where
  pub there : (before behind : List (List ℕ)) → calls ≡ before ++ behind → place_in (after_calls t before) k ≡ p

-- how many cycles go by in these calls: how many of them are timer interrupts that are accepted
unfoldable pub cycles : Tables → List (List ℕ) → ℕ
cycles t [] = 0
cycles t (bytes ∷ calls) =
    (if eqb (call_of bytes).code TIMER && eqb (refusal_of (step_of t bytes).outcome) 0 then 1 else 0) + cycles (step_of t bytes).tables calls
