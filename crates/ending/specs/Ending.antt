-- What finishing and ending ask: the shape of the tables while the task is in hand. (What the abort asks is `Aborting` of the laws.)
use Rattle.std.specs.Prelude.{◌≢◌, List, ℕ}
use Rattle.threads.specs.Threads.{Sound}
use Rattle.tables.specs.declared.Tables.{Tables}
use Rattle.tables.specs.State.{read}
use Rattle.tables.specs.Held.{Loose}
use Rattle.lawful.specs.Shape.{InHand}
use Rattle.lawful.specs.Resting.{Rest}

-- p is no task, or one of no queue
pub record Parent (t : Tables) (p : ℕ) : Type 0 where
  pub sound : Sound t.threads
  pub loose : p ≢ 0 → Loose t p

-- k is in hand, beside others or alone, and the rules of rest hold but for what is excused
pub record Finishing (t : Tables) (k : ℕ) : Type 0 where
  pub others : List ℕ
  pub excused : List ℕ
  pub sound : Sound t.threads
  pub hand : InHand (read t) k others 0
  pub rest : Rest (read t) excused
