-- ==== Inside: words for contracts below the public face. What the executive, its library and the demands claim does not rest on them.
-- The rules of document 01 that hold at rest, between calls, each by itself; with a list of those that are excused while a call is on its way.
use Rattle.std.specs.Prelude.{false, ◌≡◌, List, [], ◌∷◌, ℕ, ◌≤◌}
use Rattle.threads.specs.Threads.{count}
use Rattle.tables.specs.State.{State, event_queue, ready_queue, core_queue, channel_queue, task_at, pool_at, queue, units_of}
use Rattle.pools.specs.Pools.{long_enough}
use Rattle.meaning.specs.Conditions.{enough}
use Rattle.meaning.specs.Rules.{upward}
use Rattle.lawful.specs.Shape.{Shape, InHand}

-- "No event waiter's condition already holds", but for those of the list m
pub record Asleep (s : State) (m : List ℕ) : Type 0 where
  pub asleep : (y : ℕ) → 1 ≤ count y (queue s event_queue) → count y m ≡ 0 → enough s (task_at s y).count (task_at s y).events ≡ false

-- "and no first waiter for core would fit", of one level
pub record Stuck (s : State) (level : ℕ) : Type 0 where
  pub stuck : (k : ℕ) (l : List ℕ) → queue s (core_queue level) ≡ k ∷ l → long_enough (pool_at s level) (units_of s k) ≡ false

-- "The processor is idle only if nothing is ready"
pub record Busy (s : State) : Type 0 where
  pub busy : s.running ≡ 0 → (level : ℕ) → 1 ≤ level → level ≤ 3 → queue s (ready_queue level) ≡ []

-- "no queue behind an empty channel", but where the list m has a 0
pub record Flowing (s : State) (m : List ℕ) : Type 0 where
  pub flowing : count 0 m ≡ 0 → s.channel ≡ 0 → queue s channel_queue ≡ []

-- what holds at rest but for the dispatch
pub record Rest (s : State) (m : List ℕ) : Type 0 where
  pub asleep : Asleep s m
  pub stuck : (level : ℕ) → 1 ≤ level → level ≤ 3 → Stuck s level
  pub flowing : Flowing s m

-- what every call leaves, before its dispatch
pub record Settled (s : State) : Type 0 where
  pub shape : Shape s [] 0
  pub rest : Rest s []

-- ---- All the rules.
pub record Lawful (s : State) : Type 0 where
  pub shape : Shape s [] 0
  pub rest : Rest s []
  pub busy : Busy s

-- ---- An abort on its way: the task k is in hand, with its core if it needs any, and the chain of its parents ends in n steps. The others are at rest.
pub record Aborting (n k : ℕ) (s : State) : Type 0 where
  pub hand : InHand s k [] 0
  pub rest : Rest s []
  pub core : 1 ≤ units_of s k → (task_at s k).core ≡ 0 → ⊥
  pub chain : upward s n k ≡ 0
