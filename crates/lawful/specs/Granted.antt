-- Document 02, E8: "The grant takes the start of the shortest unbroken free run that is long enough, the lowest of equals." The words of its theorem: what a grant takes,
-- and how core goes from task to task in the course of a call.
use Rattle.std.specs.Prelude.{true, ◌≡◌, ◌⊎◌, ℕ, ◌≤◌, ◌<◌}
use Rattle.pools.specs.Pools.{free_at, hole_at}
use Rattle.tables.specs.Blocks.{HoldsRun}
use Rattle.tables.specs.State.{State, with_holes, task_at, pool_at, level_of, units_of}
use Rattle.meaning.specs.Ready.{fits, start_for, needs_core, given_run}
use Rattle.meaning.specs.Finish.{unseated}

-- ---- What a grant takes, where n units are asked for and the units `granted` are not free.

-- "the start of the shortest unbroken free run that is long enough, the lowest of equals": of the holes of n units or more none is shorter, and none that is as short is lower
pub record SmallestFirst (granted n start : ℕ) : Type 0 where
  pub units : ℕ
  pub enough : n ≤ units
  pub hole : hole_at granted units start ≡ true
  pub first : (m a : ℕ) → n ≤ m → hole_at granted m a ≡ true → (units < m) ⊎ ((units ≡ m) × (start ≤ a))

-- document 01: "the lowest start at which enough are free"
pub record LowestFirst (granted n start : ℕ) : Type 0 where
  pub enough : free_at granted n start ≡ true
  pub first : (a : ℕ) → free_at granted n a ≡ true → start ≤ a

-- ---- The course of core in a call that is made in the state o.

-- the task k holds a run in s, and the same one in t: with the same module, from the same start
pub record KeepsRun (s t : State) (k : ℕ) : Type 0 where
  pub held : (task_at s k).core ≡ HoldsRun
  pub holds : (task_at t k).core ≡ HoldsRun
  pub program : (task_at t k).program ≡ (task_at s k).program
  pub start : (task_at t k).start ≡ (task_at s k).start

-- t has the pools of s, and in t those hold a run who hold one in s, and the same one
pub record SameCore (s t : State) : Type 0 where
  pub directory : t.directory ≡ s.directory
  pub holes : t.holes ≡ s.holes
  pub pools : t.pools ≡ s.pools
  pub kept : (k : ℕ) → (task_at s k).core ≡ HoldsRun → KeepsRun s t k
  pub only : (k : ℕ) → (task_at t k).core ≡ HoldsRun → (task_at s k).core ≡ HoldsRun

-- one change: a task that still needs core is given a run, where a free run is long enough; or a task gives the run back that it held when the call was made. Any other change
-- leaves core as it is
pub data Change (o s : State) : State → Type 0 where
  grants : (k : ℕ) → needs_core s k ≡ true → fits s k ≡ true → Change o s (given_run s k)
  returns : (k : ℕ) → KeepsRun o s k → Change o s (unseated s k)
  other : {t : State} → SameCore s t → Change o s t

-- any number of changes, one after the other: the pool of a moment is that of the beginning with the grants and returns since
infixl 20 ◌next◌
pub data Course (o s : State) : State → Type 0 where
  here : Course o s s
  ◌next◌ : {t u : State} → Course o s t → Change o t u → Course o s u

-- ---- A call comes from o to t, and at a moment on the way the task k was given the run that it holds in t.
pub record Granted (o t : State) (k : ℕ) : Type 0 where
  pub moment : State
  pub before : Course o o moment
  pub needs : needs_core moment k ≡ true
  pub long : fits moment k ≡ true
  pub after : Course o (given_run moment k) t
  pub program : (task_at t k).program ≡ (task_at moment k).program
  pub start : (task_at t k).start ≡ start_for moment k

-- the task k holds a run in t, and did not hold that run in o
abbrev pub NewRun : State → State → ℕ → Type 0
NewRun o t k = ((task_at t k).core ≡ HoldsRun) × (KeepsRun o t k → ⊥)

-- each such task was given its run on the way, by E8's rule or by document 01's: the pool is that of the moment, the level and the units are the task's
abbrev pub GrantsSmallest : State → State → Type 0
GrantsSmallest o t = (k : ℕ) → NewRun o t k → (g : Granted o t k) × SmallestFirst (pool_at g.moment (level_of t k)) (units_of t k) (task_at t k).start

abbrev pub GrantsLowest : State → State → Type 0
GrantsLowest o t = (k : ℕ) → NewRun o t k → (g : Granted o t k) × LowestFirst (pool_at g.moment (level_of t k)) (units_of t k) (task_at t k).start

-- ---- "The rule for who waits is unchanged": the same state, in which grants follow the rule `holes`.
abbrev pub by_rule : ℕ → State → State
by_rule holes s = with_holes s holes
