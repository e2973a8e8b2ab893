-- Demand 3: "LINK parents never form a ring, so an abort takes at most 24 tasks, each once." Of the tables t that are reached, `Reached image t`.
use mathlib.Core.Path.{◌≡◌}
use mathlib.Core.Logic.{◌≢◌, ◌⊎◌}
use mathlib.Core.List.{List}
use Prim.Native.Nat.{ℕ, ◌≤◌, ◌<◌}
use lib.ListN.{length, get_or}
use Rattle.threads.specs.Threads.{count}
use Rattle.words.specs.Words.{each}
use Rattle.tables.specs.declared.Tables.{Tables}
use Rattle.tables.specs.Blocks.{Free, Ready, Ending, task_blocks}
use Rattle.tables.specs.State.{State, with_running, task_at, read}
use Rattle.calls.specs.Calls.{PROGRAM-CHECK, call_of}
use Rattle.meaning.specs.Finish.{aborted}
use Rattle.meaning.specs.Rules.{upward}
use Rattle.meaning.specs.Services.{effect}
use Rattle.lawful.specs.Resting.{Lawful}
use Rattle.lawful.specs.Reached.{Reached, taken, taken_by}
use Rattle.lawful.proofs.Each.Chains.{chain-ends, each-once, no_return}
use Rattle.lawful.proofs.Told.Taken.{at_most, each-taken-once, check-takes, the-chain as chain, none-cut as cuts-none}
use Rattle.lawful.proofs.Told.Gone.{check-gone, check-others}
use Rattle.lawful.proofs.Told.Steps.{reached-lawful}

module _ (image : List ℕ) {t : Tables} (reached : Reached image t) where
  abbrev s : State
  s = read t

  lawful : Lawful s
  lawful = (reached-lawful image reached).state

  -- ---- "LINK parents never form a ring": from no task does one come back to it, parent by parent. So 24 steps above a task is none, and no task is met twice on the way
  pub no-ring : (k n : ℕ) → 1 ≤ k → k ≤ task_blocks → 1 ≤ n → upward s n k ≢ k
  no-ring = no_return lawful.shape

  pub chain-of-24 : (k : ℕ) → 1 ≤ k → k ≤ task_blocks → upward s 24 k ≡ 0
  chain-of-24 = chain-ends lawful.shape

  pub none-twice : (i j k : ℕ) → k ≤ task_blocks → i < j → upward s j k ≢ 0 → upward s j k ≢ upward s i k
  none-twice = each-once lawful.shape

  -- ---- "so an abort takes": a program check takes the tasks of a list, one after the other and each wholly before the next, and does nothing else
  abbrev victims : List ℕ
  victims = taken_by 24 t.running (with_running s 0)

  pub abort-takes : (bytes : List ℕ) → (call_of bytes).code ≡ PROGRAM-CHECK → (effect s (call_of bytes)).state ≡ each taken victims (with_running s 0)
  abort-takes bytes e = check-takes s (call_of bytes) e

  -- who they are: the running task, its parent, and so on upward, as the tables had the parents before the call; 0 where the chain is at its end
  pub the-chain : (i : ℕ) → get_or victims i 0 ≡ upward s i t.running
  the-chain = chain lawful

  -- "at most 24 tasks"; the bound cuts nothing: a greater one would take the same
  pub at-most-24 : length victims ≤ task_blocks
  at-most-24 = at_most 24 t.running (with_running s 0)

  pub none-cut : (n : ℕ) → 24 ≤ n → aborted n t.running (with_running s 0) ≡ aborted 24 t.running (with_running s 0)
  none-cut = cuts-none lawful

  -- "each once"
  pub taken-once : (y : ℕ) → count y victims ≤ 1
  taken-once = each-taken-once lawful

  -- and where they are then: each is free, or waits as ending, and has lost its link; every other task is where it was, or was given core that it waited for and is ready
  module _ (bytes : List ℕ) (aborts : (call_of bytes).code ≡ PROGRAM-CHECK) where
    abbrev left : State
    left = (effect s (call_of bytes)).state

    pub taken-are-gone : (i : ℕ) → let y = upward s i t.running in y ≢ 0 → (((task_at left y).place ≡ Free) ⊎ ((task_at left y).place ≡ Ending)) × ((task_at left y).parent ≡ 0)
    taken-are-gone i d = let g = check-gone lawful (call_of bytes) aborts i d in (g.place, g.parent)

    pub others-are-not : (y : ℕ) → y ≢ 0 → ((i : ℕ) → upward s i t.running ≢ y) → ((task_at left y).place ≡ (task_at s y).place) ⊎ ((task_at left y).place ≡ Ready)
    others-are-not = check-others lawful (call_of bytes) aborts
