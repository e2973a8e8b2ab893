-- What one look at each task block gathers of links and of core.
use Rattle.std.specs.Prelude.{Bool, ◌&&◌, ◌≡◌, List, ℕ, ◌≤◌, ◌<◌, ◌^◌, eqb, leb, length, get_or, if◌then◌else◌}
use Rattle.std.specs.Int.Bits.{bit_and, bit_or}
use Rattle.words.specs.Words.{one_to, all_of, how_many, has, adding}
use Rattle.tables.specs.Blocks.{InLink}
use Rattle.tables.specs.State.{State, task_at}
use Rattle.meaning.specs.Rules.{holds_unit, upward}
use Rattle.rules.specs.declared.links.Met.{Met}

-- of the blocks 1 to k, `one` has each u that at least one of them has, and `two` each that at least two have
pub record Tally (p : ℕ → ℕ → Bool) (k one two : ℕ) : Type 0 where
  pub once : (u : ℕ) → has one u ≡ leb 1 (how_many (p u) (one_to k))
  pub twice : (u : ℕ) → has two u ≡ leb 2 (how_many (p u) (one_to k))

-- none was met twice, and those that were met are the wanted ones, which are below 64
pub record Exact (one two wanted : ℕ) (r : Bool) : Type 0 where
  pub low : wanted < 2 ^ 64
  pub right : r ≡ (eqb two 0 && eqb one wanted)

-- the task c is a child of the task k
abbrev pub child_of : State → ℕ → ℕ → Bool
child_of s k c = eqb (task_at s c).parent k

-- with a set more, what is in it was met, and what is in it and was met before was met twice
abbrev pub with_set : Met → ℕ → Met
with_set m set = record { once = bit_or m.once set; twice = bit_or m.twice (bit_and m.once set) }

-- nothing was met
abbrev pub none_met : Met
none_met = record { once = 0; twice = 0 }

-- the task k as a set, where it waits in LINK
abbrev pub alone : ℕ → ℕ → ℕ
alone place k = if eqb place InLink then adding 0 k else 0

-- the units of the runs of the blocks 1 to k, level by level
pub record Counted (s : State) (k : ℕ) (runs : List Met) : Type 0 where
  pub many : length runs ≡ 4
  pub tally : (level : ℕ) → level < 4 → Tally (holds_unit s level) k (get_or runs level none_met).once (get_or runs level none_met).twice

-- the LINK waiters of the blocks 1 to k; of slot 0 it says nothing
pub record Waiters (s : State) (k waits : ℕ) : Type 0 where
  pub at : (u : ℕ) → 1 ≤ u → has waits u ≡ (leb u k && eqb (task_at s u).place InLink)

-- what is gathered of the blocks 1 to k
pub record Seen (s : State) (k : ℕ) (met : Met) (waits : ℕ) (ends : Bool) (runs : List Met) : Type 0 where
  pub parents : Tally (child_of s) k met.once met.twice
  pub waiters : Waiters s k waits
  pub chains : ends ≡ all_of (λ j. eqb (upward s 24 j) 0) (one_to k)
  pub core : Counted s k runs
