-- What the walk along the pointers tells: whether they are sound, and the queue in which each block stands. A block of no queue has the mark `no_queue`.
use Rattle.std.specs.Prelude.{Bool, true, false, ◌&&◌, ◌≡◌, List, ℕ, suc, ◌+◌, ◌-◌, ◌≤◌, length, get_or, replicate, eqb}
use Rattle.threads.specs.declared.Threads.{Threads}
use Rattle.threads.specs.Threads.{queues_of, Sound, BLOCKS, QUEUES, no_queue}
use Rattle.words.specs.Words.{◌implies◌, one_to, all_of, standing}
use Rattle.meaning.specs.Rules.{pointers_sound}

-- a block that is marked with no queue has no pointers
abbrev pub clear_by : ℕ → ℕ → ℕ → Bool
clear_by mark fwd back = eqb mark no_queue implies (eqb fwd 0 && eqb back 0)

unfoldable pub clear_at : Threads → List ℕ → ℕ → Bool
clear_at t m y = clear_by (get_or m y 0) (get_or t.fwd y 0) (get_or t.back y 0)

-- and so has slot 0
unfoldable pub rest_clear : Threads → List ℕ → Bool
rest_clear t m = clear_at t m 0 && all_of (clear_at t m) (one_to BLOCKS)

-- the last of the queues
abbrev pub last_queue : ℕ
last_queue = QUEUES - 1

-- how many turns a walk may take: each block once, and the end of each queue
abbrev pub steps : ℕ
steps = BLOCKS + QUEUES + 1

-- no block is marked
abbrev pub no_marks : List ℕ
no_marks = replicate (suc BLOCKS) no_queue

-- `ok` says whether the pointers are sound. Where they are, the marks say where each block stands; where they are not, no block is marked.
pub record Walks (t : Threads) (ok : Bool) (m : List ℕ) : Type 0 where
  pub right : ok ≡ pointers_sound t
  pub sound : pointers_sound t ≡ true → Sound t
  pub stands : pointers_sound t ≡ true → (y : ℕ) → y ≤ BLOCKS → get_or m y 0 ≡ standing y (queues_of t)
  pub none : pointers_sound t ≡ false → m ≡ no_marks
  pub many : length m ≡ suc BLOCKS
