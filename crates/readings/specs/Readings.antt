-- What is told of the readings of tasks. Document 02, E6: "Every task block gets the clock reading at which it last entered any waiting queue, core, LINK, CHECK
-- and ending too, and 0 while free, ready or running."
use Rattle.std.specs.Prelude.{Bool, not, ◌&&◌, ◌||◌, List, [], ◌∷◌, ◌++◌, ℕ, zero, suc, eqb, if◌then◌else◌}
use Rattle.text.specs.Decimals.{spelling}
use Rattle.tables.specs.Blocks.{task_blocks, waits_in}
use Rattle.tables.specs.declared.Task.{Task}
use Rattle.tables.specs.declared.Tables.{Tables}
use Rattle.tables.specs.State.{read, task_at}

-- the reading of block k
abbrev pub reading_of : Tables → ℕ → ℕ
reading_of t k = (task_at (read t) k).since

-- ---- The readings that a call has changed.

-- " 4@17": 32 is the byte of a space, 64 that of @
abbrev pub new_reading : ℕ → ℕ → List ℕ
new_reading k reading = 32 ∷ (spelling k ++ 64 ∷ spelling reading)

-- the same where the reading 17 of block 4 is another than before
abbrev pub change_of : ℕ → ℕ → ℕ → List ℕ
change_of k was is = if eqb was is then [] else new_reading k is

-- those of the blocks from 1 to n, in block order
unfoldable pub changed_of : Tables → Tables → ℕ → List ℕ
changed_of before after zero = []
changed_of before after (suc n) = changed_of before after n ++ change_of (suc n) (reading_of before (suc n)) (reading_of after (suc n))

-- ---- The tasks that begin to wait in a call.

-- it waits now, in another place or since another reading
abbrev pub begins : Task → Task → Bool
begins was is = waits_in is.place && (not (eqb was.place is.place) || not (eqb was.since is.since))

-- block k, or none
abbrev pub alone : Bool → ℕ → List ℕ
alone begins k = if begins then k ∷ [] else []

-- those of the blocks from 1 to n, in block order
unfoldable pub beginners : Tables → Tables → ℕ → List ℕ
beginners before after zero = []
beginners before after (suc n) = beginners before after n ++ alone (begins (task_at (read before) (suc n)) (task_at (read after) (suc n))) (suc n)

-- " 4 7"
unfoldable pub names_of : List ℕ → List ℕ
names_of [] = []
names_of (k ∷ l) = 32 ∷ (spelling k ++ names_of l)

-- the bytes of "; waiting since "
abbrev pub waiting_since : List ℕ
waiting_since = 59 ∷ 32 ∷ 119 ∷ 97 ∷ 105 ∷ 116 ∷ 105 ∷ 110 ∷ 103 ∷ 32 ∷ 115 ∷ 105 ∷ 110 ∷ 99 ∷ 101 ∷ 32 ∷ []

-- "; waiting since 17:", with 58 for the colon
abbrev pub since_of : ℕ → List ℕ
since_of reading = waiting_since ++ (spelling reading ++ 58 ∷ [])

-- "; waiting since 17: 4 7": the reading of the lowest, then all of them; nothing where there is none
unfoldable pub told_of : Tables → List ℕ → List ℕ
told_of t [] = []
told_of t (k ∷ l) = since_of (reading_of t k) ++ names_of (k ∷ l)

abbrev pub begun_of : Tables → Tables → List ℕ
begun_of before after = told_of after (beginners before after task_blocks)
