-- Document 01, 'Phase image': loading.
use Rattle.std.specs.Prelude.{not, List, [], ◌∷◌, ◌++◌, map, ℕ, ◌+◌, ◌*◌, length, get_or, eqb, if◌then◌else◌, Result, Ok, Err}
use Rattle.words.specs.Words.{below}
use Rattle.words.specs.Bytes.{number}
use Rattle.words.specs.Rows.{Row, ◌when◌, first_of}
use Rattle.sealed.specs.Sealed.{passes}
use Rattle.image.specs.declared.Entry.{Entry}
use Rattle.image.specs.declared.Directory.{Directory}
use Rattle.answers.specs.declared.Refusal.{Refusal}
use Rattle.answers.specs.Answer.{Outcome, Refused, Accepted, outcome_of, number as refused_number}
use Rattle.image.specs.Block.{fillers_zero}
use Rattle.image.specs.Directory.{no_directory, directory_rows}

-- "16-271 | 32 entries of 8: level, core units .., flags .., zero, entry point in 4 bytes": the entry of module m
unfoldable pub entry_from : List ℕ → ℕ → Entry
entry_from b m =
    let at = 16 + 8 * m in
    record { level = get_or b at 0; units = get_or b (at + 1) 0; flags = get_or b (at + 2) 0; point = number b (at + 4) 4 }

-- "1 | M", "2 | N", "8-15 | defined events", "16-271 | 32 entries"
unfoldable pub directory_of : List ℕ → Directory
directory_of b =
    record { modules = get_or b 1 0; every = get_or b 2 0; defined = number b 8 8; entries = map (entry_from b) (below 32) }

-- "Load refusals: 1 length not 512; 2 check; 3 form;"
unfoldable pub block_rows : List ℕ → List Row
block_rows b =
    1 when (not (eqb (length b) 512)) ∷ 2 when (not (passes b)) ∷ 3 when (not (eqb (get_or b 0 0) 1)) ∷ []

-- "4 M; 5 N; 6 a used entry with a bad level, units or flags; 7 a byte that has to be zero isn't": in an unused entry, or where no field is
unfoldable pub load_rows : List ℕ → List Row
load_rows b = block_rows b ++ (directory_rows (directory_of b) ++ 7 when (not (fillers_zero b)) ∷ [])

-- What loading gives: the answer, its result M; and the directory, all zero where the image is refused.
pub record Loaded : Type 0 where
  pub outcome : Outcome
  pub directory : Directory

-- "The lowest that applies is given, with all-zero tables"
unfoldable pub refused_load : ℕ → Loaded
refused_load n = record { outcome = outcome_of n 0; directory = no_directory }

-- the load's line says "refusal, M or 0"
unfoldable pub load_of : List ℕ → Loaded
load_of b =
    let n = first_of (load_rows b) in
    if eqb n 0 then record { outcome = outcome_of 0 (directory_of b).modules; directory = directory_of b }
    else refused_load n

-- what a result of the source gives
abbrev pub loaded : Result Directory Refusal → Loaded
loaded (Ok d) = record { outcome = Accepted d.modules; directory = d }
loaded (Err e) = record { outcome = Refused (refused_number e); directory = no_directory }
