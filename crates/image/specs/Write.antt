-- Document 01, 'Phase image': writing. "Writing takes a directory and a lent buffer."
use Rattle.std.specs.Prelude.{not, List, ◌∷◌, map, ℕ, ◌-◌, ◌/◌, ◌%◌, ◌<◌, length, eqb, ltb, if◌then◌else◌}
use Rattle.words.specs.Words.{below}
use Rattle.words.specs.Bytes.{digit}
use Rattle.words.specs.Rows.{Row, ◌when◌, first_of}
use Rattle.sealed.specs.Sealed.{sealed}
use Rattle.image.specs.declared.Entry.{Entry}
use Rattle.image.specs.declared.Directory.{Directory}
use Rattle.answers.specs.Answer.{Outcome, outcome_of}
use Rattle.image.specs.Directory.{entry_at, directory_rows}

-- "level, core units .., flags .., zero, entry point in 4 bytes": byte j of an entry
unfoldable pub entry_byte : Entry → ℕ → ℕ
entry_byte e j =
    if eqb j 0 then e.level
    else if eqb j 1 then e.units
    else if eqb j 2 then e.flags
    else if eqb j 3 then 0
    else digit e.point (j - 4)

-- byte i of a directory's image, by the table of bytes
unfoldable pub byte_of : Directory → ℕ → ℕ
byte_of d i =
    if eqb i 0 then 1
    else if eqb i 1 then d.modules
    else if eqb i 2 then d.every
    else if ltb i 8 then 0
    else if ltb i 16 then digit d.defined (i - 8)
    else if ltb i 272 then entry_byte (entry_at d ((i - 16) / 8)) ((i - 16) % 8)
    else 0

-- the bytes 0 to 509, and the check of them, "510-511 | check"
unfoldable pub body_of : Directory → List ℕ
body_of d = map (byte_of d) (below 510)

unfoldable pub image_of : Directory → List ℕ
image_of d = sealed (body_of d)

-- "It refuses by 1, 4, 5, 6, 7 in that order"
unfoldable pub write_rows : Directory → List ℕ → List Row
write_rows d buffer = 1 when (not (eqb (length buffer) 512)) ∷ directory_rows d

-- What writing gives: the answer, and the buffer as it is left.
pub record Written : Type 0 where
  pub outcome : Outcome
  pub buffer : List ℕ

-- "and then writes nothing; the result is 1 if accepted, else 0"
unfoldable pub write_of : Directory → List ℕ → Written
write_of d buffer =
    let n = first_of (write_rows d buffer) in
    if eqb n 0 then record { outcome = outcome_of 0 1; buffer = image_of d }
    else record { outcome = outcome_of n 0; buffer = buffer }

-- ==== Inside: words for contracts below the public face. What the executive, its library and the demands claim does not rest on them.

-- the fields that have one byte in an image fit one, as those of a directory that passes do
pub record Small (d : Directory) : Type 0 where
  pub modules : d.modules < 256
  pub every : d.every < 256
  pub flags : (m : ℕ) → m < 32 → (entry_at d m).flags < 256
