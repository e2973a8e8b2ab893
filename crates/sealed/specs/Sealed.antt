-- Document 01, 'Phase image': "One block of 512 bytes, numbers little-endian", and its check. What holds of every block, whatever its fields say.
use Rattle.std.specs.Prelude.{Bool, List, ◌++◌, map, ℕ, zero, suc, ◌+◌, ◌*◌, ◌%◌, length, get_or, eqb, if◌then◌else◌}
use Rattle.words.specs.Words.{below}
use Rattle.words.specs.Bytes.{number, digit}

-- "the sum of (i+1) times byte i", i from 0 to n - 1
unfoldable pub weighted : List ℕ → ℕ → ℕ
weighted b zero = 0
weighted b (suc i) = weighted b i + (i + 1) * get_or b i 0

-- "The check is 1 plus the remainder by 65,521 of the sum of (i+1) times byte i, i from 0 to 509."
unfoldable pub check_of : List ℕ → ℕ
check_of b = 1 + weighted b 510 % 65521

-- E3: "Cheaper block check": the same number for whoever makes a block; 0, which is no block's check, where the length is not 512
unfoldable pub block_check : List ℕ → ℕ
block_check b = if eqb (length b) 512 then check_of b else 0

-- "510-511 | check": a block whose check is its own
abbrev pub passes : List ℕ → Bool
passes b = eqb (number b 510 2) (check_of b)

-- the bytes 0 to 509, and the check of them, "510-511 | check"
unfoldable pub sealed : List ℕ → List ℕ
sealed body = body ++ map (digit (check_of body)) (below 2)

-- a byte is zero
abbrev pub zero_at : List ℕ → ℕ → Bool
zero_at b i = eqb (get_or b i 0) 0
