-- Document 01, 'Phase image': "One block of 512 bytes, numbers little-endian". The bytes of it that no field has.
use Rattle.std.specs.Prelude.{Bool, ◌&&◌, List, ℕ, ◌+◌, ◌*◌}
use Rattle.words.specs.Words.{below, all_of}
use Rattle.sealed.specs.Sealed.{zero_at}

-- "3-7 | zero", the fourth byte of each entry, "level, core units 0 to 64, flags .., zero", and "272-509 | zero"
unfoldable pub fillers_zero : List ℕ → Bool
fillers_zero b =
    all_of (λ i. zero_at b (3 + 1 * i)) (below 5) && all_of (λ i. zero_at b (19 + 8 * i)) (below 32)
    && all_of (λ i. zero_at b (272 + 1 * i)) (below 238)
