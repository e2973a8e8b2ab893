-- Ranges of events, as docs/WORDS.md has them.
use Rattle.std.specs.Prelude.{ℕ, zero, suc, leb, if◌then◌else◌}
use Rattle.words.specs.Words.{adding}

-- the set with the events from `first` to n - 1 put into it
unfoldable pub ranged : ℕ → ℕ → ℕ → ℕ
ranged set first zero = set
ranged set first (suc n) = let before = ranged set first n in if leb first n then adding before n else before
