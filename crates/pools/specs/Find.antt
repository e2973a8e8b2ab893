-- ==== Inside: words for contracts below the public face. What the executive, its library and the demands claim does not rest on them.
-- Document 01, 'Conditions and getting ready': "no free run is long enough; otherwise it gets the units from" a start, by the rule that the tables name.
use Rattle.std.specs.Prelude.{ℕ, ltb, if◌then◌else◌, Option, Some, None}
use Rattle.std.specs.Int.Count.{count_trailing_zeros}
use Rattle.pools.specs.Pools.{start_of}

-- the start that was found; 64 for nowhere
abbrev pub start_in : Option ℕ → ℕ
start_in (Some a) = a
start_in None = 64

-- what is found at this start
abbrev pub found_at : ℕ → Option ℕ
found_at start = if ltb start 64 then Some start else None

-- the lowest of a set of starts
abbrev pub found_in : ℕ → Option ℕ
found_in starts = found_at (count_trailing_zeros 64 starts)

-- where a grant takes n units, by the rule; no units at the start 0, more than 64 nowhere
unfoldable pub found_of : ℕ → ℕ → ℕ → Option ℕ
found_of holes granted n = found_at (start_of holes granted n)
