-- Document 01, 'Sizes': "Each level has a core pool of 64 units, one bit for each unit." And 'Conditions and getting ready': the start of a run.
-- Document 02, E8, puts another start in its place; the tables say which of the two rules a grant follows.
use Rattle.std.specs.Prelude.{Bool, not, ◌&&◌, ◌||◌, ℕ, ◌+◌, ◌-◌, ◌*◌, ◌^◌, eqb, leb, ltb, if◌then◌else◌}
use Rattle.words.specs.Words.{below, all_of, some_of, lowest, has}

-- the unit u is one of a run: of n units from the start a on
abbrev pub in_run : ℕ → ℕ → ℕ → Bool
in_run a n u = leb a u && ltb u (a + n)

-- n units are free from the start a on, where the units `granted` are not: they lie in the pool, and none of them is granted
unfoldable pub free_at : ℕ → ℕ → ℕ → Bool
free_at granted n a = leb (a + n) 64 && all_of (λ i. not (has granted (a + i))) (below n)

-- "no free run is long enough": or else one is, for n units. E8: "The rule for who waits is unchanged."
unfoldable pub long_enough : ℕ → ℕ → Bool  -- E8
long_enough granted n = some_of (free_at granted n) (below 64)  -- E8

-- "the lowest start at which enough are free"; 64 where there is none
unfoldable pub lowest_start : ℕ → ℕ → ℕ
lowest_start granted n = lowest (free_at granted n) 64 0

-- E8: an "unbroken free run" of m units begins at a, a hole: they are free, and before them and behind them is a used unit or the pool's end
unfoldable pub hole_at : ℕ → ℕ → ℕ → Bool
hole_at granted m a = free_at granted m a && (eqb a 0 || has granted (a - 1)) && (eqb (a + m) 64 || has granted (a + m))

-- E8: "the lowest of equals": the lowest start of a hole of m units; 64 where there is none
unfoldable pub hole_of : ℕ → ℕ → ℕ
hole_of granted m = lowest (hole_at granted m) 64 0

-- E8: "the shortest .. that is long enough": of how many units the shortest hole of n or more is; above 64 where there is none
unfoldable pub shortest : ℕ → ℕ → ℕ
shortest granted n = lowest (λ m. ltb (hole_of granted m) 64) (65 - n) n

-- E8: "The grant takes the start of the shortest unbroken free run that is long enough, the lowest of equals." 64 where there is none; no units at 0
unfoldable pub smallest_hole : ℕ → ℕ → ℕ
smallest_hole granted n = if eqb n 0 then 0 else hole_of granted (shortest granted n)

-- E8: the two rules as the tables name them: that of "the old program",
abbrev pub LowestStart : ℕ
LowestStart = 0

-- E8: and that of the request
abbrev pub SmallestHole : ℕ
SmallestHole = 1

-- E8: the start that a grant takes, by the rule `holes`
unfoldable pub start_of : ℕ → ℕ → ℕ → ℕ
start_of holes granted n = if eqb holes LowestStart then lowest_start granted n else smallest_hole granted n

-- the bits of a run, n from the start a on: granting adds them to the pool, giving back takes them from it
abbrev pub run : ℕ → ℕ → ℕ
run a n = (2 ^ n - 1) * 2 ^ a
