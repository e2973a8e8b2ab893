-- The words that the meaning is written in, at numbers that can be checked by hand: bytes, sets, pools and queues, each line as in 'Either side of the line'.
use Rattle.std.specs.Prelude.{Bool, List, [], ◌∷◌, ◌++◌, ℕ, ◌+◌, ◌-◌, ◌^◌, get_or, replicate, set, if◌then◌else◌}
use Rattle.words.specs.Words.{has, adding, dropping, size, least, inserted_by}
use Rattle.words.specs.Bytes.{number, digit}
use Rattle.threads.specs.declared.Threads.{Threads}
use Rattle.threads.specs.Threads.{threaded, walk, hd, lst, without, insert_before, queues_of, queue_in}
use Rattle.pools.specs.Pools.{LowestStart, SmallestHole, start_of, run}
use Rattle.marked.specs.Marked.{Line, unmarked, value}

-- 1 for true
abbrev pub truth : Bool → ℕ
truth b = if b then 1 else 0

unfoldable pub byte_lines : List Line
byte_lines =
    unmarked (value 770) (value (number (1 ∷ 2 ∷ 3 ∷ []) 1 2))
    ∷ unmarked (value 3) (value (digit 770 1))
    ∷ []

-- sets of events, and of blocks: a number from 64 on is in neither
unfoldable pub set_lines : List Line
set_lines =
    unmarked (value 3) (value (size 7))
    ∷ unmarked (1 ∷ 0 ∷ []) (truth (has 5 2) ∷ truth (has 5 64) ∷ [])
    ∷ unmarked (value 9223372036854775813) (value (adding 5 63))
    ∷ unmarked (5 ∷ 5 ∷ []) (dropping 9223372036854775813 63 ∷ dropping 5 200 ∷ [])
    ∷ unmarked (2 ∷ 32 ∷ []) (least 12 ∷ least 0 ∷ [])
    ∷ unmarked (1 ∷ 0 ∷ []) (truth (has 12 3) ∷ truth (has 12 32) ∷ [])
    ∷ unmarked (value 2147483660) (value (adding 12 31))
    ∷ unmarked (12 ∷ 12 ∷ []) (dropping 2147483660 31 ∷ dropping 12 32 ∷ [])
    ∷ []

-- By the lowest start. 60 units are free in one run; 63 are, and no 60 of them in one run; none asked, all asked, more asked than there are
unfoldable pub pool_lines : List Line
pool_lines =
    unmarked (0 ∷ 64 ∷ []) (start_of LowestStart (run 60 4) 60 ∷ start_of LowestStart (run 60 4) 61 ∷ [])
    ∷ unmarked (value 64) (value (start_of LowestStart (run 30 1) 60))
    ∷ unmarked (0 ∷ 0 ∷ 64 ∷ []) (start_of LowestStart 0 0 ∷ start_of LowestStart 0 64 ∷ start_of LowestStart 0 65 ∷ [])
    ∷ unmarked (18446744073709551615 ∷ 0 ∷ []) (run 0 64 ∷ run 64 0 ∷ [])
    ∷ []

-- 40 units are granted, then 20; 24 more have to wait. The 40 are given back, and the 24 are granted at the start 0.
unfoldable pub grant_lines : List Line
grant_lines =
    unmarked (value 1099511627775) (value (run (start_of LowestStart 0 40) 40))
    ∷ unmarked (value 1152921504606846975) (value (1099511627775 + run (start_of LowestStart 1099511627775 20) 20))
    ∷ unmarked (value 64) (value (start_of LowestStart 1152921504606846975 24))
    ∷ unmarked (value 1152920405095219200) (value (1152921504606846975 - run 0 40))
    ∷ unmarked (value 1152920405111996415) (value (1152920405095219200 + run (start_of LowestStart 1152920405095219200 24) 24))
    ∷ []

-- E8: where a grant takes so many units, by the smallest hole and by the lowest start
abbrev pub by_both : ℕ → ℕ → List ℕ
by_both granted n = start_of SmallestHole granted n ∷ start_of LowestStart granted n ∷ []

-- all is granted but for the units of these runs
abbrev pub but_for : ℕ → ℕ
but_for free = 2 ^ 64 - 1 - free

-- E8: holes of 10 at 3 and of 7 at 20: 7 units go into that of 7, 8 into that of 10, 11 nowhere. Of two holes of 7, and one of 9 below them, the lower of the two; one at
-- each end of the pool; the empty pool is one hole, and of a full one nothing is to be had but no units
unfoldable pub hole_lines : List Line
hole_lines =
    unmarked (20 ∷ 3 ∷ []) (by_both (but_for (run 3 10 + run 20 7)) 7)
    ∷ unmarked (3 ∷ 3 ∷ []) (by_both (but_for (run 3 10 + run 20 7)) 8)
    ∷ unmarked (64 ∷ 64 ∷ []) (by_both (but_for (run 3 10 + run 20 7)) 11)
    ∷ unmarked (20 ∷ 2 ∷ []) (by_both (but_for (run 2 9 + run 20 7 + run 40 7)) 5)
    ∷ unmarked (61 ∷ 0 ∷ []) (by_both (but_for (run 0 4 + run 61 3)) 3)
    ∷ unmarked (0 ∷ 0 ∷ []) (by_both (but_for (run 0 3 + run 61 3)) 3)
    ∷ unmarked (0 ∷ 0 ∷ []) (by_both 0 64)
    ∷ unmarked (0 ∷ 0 ∷ []) (by_both 0 1)
    ∷ unmarked (64 ∷ 64 ∷ []) (by_both 0 65)
    ∷ unmarked (64 ∷ 64 ∷ []) (by_both (but_for 0) 1)
    ∷ unmarked (0 ∷ 0 ∷ []) (by_both (but_for 0) 0)
    ∷ []

-- ---- The queue 7, and no other block anywhere: the pointers of a list, walked forward and back.

abbrev pub in_seven : List ℕ → Threads
in_seven l = threaded (replicate 7 [] ++ l ∷ [] ∷ [])

-- 0 between the two ways
abbrev pub both_ways : List ℕ → List ℕ
both_ways l = walk (in_seven l).fwd 41 (hd l) ++ 0 ∷ walk (in_seven l).back 41 (lst 0 l)

-- the keys of the blocks 1, 2, 9, 25 and 40; all others have 0
abbrev pub keys : ℕ → ℕ
keys y = get_or (set (set (set (set (set (replicate 41 0) 1 10) 2 20) 9 20) 25 20) 40 10) y 0

-- a block at the end, at the front, before another, taken out, and in by its key: between, last, first
unfoldable pub queue_lines : List Line
queue_lines =
    unmarked (0 ∷ []) (both_ways [])
    ∷ unmarked (5 ∷ 25 ∷ 0 ∷ 25 ∷ 5 ∷ []) (both_ways ((5 ∷ []) ++ 25 ∷ []))
    ∷ unmarked (40 ∷ 5 ∷ 25 ∷ 0 ∷ 25 ∷ 5 ∷ 40 ∷ []) (both_ways (40 ∷ 5 ∷ 25 ∷ []))
    ∷ unmarked (40 ∷ 5 ∷ 9 ∷ 25 ∷ 0 ∷ 25 ∷ 9 ∷ 5 ∷ 40 ∷ []) (both_ways (insert_before 25 9 (40 ∷ 5 ∷ 25 ∷ [])))
    ∷ unmarked (40 ∷ 9 ∷ 25 ∷ 0 ∷ 25 ∷ 9 ∷ 40 ∷ []) (both_ways (without 5 (40 ∷ 5 ∷ 9 ∷ 25 ∷ [])))
    ∷ unmarked (40 ∷ 1 ∷ 9 ∷ 25 ∷ []) (inserted_by keys 1 (40 ∷ 9 ∷ 25 ∷ []))
    ∷ unmarked (40 ∷ 1 ∷ 9 ∷ 25 ∷ 2 ∷ []) (inserted_by keys 2 (40 ∷ 1 ∷ 9 ∷ 25 ∷ []))
    ∷ unmarked (3 ∷ 40 ∷ 1 ∷ 9 ∷ 25 ∷ 2 ∷ []) (inserted_by keys 3 (40 ∷ 1 ∷ 9 ∷ 25 ∷ 2 ∷ []))
    ∷ unmarked (3 ∷ 40 ∷ 1 ∷ []) (queue_in (queues_of (in_seven (3 ∷ 40 ∷ 1 ∷ []))) 7)
    ∷ []

-- The one list.
unfoldable pub worked : List Line
worked = byte_lines ++ set_lines ++ pool_lines ++ grant_lines ++ hole_lines ++ queue_lines
