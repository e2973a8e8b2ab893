-- Document 01, 'Either side of the line': every line as one row of one list. "P1 to P12 stand as a single list with a single proved statement".
use Rattle.std.specs.Prelude.{◌≡◌, List, [], ◌∷◌, ◌++◌, map, ℕ, take, replicate}
use Rattle.sealed.specs.Sealed.{check_of}
use Rattle.pools.specs.Pools.{SmallestHole}
use Rattle.tables.specs.State.{State, with_clock, loaded, tabled}
use Rattle.calls.specs.Calls.{call_of}
use Rattle.meaning.specs.Ready.{dispatched}
use Rattle.meaning.specs.Services.{effect}
use Rattle.meaning.specs.Step.{load_line}
use Rattle.marked.specs.Played.{lines, directory, level_units, start, wait_for, wait_until, wait_further, signal_on, end, read_from, check, timer}
use Rattle.marked.specs.Session.{session_image}

-- A line: its mark, 0 for one without; what the paper says; what the definitions give.
pub record Line : Type 0 where
  pub mark : ℕ
  pub said : List ℕ
  pub given : List ℕ

-- P 3 says: this answer, of what these calls give
abbrev pub P : ℕ → List ℕ → List ℕ → Line
P mark said given = record { mark = mark; said = said; given = given }

abbrev pub unmarked : List ℕ → List ℕ → Line
unmarked said given = P 0 said given

-- the three numbers of an answer, and one number
abbrev pub answer : ℕ → ℕ → ℕ → List ℕ
answer refusal result running = refusal ∷ result ∷ running ∷ []

abbrev pub value : ℕ → List ℕ
value n = n ∷ []

-- the last line that the calls give, from a state
unfoldable pub last_of : List (List ℕ) → List ℕ
last_of [] = []
last_of (a ∷ []) = a
last_of (a ∷ b ∷ l) = last_of (b ∷ l)

abbrev pub after : State → List (List ℕ) → List ℕ
after s l = last_of (lines (tabled s) l)

-- n calls alike
abbrev pub times : ℕ → List ℕ → List (List ℕ)
times n c = replicate n c

-- N 2, events 0 to 2; modules 0 (1, 4), 1 (1, 60), 2 (1, 61), 3 (1, 0)
unfoldable pub plant : State
plant = loaded SmallestHole (directory 2 7 (level_units 1 4 ∷ level_units 1 60 ∷ level_units 1 61 ∷ level_units 1 0 ∷ []))

-- "With all 510 bytes zero it is 1; with only byte 509 at 255 it is 64,530."
unfoldable pub check_lines : List Line
check_lines =
    unmarked (value 1) (value (check_of (replicate 510 0)))
    ∷ unmarked (value 64530) (value (check_of (replicate 509 0 ++ 255 ∷ [])))
    ∷ []

-- "P1 image of 511 bytes: 1. P2 512 zero bytes: 2, since 0 isn't 1."
unfoldable pub image_lines : List Line
image_lines =
    P 1 (answer 1 0 0) (load_line (take 511 session_image))
    ∷ P 2 (answer 2 0 0) (load_line (replicate 512 0))
    ∷ []

-- "P3 60 units free in one run, 60 asked: granted; P4 61: waits."
unfoldable pub core_lines : List Line
core_lines =
    P 3 (answer 0 1 2) (after plant (start 0 ∷ start 1 ∷ wait_for 1 1 ∷ []))
    ∷ P 4 (answer 0 1 0) (after plant (start 0 ∷ start 2 ∷ wait_for 1 1 ∷ []))
    ∷ []

-- "P5 set 7, count 2, events 0 and 2 on: holds; P6 only 2 on: waits. P7 empty set, count 0 or 1: 14."
unfoldable pub event_lines : List Line
event_lines =
    P 5 (answer 0 1 1) (after plant (start 3 ∷ signal_on 0 ∷ signal_on 2 ∷ wait_for 2 7 ∷ []))
    ∷ P 6 (answer 0 1 0) (after plant (start 3 ∷ signal_on 2 ∷ wait_for 2 7 ∷ []))
    ∷ P 7 (answer 14 0 1) (after plant (start 3 ∷ wait_for 0 0 ∷ []))
    ∷ P 7 (answer 14 0 1) (after plant (start 3 ∷ wait_for 1 0 ∷ []))
    ∷ []

-- "P8 interval 4,294,967,295 at clock 0: accepted; P9 at clock 1: 15."
unfoldable pub interval_lines : List Line
interval_lines =
    P 8 (answer 0 1 0) (after plant (start 3 ∷ wait_further 4294967295 ∷ []))
    ∷ P 9 (answer 15 0 1) (after plant (start 3 ∷ timer ∷ wait_further 4294967295 ∷ []))
    ∷ []

-- "P10 N 2, waiting until 7: ready at 8. Unmarked: with N 2 a task due at 4,294,967,295 is never woken."
unfoldable pub time_lines : List Line
time_lines =
    P 10 (answer 0 1 0) (after plant (start 3 ∷ wait_until 7 ∷ times 7 timer))
    ∷ P 10 (answer 0 1 1) (after plant (start 3 ∷ wait_until 7 ∷ times 8 timer))
    ∷ unmarked (answer 0 1 0) (after (with_clock plant 4294967293) (start 3 ∷ wait_until 4294967295 ∷ times 2 timer))
    ∷ unmarked (answer 21 0 0) (after (with_clock plant 4294967293) (start 3 ∷ wait_until 4294967295 ∷ times 3 timer))
    ∷ []

-- "P11 CHECK of a free block or another's: 18. P12 timer at the clock's end: 21."
unfoldable pub refusal_lines : List Line
refusal_lines =
    P 11 (answer 18 0 1) (after plant (start 3 ∷ check 1 ∷ []))
    ∷ P 11 (answer 18 0 2) (after plant (start 3 ∷ start 3 ∷ read_from 7 4 ∷ wait_for 1 1 ∷ check 1 ∷ []))
    ∷ P 12 (answer 21 0 0) (after (with_clock plant 4294967295) (timer ∷ []))
    ∷ []

-- the state that calls leave, where each is accepted
unfoldable pub ran : List (List ℕ) → State → State
ran [] s = s
ran (b ∷ l) s = ran l (dispatched (effect s (call_of b)).state)

-- "The 25th task: 16; after one END that finishes, accepted."
unfoldable pub full_lines : List Line
full_lines =
    unmarked (answer 16 0 1) (after (ran (times 24 (start 3)) plant) (start 3 ∷ []))
    ∷ unmarked (answer 0 1 2) (after (ran (times 24 (start 3)) plant) (end ∷ start 3 ∷ []))
    ∷ []

-- The one list.
unfoldable pub marked : List Line
marked = check_lines ++ image_lines ++ core_lines ++ event_lines ++ interval_lines ++ time_lines ++ refusal_lines ++ full_lines

-- What is stated of it: each line is as the paper has it.
pub record Agrees (l : List Line) : Type 0 where
  pub same : map (λ (x : Line). x.given) l ≡ map (λ (x : Line). x.said) l
