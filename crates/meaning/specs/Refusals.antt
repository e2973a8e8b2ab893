-- Document 01, 'Calls': the table of refusals, in its order, with the rows of document 02 in their places. Each row is a number and whether it applies, by itself.
use Rattle.std.specs.Prelude.{Bool, not, ◌&&◌, ◌||◌, List, [], ◌∷◌, ℕ, ◌+◌, ◌-◌, ◌^◌, length, eqb, leb, ltb}
use Rattle.words.specs.Words.{◌among◌, has, size}
use Rattle.words.specs.Rows.{Row, ◌when◌}
use Rattle.tables.specs.declared.Tables.{Tables}
use Rattle.tables.specs.Blocks.{Free}
use Rattle.tables.specs.State.{State, request_at, read}
use Rattle.calls.specs.declared.Call.{Call}
use Rattle.calls.specs.Calls.{FREEMAIN, LINK, SCHEDULE, WAIT, SIGNAL, TEST-EVENT, READ, WRITE, CHECK, TIMER, IO-DONE, OPERATOR-START, call_of, known, needs_task}
use Rattle.meaning.specs.Conditions.{undefined_in}
use Rattle.meaning.specs.Finish.{pending}
use Rattle.meaning.specs.Rules.{rules_hold}

-- "(5, 7, 35)", "(9, 10)", "(13, 14)", "(7, 8)"
abbrev pub starts : Call → Bool
starts c = c.code among (LINK ∷ SCHEDULE ∷ OPERATOR-START ∷ [])

abbrev pub tells_events : Call → Bool
tells_events c = c.code among (SIGNAL ∷ TEST-EVENT ∷ [])

abbrev pub transfers : Call → Bool
transfers c = c.code among (READ ∷ WRITE ∷ [])

abbrev pub waits : Call → Bool
waits c = c.code among (SCHEDULE ∷ WAIT ∷ [])

-- "event undefined or above 63"
abbrev pub undefined : State → ℕ → Bool
undefined s e = ltb 63 e || not (has s.directory.defined e)

-- "request block .. held by the caller": a block of its own, done or not
abbrev pub held : State → ℕ → Bool
held s r = not (eqb (request_at s r).place Free) && eqb (request_at s r).owner s.running

-- "byte count 0 or above 65,535"
abbrev pub bad_count : ℕ → Bool
bad_count n = eqb n 0 || ltb 65535 n

-- "kind not 0 to 3, or 0 for WAIT; or kind 1 with an undefined event in the set"
abbrev pub bad_kind : State → Call → Bool
bad_kind s c = ltb 3 c.kind || eqb c.code WAIT && eqb c.kind 0 || eqb c.kind 1 && undefined_in s c.events

-- the clock's end
abbrev pub clock_end : ℕ
clock_end = 2 ^ 32 - 1

-- The rows of the table that look at the call and the state, from 24 on.
-- Document 02, E4: "Refuse FREEMAIN while any of the caller's requests is queued or on the channel. Done requests don't matter, nor whether it has core.
-- Refusals: 25, directly after 11."
unfoldable pub call_rows : State → Call → List Row
call_rows s c =
    24 when (not (known c.code))
    ∷ 11 when (needs_task c.code && eqb s.running 0)
    ∷ 25 when (eqb c.code FREEMAIN && pending s s.running)  -- E4
    ∷ 12 when (starts c && leb s.directory.modules c.number)
    ∷ 19 when (tells_events c && undefined s c.number)
    ∷ 22 when (transfers c && ltb 249 c.number)
    ∷ 23 when (transfers c && bad_count c.amount || eqb c.code SIGNAL && ltb 1 c.value)
    ∷ 18 when (eqb c.code CHECK && not (held s c.number))
    ∷ 13 when (waits c && bad_kind s c)
    ∷ 14 when (waits c && eqb c.kind 1 && (eqb c.value 0 || ltb (size c.events) c.value))
    ∷ 15 when (waits c && eqb c.kind 3 && ltb clock_end (s.clock + c.amount))
    ∷ 16 when (starts c && eqb s.free_tasks 0)
    ∷ 17 when (transfers c && eqb s.free_requests 0)
    ∷ 20 when (eqb c.code IO-DONE && eqb s.channel 0)
    ∷ 21 when (eqb c.code TIMER && eqb s.clock clock_end)
    ∷ []

-- The table, whole: "9 | the tables handed in break the table rules below", "10 | not 16 bytes", and the rest.
unfoldable pub refusals : Tables → List ℕ → List Row
refusals t bytes =
    9 when (not (rules_hold t)) ∷ 10 when (not (eqb (length bytes) 16)) ∷ call_rows (read t) (call_of bytes)
