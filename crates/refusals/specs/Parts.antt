-- The table of refusals in five parts, cut before the rows 12, 22, 13 and 16. A row that comes in between belongs to the part that it falls in.
use Rattle.std.specs.Prelude.{List, [], ◌∷◌, ℕ, eqb, if◌then◌else◌}
use Rattle.words.specs.Rows.{Row}
use Rattle.tables.specs.State.{State}
use Rattle.calls.specs.declared.Call.{Call}
use Rattle.meaning.specs.Refusals.{call_rows}

-- the rows before the one numbered n, and those from it on
unfoldable pub rows_to : ℕ → List Row → List Row
rows_to n [] = []
rows_to n (r ∷ l) = if eqb r.number n then [] else r ∷ rows_to n l

unfoldable pub rows_from : ℕ → List Row → List Row
rows_from n [] = []
rows_from n (r ∷ l) = if eqb r.number n then r ∷ l else rows_from n l

-- the code and its caller
abbrev pub code_rows : State → Call → List Row
code_rows s c = rows_to 12 (call_rows s c)

-- what the call names: module or event
abbrev pub named_rows : State → Call → List Row
named_rows s c = rows_to 22 (rows_from 12 (call_rows s c))

-- what it carries: device, byte count and value, request block
abbrev pub carried_rows : State → Call → List Row
carried_rows s c = rows_to 13 (rows_from 22 (call_rows s c))

-- its condition
abbrev pub condition_rows : State → Call → List Row
condition_rows s c = rows_to 16 (rows_from 13 (call_rows s c))

-- what the tables still have: free blocks, a request on the channel, time
abbrev pub room_rows : State → Call → List Row
room_rows s c = rows_from 16 (call_rows s c)
