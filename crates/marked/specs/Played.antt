-- Calls played from tables: the bytes of a call, and the lines that a sequence of calls gives.
use Rattle.std.specs.Prelude.{List, [], ◌∷◌, ◌++◌, map, ℕ, ◌-◌, length, replicate}
use Rattle.words.specs.Words.{below}
use Rattle.words.specs.Bytes.{digit}
use Rattle.image.specs.declared.Entry.{Entry}
use Rattle.image.specs.declared.Directory.{Directory}
use Rattle.image.specs.Directory.{no_entry}
use Rattle.tables.specs.declared.Tables.{Tables}
use Rattle.meaning.specs.Step.{step_of, line_of}

-- "code, kind, number, value, a 4-byte amount, an 8-byte event set, little-endian"
unfoldable pub call : ℕ → ℕ → ℕ → ℕ → ℕ → ℕ → List ℕ
call c k n v a e = c ∷ k ∷ n ∷ v ∷ map (digit a) (below 4) ++ map (digit e) (below 8)

-- the lines of the calls, one each
unfoldable pub lines : Tables → List (List ℕ) → List (List ℕ)
lines t [] = []
lines t (b ∷ l) = let r = step_of t b in line_of r ∷ lines r.tables l

-- a directory: N, the defined events, the modules' levels and units
unfoldable pub directory : ℕ → ℕ → List Entry → Directory
directory n events l =
    record { modules = length l; every = n; defined = events; entries = l ++ replicate (32 - length l) no_entry }

abbrev pub level_units : ℕ → ℕ → Entry
level_units l u = record { level = l; units = u; flags = 0; point = 0 }

-- ---- Calls by their names.

abbrev pub start : ℕ → List ℕ
start m = call 35 0 m 0 0 0

abbrev pub schedule : ℕ → List ℕ
schedule m = call 7 0 m 0 0 0

abbrev pub schedule_on : ℕ → ℕ → ℕ → List ℕ
schedule_on m count events = call 7 1 m count 0 events

-- WAIT until `count` events of the set are on, until a time, for an interval
abbrev pub wait_for : ℕ → ℕ → List ℕ
wait_for count events = call 8 1 0 count 0 events

abbrev pub wait_until : ℕ → List ℕ
wait_until time = call 8 2 0 0 time 0

abbrev pub wait_further : ℕ → List ℕ
wait_further interval = call 8 3 0 0 interval 0

abbrev pub signal_on : ℕ → List ℕ
signal_on e = call 9 0 e 1 0 0

abbrev pub test_event : ℕ → List ℕ
test_event e = call 10 0 e 0 0 0

abbrev pub end : List ℕ
end = call 6 0 0 0 0 0

abbrev pub dispatch_check : List ℕ
dispatch_check = call 12 0 0 0 0 0

abbrev pub read_from : ℕ → ℕ → List ℕ
read_from device bytes = call 13 0 device 0 bytes 0

abbrev pub check : ℕ → List ℕ
check r = call 15 0 r 0 0 0

abbrev pub timer : List ℕ
timer = call 32 0 0 0 0 0

abbrev pub io_done : List ℕ
io_done = call 33 0 0 0 0 0
