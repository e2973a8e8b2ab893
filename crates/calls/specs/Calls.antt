-- Document 01, 'Calls': the bytes of a call, the codes, the answer.
use Rattle.std.specs.Prelude.{Bool, ◌||◌, List, [], ◌∷◌, ℕ, length, get_or, eqb, if◌then◌else◌, Result, Ok, Err}
use Rattle.words.specs.Words.{◌among◌}
use Rattle.words.specs.Bytes.{number}
use Rattle.answers.specs.declared.Refusal.{Refusal}
use Rattle.answers.specs.declared.Refusal.TheVariants.{CallLength}
use Rattle.answers.specs.Answer.{Outcome, refusal_of, result_of, refused_by}
use Rattle.calls.specs.declared.Call.{Call}
use Rattle.calls.specs.declared.codes.Status.{Status}
use Rattle.calls.specs.declared.codes.Status.TheVariants.{Unknown, Known, NeedsTask}

-- "code, kind, number, value, a 4-byte amount, an 8-byte event set, little-endian"
unfoldable pub call_of : List ℕ → Call
call_of b =
    record { code = get_or b 0 0; kind = get_or b 1 0; number = get_or b 2 0; value = get_or b 3 0; amount = number b 4 4; events = number b 8 8 }

-- "Service calls need a running task: 1 FREEMAIN, 5 LINK, 6 END, 7 SCHEDULE, 8 WAIT, 9 SIGNAL, 10 TEST EVENT, 12 DISPATCH CHECK, 13 READ,
-- 14 WRITE, 15 CHECK."
abbrev pub FREEMAIN : ℕ
FREEMAIN = 1

abbrev pub LINK : ℕ
LINK = 5

abbrev pub END : ℕ
END = 6

abbrev pub SCHEDULE : ℕ
SCHEDULE = 7

abbrev pub WAIT : ℕ
WAIT = 8

abbrev pub SIGNAL : ℕ
SIGNAL = 9

abbrev pub TEST-EVENT : ℕ
TEST-EVENT = 10

abbrev pub DISPATCH-CHECK : ℕ
DISPATCH-CHECK = 12

abbrev pub READ : ℕ
READ = 13

abbrev pub WRITE : ℕ
WRITE = 14

abbrev pub CHECK : ℕ
CHECK = 15

abbrev pub services : List ℕ
services = FREEMAIN ∷ LINK ∷ END ∷ SCHEDULE ∷ WAIT ∷ SIGNAL ∷ TEST-EVENT ∷ DISPATCH-CHECK ∷ READ ∷ WRITE ∷ CHECK ∷ []

-- "Interrupts: 32 timer, 33 I/O done, 34 program check (needs a running task), 35 operator start."
abbrev pub TIMER : ℕ
TIMER = 32

abbrev pub IO-DONE : ℕ
IO-DONE = 33

abbrev pub PROGRAM-CHECK : ℕ
PROGRAM-CHECK = 34

abbrev pub OPERATOR-START : ℕ
OPERATOR-START = 35

abbrev pub interrupts : List ℕ
interrupts = TIMER ∷ IO-DONE ∷ PROGRAM-CHECK ∷ OPERATOR-START ∷ []

-- "A fixed table over the codes 0 to 35 says whether a code is known and whether it needs a running task."
unfoldable pub known : ℕ → Bool
known code = code among services || code among interrupts

unfoldable pub needs_task : ℕ → Bool
needs_task code = code among services || eqb code PROGRAM-CHECK

-- "An answer has three numbers: refusal (0 if accepted), result, running task afterwards (0 if idle)." A refused call "names the running task unchanged
-- (0 with refusal 9)".
unfoldable pub numbers : Outcome → ℕ → List ℕ
numbers o running = refusal_of o ∷ result_of o ∷ (if eqb (refusal_of o) 9 then 0 else running) ∷ []

-- ==== Inside: words for contracts below the public face. What the executive, its library and the demands claim does not rest on them.

-- the number by which what arrived is refused, 0 for a call
abbrev pub cut_by : Result Call Refusal → ℕ
cut_by = refused_by

-- "A call arrives as exactly 16 bytes"; "10 | not 16 bytes"
unfoldable pub arrival : List ℕ → Result Call Refusal
arrival b = if eqb (length b) 16 then Ok (call_of b) else Err CallLength

-- "A const array of 36 entries says known or unknown and whether a running task is needed"
unfoldable pub code_entry : ℕ → Status
code_entry code = if needs_task code then NeedsTask else if known code then Known else Unknown
