-- Document 01, 'Conditions and getting ready', first paragraph: conditions, and waiting for one.
use Rattle.std.specs.Prelude.{Bool, true, not, ℕ, ◌+◌, eqb, leb, if◌then◌else◌}
use Rattle.std.specs.Int.Bits.{bit_and}
use Rattle.words.specs.Words.{inserted_by, size}
use Rattle.tables.specs.Blocks.{awaiting_events, awaiting_time}
use Rattle.tables.specs.State.{State, event_queue, time_queue, with_task, with_queue, task_at, queue, joining}
use Rattle.calls.specs.declared.Call.{Call}

-- "an undefined event in the set"
unfoldable pub undefined_in : State → ℕ → Bool
undefined_in s set = not (eqb (bit_and set s.directory.defined) set)

-- "at least `value` events of the set are on"
unfoldable pub enough : State → ℕ → ℕ → Bool
enough s count events = leb count (size (bit_and events s.on))

-- the clock reading of kinds 2 and 3: "Kind 3 is kind 2 at clock plus amount."
unfoldable pub due_of : State → Call → ℕ
due_of s c = if eqb c.kind 2 then c.amount else s.clock + c.amount

-- "Kind 0 holds at once (LINK and start always use it). Kind 1 holds if at least `value` events of the set are on. Kind 2 holds if the amount
-- is at most the clock. Kind 3 is kind 2 at clock plus amount."
unfoldable pub holds : State → Call → Bool
holds s c =
    if eqb c.kind 0 then true else if eqb c.kind 1 then enough s c.value c.events else leb (due_of s c) s.clock

-- "Otherwise the task joins the event queue, by arrival,"
unfoldable pub awaits_events : State → ℕ → Call → State
awaits_events s k c = joining (with_task s k (awaiting_events s.clock (task_at s k) c.value c.events)) event_queue k

-- "or the time queue, by time and then arrival."
unfoldable pub in_time : State → ℕ → State
in_time s k = with_queue s time_queue (inserted_by (λ a. (task_at s a).time) k (queue s time_queue))

unfoldable pub awaits_time : State → ℕ → Call → State
awaits_time s k c = in_time (with_task s k (awaiting_time s.clock (task_at s k) (due_of s c))) k

unfoldable pub waiting : State → ℕ → Call → State
waiting s k c = if eqb c.kind 1 then awaits_events s k c else awaits_time s k c
