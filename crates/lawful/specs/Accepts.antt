-- ==== Inside: words for contracts below the public face. What the executive, its library and the demands claim does not rest on them.
-- What the table of refusals leaves of a call that is accepted: what each row, where it does not apply, says of the call and the state.
use Rattle.std.specs.Prelude.{true, false, ◌≡◌, ◌≢◌, ◌+◌, ◌≤◌, ◌<◌}
use Rattle.std.specs.Int.Bits.{bit_and}
use Rattle.words.specs.Words.{size}
use Rattle.tables.specs.State.{State, request_at}
use Rattle.calls.specs.declared.Call.{Call}
use Rattle.calls.specs.Calls.{FREEMAIN, CHECK, TIMER, IO-DONE, known, needs_task}
use Rattle.meaning.specs.Finish.{pending}
use Rattle.meaning.specs.Refusals.{starts, tells_events, transfers, waits, clock_end}
use Rattle.words.specs.Counting.{bit}
use Rattle.tables.specs.Blocks.{request_blocks}

-- 13, 14 and 15, of a call with a condition
pub record Condition (s : State) (c : Call) : Type 0 where
  pub kind : c.kind ≤ 3
  pub set : c.kind ≡ 1 → (bit_and c.events s.directory.defined ≡ c.events) × (1 ≤ c.value) × (c.value ≤ size c.events)
  pub time : c.kind ≡ 3 → s.clock + c.amount ≤ clock_end

-- 24, 11, 25, 12, 16, 19, 13 to 15, 22, 23, 17, 18, 20, 21
pub record Accepts (s : State) (c : Call) : Type 0 where
  pub known : known c.code ≡ true
  pub running : needs_task c.code ≡ true → s.running ≢ 0
  pub quiet : c.code ≡ FREEMAIN → pending s s.running ≡ false
  pub program : starts c ≡ true → c.number < s.directory.modules
  pub block : starts c ≡ true → s.free_tasks ≢ 0
  pub event : tells_events c ≡ true → (c.number ≤ 63) × (bit s.directory.defined c.number ≡ 1)
  pub condition : waits c ≡ true → Condition s c
  pub device : transfers c ≡ true → c.number ≤ 249
  pub bytes : transfers c ≡ true → (1 ≤ c.amount) × (c.amount ≤ 65535)
  pub free_requests : transfers c ≡ true → s.free_requests ≢ 0
  pub held : c.code ≡ CHECK → (1 ≤ c.number) × (c.number ≤ request_blocks) × ((request_at s c.number).place ≢ 0) × ((request_at s c.number).owner ≡ s.running)
  pub channel : c.code ≡ IO-DONE → s.channel ≢ 0
  pub clock : c.code ≡ TIMER → s.clock ≢ clock_end
