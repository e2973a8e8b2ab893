-- How the clock goes on: of all calls the timer alone changes it, by 1; so over any calls it goes on by the cycles. By the definitions of the timer and of a step.
use mathlib.Core.Bool.{Bool, true, false, ◌&&◌, and-false}
use mathlib.Core.Path.{◌≡◌, refl, ap, ◌∙◌}
use mathlib.Core.Logic.{⊎_elim}
use mathlib.Core.List.{List, [], ◌∷◌}
use Prim.Native.Nat.{ℕ, ◌+◌, ◌%◌}
use native.Mathlib.Omega.{arith}
use lib.Dec.{eqb, leb}
use borrow.Author.Tests.{ne_eqb}
use Rattle.words.proofs.Truth.{tested}
use Rattle.words.specs.Words.{if◌then◌else◌, each}
use Rattle.words.specs.Rows.{first_of}
use Rattle.answers.specs.Answer.{refusal_of}
use Rattle.answers.proofs.Cases.{refused-by}
use Rattle.tables.specs.declared.Tables.{Tables}
use Rattle.tables.specs.State.{State, time_queue, with_clock, task_at, queue, leaving, read}
use Rattle.calls.specs.declared.Call.{Call}
use Rattle.calls.specs.Calls.{TIMER, call_of}
use Rattle.meaning.specs.Ready.{made_ready, runs_first, dispatched}
use Rattle.meaning.specs.Services.{Effect, timely, timer, deeds, deed_of, effect}
use Rattle.meaning.specs.Refusals.{refusals}
use Rattle.meaning.specs.Step.{refused, accepted, step_of}
use Rattle.meaning.proofs.Deeds.{deed-at}
use Rattle.lawful.specs.Reached.{after_calls}
use Rattle.lawful.specs.Waited.{cycles}
use Rattle.lawful.proofs.Ready.Cases.{by-dispatch}
use Rattle.lawful.proofs.Chained.Chain.{turn-chain}
use Rattle.lawful.proofs.Chained.Stays.{stays}
use Rattle.lawful.proofs.Told.Ends.{step-ends}
use Rattle.lawful.proofs.Told.Pages.{made-frame}

-- ---- One call.
timely-clock : (k : ℕ) (s : State) → (timely k s).clock ≡ s.clock
unfolding timely
timely-clock k s = go (leb (task_at s k).time s.clock)
  where
    go : (b : Bool) → (if b then made_ready (leaving s time_queue k) k else s).clock ≡ s.clock
    go true = ap (λ (x : State). x.clock) (made-frame (leaving s time_queue k) k).others
    go false = refl

times-clock : (l : List ℕ) (s : State) → (each timely l s).clock ≡ s.clock
unfolding each
times-clock [] s = refl
times-clock (k ∷ l) s = times-clock l (timely k s) ∙ timely-clock k s

timer-clock : (s : State) (c : Call) → (timer s c).state.clock ≡ s.clock + 1
unfolding timer
timer-clock s c = go (eqb ((s.clock + 1) % s.directory.every) 0)
  where
    go : (b : Bool) → (if b then each timely (queue s time_queue) (with_clock s (s.clock + 1)) else with_clock s (s.clock + 1)).clock ≡ s.clock + 1
    go true = times-clock (queue s time_queue) (with_clock s (s.clock + 1))
    go false = refl

dispatched-clock : (s : State) → (dispatched s).clock ≡ s.clock
unfolding runs_first
dispatched-clock s = by-dispatch s (λ (u : State). u.clock ≡ s.clock) refl (λ z b. refl)

ticks-on : (s : State) (c : Call) → c.code ≡ TIMER → (dispatched (effect s c).state).clock ≡ s.clock + 1
unfolding deeds deed_of
ticks-on s c e = dispatched-clock (effect s c).state ∙ ap (λ (x : Effect). x.state.clock) (deed-at s c TIMER e) ∙ timer-clock s c

-- ---- One step, and any calls.
step-clock : (t : Tables) (bytes : List ℕ) → (step_of t bytes).tables.clock ≡ t.clock + (if eqb (call_of bytes).code TIMER && eqb (refusal_of (step_of t bytes).outcome) 0 then 1 else 0)
unfolding accepted refused
step-clock t bytes =
    let n = first_of (refusals t bytes) in
    ⊎_elim
    (λ z. rw (z.1, refused-by n z.0, ne_eqb n 0 z.0, and-false (eqb (call_of bytes).code TIMER)) (omega arith))
    (λ z. rw z.1
    (⊎_elim (λ e. rw e.0 (ticks-on (read t) (call_of bytes) e.1)) (λ e. rw e.0 ((stays (turn-chain (read t) (call_of bytes))).clock e.1 ∙ omega arith)) (tested (call_of bytes).code TIMER)))
    (step-ends t bytes)

pub calls-clock : (calls : List (List ℕ)) (t : Tables) → (after_calls t calls).clock ≡ t.clock + cycles t calls
unfolding after_calls cycles
calls-clock [] t = omega arith
calls-clock (b ∷ calls) t = omega (arith, calls-clock calls (step_of t b).tables, step-clock t b)
