-- Document 02, E1, of one call on any tables: it changes what is known of an event only where it is a SIGNAL of it that is accepted, and then by its value; and what TEST EVENT answers is what is known.
-- Those whom a SIGNAL wakes, and the dispatch, leave both sets; every other call is a chain of small changes that does.
use mathlib.Core.Bool.{Bool, true, false, not, ◌&&◌, or-true, or-false, and-true, and-false}
use mathlib.Core.Path.{◌≡◌, refl, sym, ap, ◌∙◌}
use mathlib.Core.Logic.{◌≢◌, ◌⊎◌, inl, inr, ⊎_elim}
use mathlib.Core.List.{List, [], ◌∷◌}
use Prim.Native.Nat.{ℕ, ◌≤◌}
use lib.ListN.{length}
use lib.Dec.{eqb, ltb}
use borrow.Author.Tests.{eq-eqb, ne_eqb, ltb-false, le-ltb}
use Rattle.words.specs.Words.{if◌then◌else◌, ◌among◌, each, has, adding, dropping}
use Rattle.words.specs.Rows.{first_of}
use Rattle.words.proofs.Rows.{test_of}
use Rattle.words.proofs.Truth.{tested, and-fails, or_right}
use Rattle.words.proofs.Changes.{has-adding, has-dropping}
use Rattle.answers.specs.Answer.{refusal_of, result_of}
use Rattle.tables.specs.declared.Tables.{Tables}
use Rattle.tables.specs.State.{State, event_queue, task_at, queue, leaving, read}
use Rattle.calls.specs.declared.Call.{Call}
use Rattle.calls.specs.Calls.{SIGNAL, TEST-EVENT, call_of, known, needs_task}
use Rattle.meaning.specs.Conditions.{enough}
use Rattle.meaning.specs.Ready.{made_ready, best_ready, runs_first, dispatched}
use Rattle.meaning.specs.Services.{woken, signal, test_event, deeds, deed_of, effect}
use Rattle.meaning.specs.Rules.{rules_hold}
use Rattle.meaning.specs.Refusals.{transfers, bad_count, call_rows, refusals}
use Rattle.meaning.specs.Step.{accepted, step_of}
use Rattle.meaning.proofs.Deeds.{deed-at}
use Rattle.lawful.specs.Signals.{Signals}
use Rattle.lawful.proofs.Chained.Small.{Chain, none, ◌next◌, joined}
use Rattle.lawful.proofs.Chained.Framed.{Any, Readies, leave, made-ready, framed, frame_on, frame-signalled}
use Rattle.lawful.proofs.Chained.Chain.{turn-chain}
use Rattle.lawful.proofs.Chained.Stays.{stays}
use Rattle.lawful.proofs.Tested.Accepted.{not-by, rows_left}
use Rattle.lawful.proofs.Told.Ends.{step-ends, step-outcome, refused-leaves}
use Rattle.lawful.proofs.Each.Signal.{told-on, told-off}

-- ---- SIGNAL: those who are woken change neither set, nor does the dispatch.
woken-ready : (k : ℕ) (s : State) → Chain (Readies Any Any Any) s (woken k s)
unfolding woken
woken-ready k s = go (enough s (task_at s k).count (task_at s k).events)
  where
    go : (b : Bool) → Chain (Readies Any Any Any) s (if b then made_ready (leaving s event_queue k) k else s)
    go true = made-ready Any Any Any s (leaving s event_queue k) k refl refl refl refl (none next leave event_queue k refl)
    go false = none

walk-ready : (l : List ℕ) (s : State) → Chain (Readies Any Any Any) s (each woken l s)
unfolding each
walk-ready [] s = none
walk-ready (k ∷ l) s = joined (woken-ready k s) (walk-ready l (woken k s))

-- the events that are on, and those signalled, of a state
record Known (s : State) (o m : ℕ) : Type 0 where
  on : s.on ≡ o
  signalled : s.signalled ≡ m

-- the event n is on or off, by a value
abbrev turned : ℕ → ℕ → ℕ → ℕ
turned o n v = if eqb v 1 then adding o n else dropping o n

turned-has : (o n v e : ℕ) → eqb e n ≡ true → has (turned o n v) e ≡ eqb v 1
turned-has o n v e same = go (eqb v 1)
  where
    go : (b : Bool) → has (if b then adding o n else dropping o n) e ≡ b
    go true = rw (has-adding o n e, same) (or-true (has o e))
    go false = rw (has-dropping o n e, same) (and-false (has o e))

turned-keeps : (o n v e : ℕ) → eqb e n ≡ false → has (turned o n v) e ≡ has o e
turned-keeps o n v e other = go (eqb v 1)
  where
    go : (b : Bool) → has (if b then adding o n else dropping o n) e ≡ has o e
    go true = rw (has-adding o n e, other) (or-false (has o e))
    go false = rw (has-dropping o n e, other) (and-true (has o e))

signal-known : (s : State) (c : Call) → Known (signal s c).state (turned s.on c.number c.value) (adding s.signalled c.number)
unfolding signal
signal-known s c = go (eqb c.value 1)
  where
    go : (b : Bool) → Known (if b then each woken (queue s event_queue) (told-on s c.number) else told-off s c.number)
        (if b then adding s.on c.number else dropping s.on c.number) (adding s.signalled c.number)
    go true = let f = framed (walk-ready (queue s event_queue) (told-on s c.number)) in record { on = frame_on f; signalled = frame-signalled f }
    go false = record { on = refl; signalled = refl }

dispatched-known : (s : State) → Known (dispatched s) s.on s.signalled
unfolding dispatched runs_first
dispatched-known s = go (not (eqb s.running 0)) (eqb (best_ready s) 0)
  where
    go : (a b : Bool) → Known (if a then s else if b then s else runs_first s (best_ready s)) s.on s.signalled
    go true b = record { on = refl; signalled = refl }
    go false true = record { on = refl; signalled = refl }
    go false false = record { on = refl; signalled = refl }

-- ---- One call.
module _ (t : Tables) (bytes : List ℕ) where
  abbrev c : Call
  c = call_of bytes

  -- accepted: no row of the refusals applies, and the tables and the result are those of the call
  no_row : refusal_of (step_of t bytes).outcome ≡ 0 → first_of (refusals t bytes) ≡ 0
  no_row a = ⊎_elim (λ z. absurd (z.0 (sym (ap refusal_of z.1) ∙ a))) (λ z. z.0) (step-outcome t bytes)

  pub tested-event : c.code ≡ TEST-EVENT → refusal_of (step_of t bytes).outcome ≡ 0
      → result_of (step_of t bytes).outcome ≡ (if not (has t.signalled c.number) then 3 else if has t.on c.number then 2 else 1)
  unfolding deeds deed_of test_event
  tested-event z a =
      ⊎_elim (λ w. absurd (w.0 (no_row a))) (λ w. rw w.1 (rw (deed-at (read t) c TEST-EVENT z))) (step-outcome t bytes)

  -- where the tables keep the rules, a task runs and the event is defined, TEST EVENT is accepted
  module _ (rules : rules_hold t ≡ true) (long : length bytes ≡ 16) (test : c.code ≡ TEST-EVENT) (runs : t.running ≢ 0) (low : c.number ≤ 63) (defined : has t.directory.defined c.number ≡ true) where
    none-applies : first_of (refusals t bytes) ≡ 0
    unfolding refusals call_rows first_of known needs_task ◌among◌
    none-applies = rw (rules, eq-eqb _ _ long, test, ne_eqb t.running 0 runs, le-ltb 63 c.number low, defined)

    pub test-accepted : refusal_of (step_of t bytes).outcome ≡ 0
    test-accepted = ⊎_elim (λ w. absurd (w.0 none-applies)) (λ w. ap refusal_of w.1) (step-outcome t bytes)

  after_signal : c.code ≡ SIGNAL → refusal_of (step_of t bytes).outcome ≡ 0 → ((step_of t bytes).tables.on ≡ turned t.on c.number c.value) × ((step_of t bytes).tables.signalled ≡ adding t.signalled c.number)
  unfolding accepted deeds deed_of
  after_signal z a =
      ⊎_elim (λ w. absurd (w.0 (no_row a)))
      (λ w.
      let e = deed-at (read t) c SIGNAL z in
      let d = dispatched-known (effect (read t) c).state in
      let k = signal-known (read t) c in
      rw w.1 (d.on ∙ rw e k.on, d.signalled ∙ rw e k.signalled))
      (step-ends t bytes)

  -- any other call leaves both sets
  after-other : (c.code ≡ SIGNAL → refusal_of (step_of t bytes).outcome ≡ 0 → ⊥) → ((step_of t bytes).tables.on ≡ t.on) × ((step_of t bytes).tables.signalled ≡ t.signalled)
  unfolding accepted
  after-other n =
      ⊎_elim (λ w. rw (w.1, refused-leaves t (first_of (refusals t bytes))) (refl, refl))
      (λ w.
      let s = stays (turn-chain (read t) c) in
      let other : c.code ≢ SIGNAL = λ z. n z (rw w.1) in
      rw w.1 (s.on other, s.signalled other))
      (step-ends t bytes)

  -- "SIGNAL value not 0 or 1" is refused
  pub signal-value : c.code ≡ SIGNAL → refusal_of (step_of t bytes).outcome ≡ 0 → c.value ≤ 1
  unfolding call_rows test_of
  signal-value z a =
      let rows = not-by (read t) c (rows_left t bytes (no_row a)).rows 23 in
      ltb-false 1 c.value (and-fails (eqb c.code SIGNAL) (ltb 1 c.value) (or_right (transfers c && bad_count c.amount) (eqb c.code SIGNAL && ltb 1 c.value) rows) (eq-eqb _ _ z))

  module _ (e : ℕ) where
    pub signals-or-not : Signals e t bytes ⊎ (Signals e t bytes → ⊥)
    signals-or-not =
        ⊎_elim (λ a.
        ⊎_elim (λ b.
        ⊎_elim (λ d. inl (record { code = a.1; event = b.1; accepted = d.1 })) (λ d. inr (λ h. d.1 h.accepted)) (tested (refusal_of (step_of t bytes).outcome) 0))
        (λ b. inr (λ h. b.1 h.event)) (tested c.number e))
        (λ a. inr (λ h. a.1 h.code)) (tested c.code SIGNAL)

    -- an accepted SIGNAL of e: it has been signalled, and is on or off by the value
    pub signals-known : Signals e t bytes → (has (step_of t bytes).tables.signalled e ≡ true) × (has (step_of t bytes).tables.on e ≡ eqb c.value 1)
    signals-known h =
        let a = after_signal h.code h.accepted in
        let same : eqb e c.number ≡ true = eq-eqb e c.number (sym h.event) in
        (rw (a.1, has-adding t.signalled c.number e, same) (or-true (has t.signalled e)), rw a.0 (turned-has t.on c.number c.value e same))

    -- any other call leaves what is known of e
    pub others-known : (Signals e t bytes → ⊥) → (has (step_of t bytes).tables.signalled e ≡ has t.signalled e) × (has (step_of t bytes).tables.on e ≡ has t.on e)
    others-known n =
        ⊎_elim (λ z.
        let a = after_signal z.0 z.1 in
        let other : eqb e c.number ≡ false = ne_eqb e c.number (λ i. n (record { code = z.0; event = sym i; accepted = z.1 })) in
        (rw (a.1, has-adding t.signalled c.number e, other) (or-false (has t.signalled e)), rw a.0 (turned-keeps t.on c.number c.value e other)))
        (λ z. let a = after-other (λ b d. z (b, d)) in (rw a.1, rw a.0))
        signal-or-not
      where
        signal-or-not : ((c.code ≡ SIGNAL) × (refusal_of (step_of t bytes).outcome ≡ 0)) ⊎ ((c.code ≡ SIGNAL) × (refusal_of (step_of t bytes).outcome ≡ 0) → ⊥)
        signal-or-not =
            ⊎_elim (λ a. ⊎_elim (λ b. inl (a.1, b.1)) (λ b. inr (λ h. b.1 h.1)) (tested (refusal_of (step_of t bytes).outcome) 0)) (λ a. inr (λ h. a.1 h.0)) (tested c.code SIGNAL)
