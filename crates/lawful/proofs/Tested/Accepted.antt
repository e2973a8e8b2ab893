-- A call that no row of the refusals stops is accepted: each row of the table, since it does not apply, gives one field of `Accepts`.
use mathlib.Core.Bool.{true, false, not, ◌&&◌, ◌||◌}
use mathlib.Core.Path.{◌≡◌, refl, ap, ◌∙◌}
use mathlib.Core.Logic.{◌≢◌, ⊎_elim}
use mathlib.Core.List.{List, [], ◌∷◌}
use Prim.Native.Nat.{ℕ, zero, suc, ◌+◌, ◌≤◌}
use native.Mathlib.Omega.{arith}
use native.Mathlib.Nat.{le_of_suc-le-suc, not-suc-le-zero}
use lib.ListN.{length, get_or}
use lib.Dec.{eqb, leb, ltb}
use borrow.Author.Tests.{not-true, not-false, eqb-true, eqb-false, eq-eqb, leb-false, ltb-false}
use Rattle.words.specs.Words.{has, size}
use Rattle.words.specs.Rows.{first_of}
use Rattle.words.proofs.Rows.{test_of, no_zero, none-applies, row-passed}
use Rattle.words.proofs.Places.{under-or-from}
use Rattle.tables.specs.declared.Request.{Request}
use Rattle.tables.specs.declared.Tables.{Tables}
use Rattle.tables.specs.State.{State, request_at, read}
use Rattle.tables.specs.Blocks.{no_request, request_blocks}
use Rattle.calls.specs.declared.Call.{Call}
use Rattle.calls.specs.Calls.{FREEMAIN, WAIT, SIGNAL, CHECK, TIMER, IO-DONE, call_of, known, needs_task}
use Rattle.meaning.specs.Conditions.{undefined_in}
use Rattle.meaning.specs.Finish.{pending}
use Rattle.meaning.specs.Rules.{rules_hold}
use Rattle.meaning.specs.Refusals.{starts, tells_events, transfers, waits, undefined, held, bad_count, bad_kind, clock_end, call_rows, refusals}
use Rattle.lawful.specs.Resting.{Lawful}
use Rattle.lawful.specs.Accepts.{Accepts}
use Rattle.words.proofs.Truth.{both, and-of, and-fails, or_left, or_right}

beyond : (l : List Request) (i : ℕ) → length l ≤ i → get_or l i no_request ≡ no_request
beyond [] i h = refl
beyond (a ∷ l) zero h = absurd (not-suc-le-zero h)
beyond (a ∷ l) (suc i) h = beyond l i (le_of_suc-le-suc h)

-- a request block that is used is one of 1 to 16
used-block : {s : State} → Lawful s → (r : ℕ) → (request_at s r).place ≢ 0 → (1 ≤ r) × (r ≤ request_blocks)
used-block {s} g r n = (
  ⊎_elim (λ z. let i : r ≡ 0 = omega (arith, z) in absurd (n (ap (λ (q : Request). q.place) (ap (request_at s) i ∙ g.shape.blank.request)))) (λ z. z) (under-or-from r 1),
  ⊎_elim (λ z. absurd (n (ap (λ (q : Request). q.place) (beyond s.requests r (omega (arith, z, g.shape.sizes.requests)))))) (λ z. z) (under-or-from 16 r),
)

module _ (s : State) (c : Call) (e : first_of (call_rows s c) ≡ 0) where
  -- the row of a number does not apply: at a literal this says of what the row tests that it fails
  pub not-by : (n : ℕ) → test_of n (call_rows s c) ≡ false
  unfolding call_rows no_zero
  not-by = none-applies (call_rows s c) refl e

  pub accepts : Lawful s → Accepts s c
  unfolding undefined_in call_rows test_of
  accepts g =
      record {
        known = not-false (known c.code) (not-by 24);
        running = λ z. eqb-false _ _ (and-fails (needs_task c.code) (eqb s.running 0) (not-by 11) z);
        quiet = λ z. and-fails (eqb c.code FREEMAIN) (pending s s.running) (not-by 25) (eq-eqb _ _ z);
        program = λ z. leb-false _ _ (and-fails (starts c) (leb s.directory.modules c.number) (not-by 12) z);
        block = λ z. eqb-false _ _ (and-fails (starts c) (eqb s.free_tasks 0) (not-by 16) z);
        event = λ z.
            let a = and-fails (tells_events c) (undefined s c.number) (not-by 19) z in
            let b = not (has s.directory.defined c.number) in
            (ltb-false _ _ (or_left (ltb 63 c.number) b a), eqb-true _ 1 (not-false _ (or_right (ltb 63 c.number) b a)));
        condition = λ z. record {
          kind = ltb-false _ _ (or_left _ (eqb c.code WAIT && eqb c.kind 0) (or_left _ (eqb c.kind 1 && undefined_in s c.events) (and-fails (waits c) (bad_kind s c) (not-by 13) z)));
          set = λ k.
              let a = and-fails (waits c) (bad_kind s c) (not-by 13) z in
              let b = and-fails (eqb c.kind 1) (undefined_in s c.events) (or_right (ltb 3 c.kind || eqb c.code WAIT && eqb c.kind 0) (eqb c.kind 1 && undefined_in s c.events) a) (eq-eqb _ _ k) in
              let d = and-fails (waits c && eqb c.kind 1) (eqb c.value 0 || ltb (size c.events) c.value) (not-by 14) (and-of _ _ z (eq-eqb _ _ k)) in
              let n = eqb-false c.value 0 (or_left (eqb c.value 0) (ltb (size c.events) c.value) d) in
              let h : 1 ≤ c.value = omega (arith, n) in
              (eqb-true _ _ (not-false _ b), h, ltb-false _ _ (or_right (eqb c.value 0) (ltb (size c.events) c.value) d));
          time = λ k. ltb-false _ _ (and-fails (waits c && eqb c.kind 3) (ltb clock_end (s.clock + c.amount)) (not-by 15) (and-of _ _ z (eq-eqb _ _ k)));
        };
        device = λ z. ltb-false _ _ (and-fails (transfers c) (ltb 249 c.number) (not-by 22) z);
        bytes = λ z.
            let a = or_left (transfers c && bad_count c.amount) (eqb c.code SIGNAL && ltb 1 c.value) (not-by 23) in
            let b = and-fails (transfers c) (eqb c.amount 0 || ltb 65535 c.amount) a z in
            let n = eqb-false c.amount 0 (or_left (eqb c.amount 0) (ltb 65535 c.amount) b) in
            let h : 1 ≤ c.amount = omega (arith, n) in
            (h, ltb-false _ _ (or_right (eqb c.amount 0) (ltb 65535 c.amount) b));
        free_requests = λ z. eqb-false _ _ (and-fails (transfers c) (eqb s.free_requests 0) (not-by 17) z);
        held = λ z.
            let a = not-false _ (and-fails (eqb c.code CHECK) (not (held s c.number)) (not-by 18) (eq-eqb _ _ z)) in
            let b = both (not (eqb (request_at s c.number).place 0)) (eqb (request_at s c.number).owner s.running) a in
            let n : (request_at s c.number).place ≢ 0 = eqb-false _ _ (not-true _ b.0) in
            let u = used-block g c.number n in
            (u.0, u.1, n, eqb-true _ _ b.1);
        channel = λ z. eqb-false _ _ (and-fails (eqb c.code IO-DONE) (eqb s.channel 0) (not-by 20) (eq-eqb _ _ z));
        clock = λ z. eqb-false _ _ (and-fails (eqb c.code TIMER) (eqb s.clock clock_end) (not-by 21) (eq-eqb _ _ z));
      }

-- of a whole step: the rules hold, the bytes are 16, and no row of the call applies
pub record Left (t : Tables) (bytes : List ℕ) : Type 0 where
  pub rules : rules_hold t ≡ true
  pub whole : length bytes ≡ 16
  pub rows : first_of (call_rows (read t) (call_of bytes)) ≡ 0

pub rows_left : (t : Tables) (bytes : List ℕ) → first_of (refusals t bytes) ≡ 0 → Left t bytes
unfolding refusals
rows_left t bytes e =
    let r9 = row-passed 9 (rules_hold t) _ (omega arith) e in
    let r10 = row-passed 10 (eqb (length bytes) 16) (call_rows (read t) (call_of bytes)) (omega arith) r9.1 in
    record { rules = r9.0; whole = eqb-true _ _ r10.0; rows = r10.1 }
