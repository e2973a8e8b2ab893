-- "no accepted answer carries a zero result": a block that is given is not block 0, and the other calls answer 1, 2 or 3. By the list of deeds. Of the rules that the tables pass, that the
-- free blocks are sets of blocks is enough.
use mathlib.Core.Bool.{Bool, true, false, not, true≢false}
use mathlib.Core.Path.{◌≡◌, sym, ◌∙◌}
use mathlib.Core.List.{List}
use Prim.Native.Nat.{ℕ, ◌≤◌}
use native.Mathlib.Omega.{arith}
use lib.Dec.{eqb}
use borrow.Author.Tests.{eqb-false, ltb-true, not-true, not-false}
use Rattle.words.specs.Words.{if◌then◌else◌, ◌among◌, all_true, has}
use Rattle.words.specs.Rows.{first_of}
use Rattle.words.proofs.Rows.{test_of}
use Rattle.words.proofs.Truth.{both, and-fails}
use Rattle.tables.specs.declared.Tables.{Tables}
use Rattle.tables.specs.State.{State, read}
use Rattle.calls.specs.declared.Call.{Call}
use Rattle.calls.specs.Calls.{call_of, known}
use Rattle.meaning.specs.Rules.{pointers_sound, free_sets, state_rules, rules_hold}
use Rattle.meaning.specs.Refusals.{starts, transfers, call_rows, refusals}
use Rattle.meaning.specs.Services.{Effect, freemain, link, end, schedule, wait, signal, test_event, dispatch_check, read_or_write, check, timer, io_done, program_check, operator_start, deeds, effect}
use Rattle.meaning.proofs.Rules.{all-rules}
use Rattle.meaning.proofs.Parts.{sets}
use Rattle.meaning.proofs.Deeds.{Shown, every-deed}
use Rattle.words.proofs.Bits.{bit-of}
use Rattle.words.proofs.Free.{least-some}
use Rattle.lawful.proofs.Tested.Accepted.{not-by, rows_left}

tells-some : (s : State) (c : Call) → 1 ≤ (test_event s c).result
unfolding test_event
tells-some s c = go (has s.signalled c.number) (has s.on c.number)
  where
    go : (m o : Bool) → 1 ≤ (if not m then 3 else if o then 2 else 1)
    go false o = omega arith
    go true true = omega arith
    go true false = omega arith

module _ (s : State) (c : Call) (e : first_of (call_rows s c) ≡ 0) (f : free_sets s ≡ true) where
  starts-some : starts c ≡ true → 1 ≤ (operator_start s c).result
  unfolding operator_start call_rows test_of
  starts-some o =
      let b = sets s f in
      least-some s.free_tasks 25 (omega arith) (ltb-true _ _ b.free_tasks) (eqb-false _ 0 (and-fails (starts c) (eqb s.free_tasks 0) (not-by s c e 16) o)) (bit-of s.free_tasks 0 (not-true _ b.free_tasks-none))

  transfers-some : transfers c ≡ true → 1 ≤ (read_or_write s c).result
  unfolding read_or_write call_rows test_of
  transfers-some o =
      let b = sets s f in
      least-some s.free_requests 17 (omega arith) (ltb-true _ _ b.free_requests) (eqb-false _ 0 (and-fails (transfers c) (eqb s.free_requests 0) (not-by s c e 17) o)) (bit-of s.free_requests 0 (not-true _ b.free_requests-none))

  each : 1 ≤ (effect s c).result
  unfolding Shown deeds call_rows test_of freemain link end schedule wait signal dispatch_check check timer io_done program_check operator_start ◌among◌
  each =
      every-deed s c (λ (x : Effect). 1 ≤ x.result) (λ k. absurd (true≢false (sym (not-false (known c.code) (not-by s c e 24)) ∙ k)))
      (λ z. omega arith)
      (λ z. starts-some (rw z))
      (λ z. omega arith)
      (λ z. starts-some (rw z))
      (λ z. omega arith)
      (λ z. omega arith)
      (λ z. tells-some s c)
      (λ z. omega arith)
      (λ z. transfers-some (rw z))
      (λ z. transfers-some (rw z))
      (λ z. omega arith)
      (λ z. omega arith)
      (λ z. omega arith)
      (λ z. omega arith)
      (λ z. starts-some (rw z))

-- the law: of any tables, and any bytes that are accepted
pub result-some : (t : Tables) (bytes : List ℕ) → first_of (refusals t bytes) ≡ 0 → 1 ≤ (effect (read t) (call_of bytes)).result
unfolding rules_hold
result-some t bytes e =
    let left = rows_left t bytes e in
    let b = both (pointers_sound t.threads) (all_true (state_rules (read t))) left.rules in
    each (read t) (call_of bytes) left.rows (all-rules b.1).each.free_sets
