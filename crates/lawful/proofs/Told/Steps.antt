-- Demand 3: whatever the tables and the call are, a step leaves tables that pass the rules where it was given such; and so all tables that are reached
-- from an image that loads pass them. The rules as tests are the rules as records, and each accepted call keeps those.
use mathlib.Core.Bool.{true}
use mathlib.Core.Path.{◌≡◌, refl, ap}
use mathlib.Core.Logic.{⊎_elim}
use mathlib.Core.List.{List}
use Prim.Native.Nat.{ℕ, ◌≤◌}
use Rattle.threads.specs.Threads.{threaded}
use Rattle.threads.proofs.Read.{read_back, sound}
use Rattle.words.specs.Words.{all_true}
use Rattle.words.specs.Rows.{first_of}
use Rattle.answers.specs.Answer.{refusal_of}
use Rattle.image.specs.Load.{load_of}
use Rattle.pools.specs.Pools.{SmallestHole}
use Rattle.tables.specs.declared.Tables.{Tables}
use Rattle.tables.specs.State.{State, with_queues, read, tabled}
use Rattle.calls.specs.Calls.{call_of}
use Rattle.meaning.specs.Refusals.{refusals}
use Rattle.meaning.specs.Rules.{pointers_sound, state_rules, rules_hold}
use Rattle.meaning.specs.Step.{accepted, step_of, tables_of}
use Rattle.meaning.proofs.Rules.{all-rules, rules-all}
use Rattle.meaning.proofs.Loaded.{load-lawful}
use Rattle.lawful.specs.Resting.{Lawful}
use Rattle.lawful.specs.Tables.{Typed, LawfulTables}
use Rattle.lawful.specs.Reached.{Reached, load, step}
use Rattle.words.proofs.Truth.{both, and-of}
use Rattle.meaning.proofs.Pointers.{sound-of, of-sound, nine-queues}
use Rattle.lawful.proofs.Told.Corollaries.{shape-apart}
use Rattle.lawful.proofs.Tested.FromRules.{rules-lawful}
use Rattle.lawful.proofs.Tested.ToRules.{lawful-rules}
use Rattle.lawful.proofs.Told.Loaded.{loads-typed}
use Rattle.lawful.proofs.Tested.Accepted.{accepts, rows_left}
use Rattle.lawful.proofs.Each.Keeps.{keeps}
use Rattle.lawful.proofs.Told.Ends.{step-ends, refused-leaves}

-- ---- The test of the rules, and lawful tables.

pub rules-tables : (t : Tables) → Typed t → rules_hold t ≡ true → LawfulTables t
unfolding rules_hold
rules-tables t y e =
    let b = both (pointers_sound t.threads) (all_true (state_rules (read t))) e in
    let n = nine-queues t.threads y.queues in
    let p = sound-of t.threads n b.0 in
    record {
      pointers = p;
      state = rules-lawful (read t) (record { tasks = y.tasks; requests = y.requests; pools = y.pools; queues = n }) y.low p.apart (all-rules b.1);
    }

pub tables-rules : (t : Tables) → LawfulTables t → rules_hold t ≡ true
unfolding rules_hold
tables-rules t g = and-of _ _ (of-sound t.threads g.pointers) (rules-all (lawful-rules g.state))

-- ---- A lawful state as tables, and back.

pub read-tabled : {s : State} → Lawful s → read (tabled s) ≡ s
read-tabled {s} g = ap (with_queues s) (read_back s.queues (shape-apart g.shape))

pub tabled-lawful : {s : State} → Lawful s → LawfulTables (tabled s)
tabled-lawful {s} g =
    record { pointers = (sound s.queues (shape-apart g.shape) (threaded s.queues) refl).0; state = rw (read-tabled g) g }

-- ---- One step.

pub step-lawful : (t : Tables) (bytes : List ℕ) → LawfulTables t → LawfulTables (step_of t bytes).tables
unfolding accepted
step-lawful t bytes g =
    ⊎_elim (λ z. rw (z.1, refused-leaves t (first_of (refusals t bytes))) g)
    (λ z. rw z.1 (tabled-lawful (keeps g.state (accepts (read t) (call_of bytes) (rows_left t bytes z.0).rows g.state)))) (step-ends t bytes)

pub step_keeps : (t : Tables) (bytes : List ℕ) → Typed t → rules_hold t ≡ true → rules_hold (step_of t bytes).tables ≡ true
step_keeps t bytes y e = tables-rules _ (step-lawful t bytes (rules-tables t y e))

-- ---- From an image that loads on.

loads-lawful : (b : ℕ) (image : List ℕ) → b ≤ SmallestHole → refusal_of (load_of image).outcome ≡ 0 → LawfulTables (tables_of b image)
loads-lawful b image l e = rules-tables (tables_of b image) (loads-typed b image e) (load-lawful b image l e)

pub reached-lawful : (image : List ℕ) {t : Tables} → Reached image t → LawfulTables t
reached-lawful image (load b l e) = loads-lawful b image l e
reached-lawful image (step {t} bytes r) = step-lawful t bytes (reached-lawful image r)

pub reached-rules : (image : List ℕ) {t : Tables} → Reached image t → rules_hold t ≡ true
reached-rules image r = tables-rules _ (reached-lawful image r)
