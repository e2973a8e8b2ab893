-- Document 02, E6, of tables that keep the rules, over any calls, refused ones included: while a task stays in its waiting place its reading stays; and where it came there by a call, the
-- reading is the clock of that moment, and the clock has gone on since by as many cycles as there were. By Waiting for one call, and by induction on the calls.
use mathlib.Core.Bool.{true}
use mathlib.Core.Path.{◌≡◌, refl, sym, ap, ◌∙◌}
use mathlib.Core.Logic.{◌≢◌, inl, inr, ⊎_elim}
use mathlib.Core.List.{List, [], ◌∷◌}
use Prim.Native.Nat.{ℕ, ◌≤◌}
use native.Mathlib.Omega.{arith}
use Rattle.words.specs.Rows.{first_of}
use Rattle.tables.specs.declared.Task.{Task}
use Rattle.tables.specs.declared.Tables.{Tables}
use Rattle.tables.specs.Blocks.{Free, Running, Ready, waits_in, since_in, task_blocks}
use Rattle.tables.specs.State.{read}
use Rattle.tables.proofs.Readings.{waits-from, waits-not, since-not}
use Rattle.calls.specs.Calls.{call_of}
use Rattle.meaning.specs.Refusals.{refusals}
use Rattle.meaning.specs.Step.{accepted, step_of}
use Rattle.lawful.specs.Shape.{Stands}
use Rattle.lawful.specs.Tables.{LawfulTables}
use Rattle.lawful.specs.Reached.{after_calls}
use Rattle.lawful.specs.Waited.{place_in, reading_in, DoesNotWait, StaysIn}
use Rattle.lawful.proofs.Blocks.Shape.{rest-place}
use Rattle.lawful.proofs.Told.Ends.{step-ends, refused-leaves}
use Rattle.lawful.proofs.Told.Steps.{step-lawful}
use Rattle.lawful.proofs.Told.Waiting.{stays-since, enters-since}

module _ (k : ℕ) (some : 1 ≤ k) (low : k ≤ task_blocks) where
  -- ---- A task waits in each place but free, ready and running; in these three its reading is 0.
  module _ {t : Tables} (g : LawfulTables t) where
    stands : Stands (read t) (place_in t k) k
    stands = rw (rest-place (read t) k) at (g.state.shape.tasks k some low)

    pub waits_there : (DoesNotWait (place_in t k) → ⊥) → waits_in (place_in t k) ≡ true
    waits_there n =
        let used : place_in t k ≢ Free = λ z. n (inl z) in
        let ready : place_in t k ≢ Ready = λ z. n (inr (inl z)) in
        let runs : place_in t k ≢ Running = λ z. n (inr (inr z)) in
        waits-from (place_in t k) (omega (arith, used, ready, runs)) stands.fields.place

    pub zero-there : DoesNotWait (place_in t k) → reading_in t k ≡ 0
    zero-there n =
        let few : place_in t k ≤ Ready = ⊎_elim (λ z. omega (arith, z)) (λ e. ⊎_elim (λ z. omega (arith, z)) (λ z. omega (arith, z)) e) n in
        ap (λ (x : Task). x.since) (stands.fields.clear (λ z. omega (arith, z, few))) ∙ since-not _ _ (waits-not _ (λ a b. omega (arith, a, few)))

    pub never-past : reading_in t k ≤ t.clock
    never-past = stands.since

  -- ---- One call.
  module _ (t : Tables) (bytes : List ℕ) (g : LawfulTables t) where
    step_stays : waits_in (place_in t k) ≡ true → place_in (step_of t bytes).tables k ≡ place_in t k → reading_in (step_of t bytes).tables k ≡ reading_in t k
    unfolding accepted
    step_stays =
        ⊎_elim (λ z. rw (z.1, refused-leaves t (first_of (refusals t bytes))) (λ w e. refl))
        (λ z. rw z.1 (stays-since g.state some low (call_of bytes)))
        (step-ends t bytes)

    pub step-enters : place_in (step_of t bytes).tables k ≢ place_in t k → reading_in (step_of t bytes).tables k ≡ since_in (step_of t bytes).tables.clock (place_in (step_of t bytes).tables k)
    unfolding accepted
    step-enters =
        ⊎_elim (λ z. rw (z.1, refused-leaves t (first_of (refusals t bytes))) (λ n. absurd (n refl)))
        (λ z. rw z.1 (enters-since g.state some low (call_of bytes)))
        (step-ends t bytes)

  -- ---- Any calls.
  fewer : {p : ℕ} {t : Tables} {b : List ℕ} {calls : List (List ℕ)} → StaysIn k p t (b ∷ calls) → StaysIn k p (step_of t b).tables calls
  unfolding after_calls
  fewer {p} {t} {b} s = record { there = λ before behind e. s.there (b ∷ before) behind (ap (λ (l : List (List ℕ)). b ∷ l) e) }

  pub calls-stay : (calls : List (List ℕ)) {p : ℕ} (t : Tables) → LawfulTables t → waits_in p ≡ true → StaysIn k p t calls → reading_in (after_calls t calls) k ≡ reading_in t k
  unfolding after_calls
  calls-stay [] t g w s = refl
  calls-stay (b ∷ calls) {p} t g w s =
      let now : place_in t k ≡ p = s.there [] (b ∷ calls) refl in
      let next : place_in (step_of t b).tables k ≡ p = s.there (b ∷ []) calls refl in
      calls-stay calls (step_of t b).tables (step-lawful t b g) w (fewer s) ∙ step_stays t b g (rw now w) (next ∙ sym now)
