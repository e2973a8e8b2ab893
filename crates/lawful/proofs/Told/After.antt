-- What a step leaves: who runs, the directory, and the rule of the grants. What is shown of a call and its dispatch, said of the tables; by the two ways in which a step ends.
use mathlib.Core.Bool.{true, false, true≢false}
use mathlib.Core.Path.{◌≡◌, refl, sym, ap, ◌∙◌}
use mathlib.Core.Logic.{◌≢◌, ◌⊎◌, ⊎_elim}
use mathlib.Core.List.{List, [], ◌∷◌, ◌++◌}
use Prim.Native.Nat.{ℕ}
use lib.Dec.{eqb}
use borrow.Author.Tests.{eq-eqb, ne_eqb}
use Rattle.words.proofs.Truth.{tested}
use Rattle.words.specs.Words.{if◌then◌else◌, ◌among◌}
use Rattle.words.specs.Rows.{first_of}
use Rattle.answers.specs.Answer.{Refused, Accepted, refusal_of}
use Rattle.image.specs.Load.{Loaded, directory_of, load_of}
use Rattle.image.proofs.Loads.{load-accepted, check-is-load}
use Rattle.answers.proofs.Cases.{refused-by}
use Rattle.tables.specs.declared.Tables.{Tables}
use Rattle.tables.specs.State.{State, read, loaded}
use Rattle.calls.specs.Calls.{TIMER, IO-DONE, PROGRAM-CHECK, OPERATOR-START, call_of, interrupts, needs_task, numbers}
use Rattle.meaning.specs.Refusals.{refusals}
use Rattle.meaning.specs.Services.{effect}
use Rattle.meaning.specs.Step.{refused, accepted, step_of, tables_of, line_of, load_line}
use Rattle.lawful.specs.Reached.{Reached, load, step, after_calls, First}
use Rattle.lawful.proofs.Ready.Newly.{newly-first}
use Rattle.lawful.proofs.Chained.Chain.{turn-chain}
use Rattle.lawful.proofs.Chained.Stays.{stays, newly, undisturbed}
use Rattle.lawful.proofs.Told.Ends.{refused-where, accepted-where, step-ends, step-outcome, refused-leaves}

-- the interrupts but program check need no running task
pub interrupts-need-none : (code : ℕ) → code among interrupts ≡ true → code ≢ PROGRAM-CHECK → needs_task code ≡ false
unfolding needs_task ◌among◌
interrupts-need-none code i n =
    ⊎_elim (λ z. rw (← z.1)) (λ a.
    ⊎_elim (λ z. rw (← z.1)) (λ b.
    ⊎_elim (λ z. rw (← z.1)) (λ c. absurd (true≢false (sym i ∙ rw (a.0, b.0, ne_eqb PROGRAM-CHECK code (λ z. n (sym z)), c.0))))
    (tested OPERATOR-START code)) (tested IO-DONE code)) (tested TIMER code)

module _ (t : Tables) (bytes : List ℕ) where
  abbrev left : State
  left = (effect (read t) (call_of bytes)).state

  pub step-newly : let u = (step_of t bytes).tables in u.running ≢ t.running → u.running ≢ 0 → First left u.running
  unfolding accepted
  step-newly =
      ⊎_elim (λ z. rw (z.1, refused-leaves t (first_of (refusals t bytes))) (λ n d. absurd (n refl))) (λ z. rw z.1 (newly (read t) (call_of bytes))) (step-ends t bytes)

  pub step-undisturbed : needs_task (call_of bytes).code ≡ false → t.running ≢ 0 → (step_of t bytes).tables.running ≡ t.running
  unfolding accepted
  step-undisturbed n d =
      ⊎_elim (λ z. rw (z.1, refused-leaves t (first_of (refusals t bytes)))) (λ z. rw z.1 (undisturbed (read t) (call_of bytes) n d)) (step-ends t bytes)

  pub step_left : (r : ℕ) → (step_of t bytes).outcome ≡ Accepted r
      → ((step_of t bytes).tables.running ≡ left.running) ⊎ ((left.running ≡ 0) × First left (step_of t bytes).tables.running)
  unfolding accepted
  step_left r e =
      ⊎_elim (λ z. absurd (z.0 ((accepted-where (step-outcome t bytes) r).0 e).0)) (λ z. rw z.1 (newly-first left)) (step-ends t bytes)

  pub step-directory : (step_of t bytes).tables.directory ≡ t.directory
  unfolding accepted
  step-directory =
      ⊎_elim (λ z. rw (z.1, refused-leaves t (first_of (refusals t bytes)))) (λ z. rw z.1 (stays (turn-chain (read t) (call_of bytes))).directory) (step-ends t bytes)

  -- E8: no call changes the rule by which core is granted
  pub step-holes : (step_of t bytes).tables.holes ≡ t.holes
  unfolding accepted
  step-holes =
      ⊎_elim (λ z. rw (z.1, refused-leaves t (first_of (refusals t bytes)))) (λ z. rw z.1 (stays (turn-chain (read t) (call_of bytes))).holes) (step-ends t bytes)

  -- ---- The three numbers.
  pub refused-line : (n : ℕ) → (step_of t bytes).outcome ≡ Refused n → line_of (step_of t bytes) ≡ n ∷ 0 ∷ (if eqb n 9 then 0 else t.running) ∷ []
  unfolding line_of numbers refused
  refused-line n e =
      let w = (refused-where (step-outcome t bytes) n).0 e in
      ⊎_elim (λ z. rw (z.1, w.0, refused-by n w.1)) (λ z. absurd (w.1 (sym w.0 ∙ z.0))) (step-ends t bytes)

  pub accepted-line : (r : ℕ) → (step_of t bytes).outcome ≡ Accepted r → line_of (step_of t bytes) ≡ 0 ∷ r ∷ (step_of t bytes).tables.running ∷ []
  unfolding line_of numbers
  accepted-line r e = rw e

-- ---- From an image on: it was accepted, and its directory stays.
module _ (image : List ℕ) where
  pub reached-loads : {t : Tables} → Reached image t → refusal_of (load_of image).outcome ≡ 0
  reached-loads (load b l e) = e
  reached-loads (step bytes r) = reached-loads r

  pub loaded-directory : (holes : ℕ) → refusal_of (load_of image).outcome ≡ 0 → (tables_of holes image).directory ≡ (load_of image).directory
  unfolding tables_of loaded
  loaded-directory b e = rw (eq-eqb (refusal_of (load_of image).outcome) 0 e)

  pub loaded-line : (holes : ℕ) → refusal_of (load_of image).outcome ≡ 0 → (load_line image ≡ 0 ∷ (tables_of holes image).directory.modules ∷ 0 ∷ []) × ((tables_of holes image).directory ≡ directory_of image)
  unfolding load_line numbers
  loaded-line b e =
      let l = load-accepted image (sym (check-is-load image) ∙ e) in
      let d = loaded-directory b e ∙ ap (λ (x : Loaded). x.directory) l in
      (rw (d, l), d)

  pub reached-directory : {t : Tables} → Reached image t → t.directory ≡ (load_of image).directory
  reached-directory (load b l e) = loaded-directory b e
  reached-directory (step {t} bytes r) = step-directory t bytes ∙ reached-directory r

  pub loaded-holes : (holes : ℕ) → refusal_of (load_of image).outcome ≡ 0 → (tables_of holes image).holes ≡ holes
  unfolding tables_of loaded
  loaded-holes b e = rw (eq-eqb (refusal_of (load_of image).outcome) 0 e)

-- ---- Calls, one after the other.
pub after-append : (t : Tables) (before behind : List (List ℕ)) → after_calls t (before ++ behind) ≡ after_calls (after_calls t before) behind
unfolding after_calls
after-append t [] behind = refl
after-append t (b ∷ before) behind = after-append (step_of t b).tables before behind

pub after-reached : (image : List ℕ) (calls : List (List ℕ)) {t : Tables} → Reached image t → Reached image (after_calls t calls)
unfolding after_calls
after-reached image [] r = r
after-reached image (b ∷ calls) r = after-reached image calls (step b r)

pub after-holes : (t : Tables) (calls : List (List ℕ)) → (after_calls t calls).holes ≡ t.holes
unfolding after_calls
after-holes t [] = refl
after-holes t (b ∷ calls) = after-holes (step_of t b).tables calls ∙ step-holes t b
