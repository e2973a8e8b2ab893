-- How a step, a load and a write end: refused by the number that their rows give, or accepted where they give none. One law of an outcome and a number serves all three.
-- By whether the number is 0.
use mathlib.Core.Bool.{true}
use mathlib.Core.Path.{◌≡◌, refl, sym, ap, ◌∙◌}
use mathlib.Core.Logic.{◌≢◌, ◌⊎◌, inl, inr, ⊎_elim, ◌↔◌}
use mathlib.Core.List.{List}
use Prim.Native.Nat.{ℕ, ◌≤◌}
use native.Mathlib.Omega.{arith}
use borrow.Author.Tests.{eq-eqb, ne_eqb}
use Rattle.words.proofs.Truth.{tested}
use Rattle.words.specs.Rows.{first_of}
use Rattle.image.specs.declared.Directory.{Directory}
use Rattle.answers.specs.Answer.{Outcome, Refused, Accepted, refusal_of, result_of}
use Rattle.image.specs.Directory.{no_directory}
use Rattle.image.specs.Load.{Loaded, directory_of, load_rows, refused_load, load_of}
use Rattle.image.specs.Write.{image_of, write_rows, Written, write_of}
use Rattle.image.proofs.Loads.{good, load-refused, load-accepted, check-is-load}
use Rattle.tables.specs.declared.Tables.{Tables}
use Rattle.tables.specs.State.{read, tabled, all_zero}
use Rattle.calls.specs.Calls.{call_of}
use Rattle.answers.proofs.Cases.{refused-by}
use Rattle.meaning.specs.Rules.{directory_passes}
use Rattle.meaning.specs.Refusals.{refusals}
use Rattle.meaning.specs.Services.{effect}
use Rattle.meaning.specs.Step.{Step, refused, accepted, step_of, tables_of}
use Rattle.lawful.proofs.Tested.Directory.{modules-some, passing}

-- ---- An outcome that is the refusal by n, or, where n is 0, the acceptance with r.
abbrev pub Ends : Outcome → ℕ → ℕ → Type 0
Ends o n r = ((n ≢ 0) × (o ≡ Refused n)) ⊎ ((n ≡ 0) × (o ≡ Accepted r))

refused-only : (o : Outcome) (n m : ℕ) → o ≡ Refused n → o ≡ Refused m → n ≡ m
refused-only o n m p q = cc

accepted-only : (o : Outcome) (n m : ℕ) → o ≡ Accepted n → o ≡ Accepted m → n ≡ m
accepted-only o n m p q = cc

not-both : (o : Outcome) (n m : ℕ) → o ≡ Refused n → o ≡ Accepted m → ⊥
not-both o n m p q = let z : ◌≡◌ {A = ℕ} 0 1 = cc in omega arith

module _ {o : Outcome} {n r : ℕ} (e : Ends o n r) where
  pub refused-where : (m : ℕ) → (o ≡ Refused m) ↔ ((n ≡ m) × (m ≢ 0))
  refused-where m = (
    λ q. ⊎_elim (λ z. let i = refused-only o n m z.1 q in (i, λ j. z.0 (i ∙ j))) (λ z. absurd (not-both o m r q z.1)) e,
    λ q. ⊎_elim (λ z. z.1 ∙ ap Refused q.0) (λ z. absurd (q.1 (sym q.0 ∙ z.0))) e,
  )

  pub accepted-where : (m : ℕ) → (o ≡ Accepted m) ↔ ((n ≡ 0) × (r ≡ m))
  accepted-where m = (
    λ q. ⊎_elim (λ z. absurd (not-both o n m z.1 q)) (λ z. (z.0, accepted-only o r m z.1 q)) e,
    λ q. ⊎_elim (λ z. absurd (z.0 q.0)) (λ z. z.1 ∙ ap Accepted q.1) e,
  )

  -- the two numbers of the answer: not both are 0
  pub some_result : (n ≡ 0 → r ≢ 0) → refusal_of o ≡ 0 → result_of o ≢ 0
  some_result f q = ⊎_elim (λ z. absurd (z.0 (ap refusal_of (sym z.1) ∙ q))) (λ z j. f z.0 (ap result_of (sym z.1) ∙ j)) e

-- ---- A step.
module _ (t : Tables) (bytes : List ℕ) where
  pub step-ends : ((first_of (refusals t bytes) ≢ 0) × (step_of t bytes ≡ refused t (first_of (refusals t bytes)))) ⊎ ((first_of (refusals t bytes) ≡ 0) × (step_of t bytes ≡ accepted t bytes))
  unfolding step_of
  step-ends = ⊎_elim (λ z. inr (z.1, rw z.0)) (λ z. inl (z.1, rw z.0)) (tested (first_of (refusals t bytes)) 0)

  pub step-outcome : Ends (step_of t bytes).outcome (first_of (refusals t bytes)) (effect (read t) (call_of bytes)).result
  unfolding refused accepted
  step-outcome = ⊎_elim (λ z. inl (z.0, ap (λ (x : Step). x.outcome) z.1 ∙ refused-by (first_of (refusals t bytes)) z.0)) (λ z. inr (z.0, ap (λ (x : Step). x.outcome) z.1)) step-ends

-- "leaves every table as it found it"
pub refused-leaves : (t : Tables) (n : ℕ) → (refused t n).tables ≡ t
unfolding refused
refused-leaves t n = refl

-- ---- A load.
module _ (image : List ℕ) where
  pub load-ends : ((first_of (load_rows image) ≢ 0) × (load_of image ≡ refused_load (first_of (load_rows image))))
      ⊎ ((first_of (load_rows image) ≡ 0) × (load_of image ≡ record { outcome = Accepted (directory_of image).modules; directory = directory_of image }))
  load-ends = ⊎_elim (λ z. inr (z.1, load-accepted image z.1)) (λ z. inl (z.1, load-refused image z.1)) (tested (first_of (load_rows image)) 0)

  pub load-outcome : Ends (load_of image).outcome (first_of (load_rows image)) (directory_of image).modules
  unfolding refused_load
  load-outcome = ⊎_elim (λ z. inl (z.0, ap (λ (x : Loaded). x.outcome) z.1 ∙ refused-by (first_of (load_rows image)) z.0)) (λ z. inr (z.0, ap (λ (x : Loaded). x.outcome) z.1)) load-ends

  -- its tables, and its directory
  pub refused-tables : (holes n : ℕ) → (load_of image).outcome ≡ Refused n → (tables_of holes image ≡ tabled all_zero) × ((load_of image).directory ≡ no_directory)
  unfolding tables_of refused_load
  refused-tables holes n e =
      ⊎_elim (λ z. rw (z.1, refused-by (first_of (load_rows image)) z.0, ne_eqb (first_of (load_rows image)) 0 z.0) (refl, refl))
      (λ z. absurd (let w = (refused-where load-outcome n).0 e in w.1 (sym w.0 ∙ z.0))) load-ends

  -- its M is 1 to 32
  pub loaded-modules : refusal_of (load_of image).outcome ≡ 0 → (1 ≤ result_of (load_of image).outcome) × (result_of (load_of image).outcome ≤ 32)
  unfolding directory_passes
  loaded-modules e =
      let none = sym (check-is-load image) ∙ e in
      let d = directory_of image in
      let p : directory_passes d ≡ true = eq-eqb _ 0 (good image none).sound in
      rw (load-accepted image none) (modules-some d p, (passing d p).modules)

-- ---- A write.
module _ (d : Directory) (buffer : List ℕ) where
  pub write-ends : ((first_of (write_rows d buffer) ≢ 0) × (write_of d buffer ≡ record { outcome = Refused (first_of (write_rows d buffer)); buffer = buffer }))
      ⊎ ((first_of (write_rows d buffer) ≡ 0) × (write_of d buffer ≡ record { outcome = Accepted 1; buffer = image_of d }))
  unfolding write_of
  write-ends = ⊎_elim (λ z. inr (z.1, rw z.0)) (λ z. inl (z.1, rw z.0)) (tested (first_of (write_rows d buffer)) 0)

  pub write-outcome : Ends (write_of d buffer).outcome (first_of (write_rows d buffer)) 1
  write-outcome = ⊎_elim (λ z. inl (z.0, ap (λ (x : Written). x.outcome) z.1)) (λ z. inr (z.0, ap (λ (x : Written). x.outcome) z.1)) write-ends
