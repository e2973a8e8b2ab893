-- "9 | .. never after an accepted load and calls": where the rules hold, no row of the number 9 is left. By the numbers of the rows.
use mathlib.Core.Bool.{Bool, true, false, not, ◌||◌, or-true, true≢false}
use mathlib.Core.Path.{◌≡◌, refl, sym}
use mathlib.Core.Logic.{◌≢◌}
use mathlib.Core.List.{List, [], ◌∷◌}
use Prim.Native.Nat.{ℕ}
use native.Mathlib.Omega.{arith}
use lib.ListN.{length}
use lib.Dec.{eqb}
use borrow.Author.Tests.{eq-eqb}
use Rattle.words.specs.Words.{if◌then◌else◌, ◌among◌}
use Rattle.words.specs.Rows.{Row, ◌when◌, first_of}
use Rattle.answers.specs.Answer.{Refused}
use Rattle.tables.specs.declared.Tables.{Tables}
use Rattle.tables.specs.State.{read}
use Rattle.calls.specs.Calls.{call_of}
use Rattle.meaning.specs.Rules.{rules_hold}
use Rattle.meaning.specs.Refusals.{call_rows, refusals}
use Rattle.meaning.specs.Step.{step_of}
use Rattle.lawful.proofs.Told.Ends.{refused-where, step-outcome}
use Rattle.threads.specs.Threads.{QUEUES}

-- the numbers of rows; what the first that applies gives is one of them
numbers_of : List Row → List ℕ
numbers_of [] = []
numbers_of (r ∷ l) = r.number ∷ numbers_of l

one-of-them : (l : List Row) → first_of l ≢ 0 → first_of l among numbers_of l ≡ true
unfolding first_of numbers_of ◌among◌
one-of-them [] d = absurd (d refl)
one-of-them (r ∷ l) d = go r.applies d (one-of-them l)
  where
    go : (b : Bool) → (if b then r.number else first_of l) ≢ 0 → (first_of l ≢ 0 → first_of l among numbers_of l ≡ true)
        → (eqb r.number (if b then r.number else first_of l) || (if b then r.number else first_of l) among numbers_of l) ≡ true
    go true d ih = rw (eq-eqb r.number r.number refl)
    go false d ih = rw (ih d) (or-true (eqb r.number (first_of l)))

pub not-nine : (t : Tables) (bytes : List ℕ) → rules_hold t ≡ true → (step_of t bytes).outcome ≢ Refused 9
unfolding numbers_of refusals call_rows first_of ◌among◌
not-nine t bytes h e =
    let w = ((refused-where (step-outcome t bytes) 9).0 e).0 in
    let l = 10 when (not (eqb (length bytes) 16)) ∷ call_rows (read t) (call_of bytes) in
    let nine : first_of l ≡ QUEUES = rw h at w in
    let m : 9 among numbers_of l ≡ true = rw nine at (one-of-them l (λ z. omega (arith, z, nine))) in
    true≢false (sym m)
