-- A part of the table that gives a row gives the first, and one that gives none is passed over: so the code asks the parts one after the other. By induction on
-- the rows.
use mathlib.Core.Bool.{Bool, true, false}
use mathlib.Core.Logic.{◌≢◌}
use mathlib.Core.List.{List, [], ◌∷◌, ◌++◌}
use mathlib.Core.Path.{◌≡◌, refl, sym, ◌∙◌}
use Prim.Native.Nat.{ℕ}
use native.Mathlib.Omega.{arith}
use lib.Dec.{ltb}
use borrow.Author.Tests.{ltb-true}
use Rattle.words.specs.Rows.{Row, ◌when◌, first_of}
use Rattle.words.proofs.Truth.{and_left, and_right}
use Rattle.words.proofs.Rows.{Numbered, none, numbered, first-stays, first_past, no_zero}
use Rattle.answers.specs.declared.Refusal.{Refusal}
use Rattle.answers.specs.Answer.{number}
use Rattle.answers.proofs.Cases.{number-some}
use Rattle.tables.specs.State.{State}
use Rattle.calls.specs.declared.Call.{Call}
use Rattle.meaning.specs.Refusals.{call_rows}
use Rattle.refusals.specs.Parts.{rows_to, rows_from, code_rows, named_rows, carried_rows, condition_rows, room_rows}

-- ---- The table in its parts.
all-numbered : (l : List Row) → no_zero l ≡ true → Numbered l
unfolding no_zero
all-numbered [] h = none
all-numbered (r ∷ l) h =
    let some = ltb-true 0 r.number (and_left (ltb 0 r.number) (no_zero l) h) in
    numbered (omega (arith, some)) (all-numbered l (and_right (ltb 0 r.number) (no_zero l) h))

part-stops : {k : ℕ} (l m : List Row) → no_zero l ≡ true → k ≡ first_of l → k ≢ 0 → k ≡ first_of (l ++ m)
part-stops l m h e some = e ∙ sym (first-stays (all-numbered l h) m (λ z. some (e ∙ z)))

part-lets : (l m : List Row) → no_zero l ≡ true → 0 ≡ first_of l → first_of m ≡ first_of (l ++ m)
part-lets l m h e = sym (first_past (all-numbered l h) m (sym e))

module _ (s : State) (c : Call) where
  abbrev from_condition : List Row
  from_condition = condition_rows s c ++ room_rows s c

  abbrev from_carried : List Row
  from_carried = carried_rows s c ++ from_condition

  abbrev from_names : List Row
  from_names = named_rows s c ++ from_carried

  -- the first of a part that gives one, where the parts before it give none
  pub in-code : {k : ℕ} → k ≢ 0 → k ≡ first_of (code_rows s c) → k ≡ first_of (call_rows s c)
  unfolding call_rows rows_to rows_from no_zero
  in-code some e = part-stops (code_rows s c) from_names refl e some

  past-code : 0 ≡ first_of (code_rows s c) → first_of from_names ≡ first_of (call_rows s c)
  unfolding call_rows rows_to rows_from no_zero
  past-code e = part-lets (code_rows s c) from_names refl e

  module _ (z : 0 ≡ first_of (code_rows s c)) where
    pub in-names : {k : ℕ} → k ≢ 0 → k ≡ first_of (named_rows s c) → k ≡ first_of (call_rows s c)
    unfolding call_rows rows_to rows_from no_zero
    in-names some e = part-stops (named_rows s c) from_carried refl e some ∙ past-code z

    module _ (y : 0 ≡ first_of (named_rows s c)) where
      past-names : first_of from_carried ≡ first_of (call_rows s c)
      unfolding call_rows rows_to rows_from no_zero
      past-names = part-lets (named_rows s c) from_carried refl y ∙ past-code z

      pub in-carried : {k : ℕ} → k ≢ 0 → k ≡ first_of (carried_rows s c) → k ≡ first_of (call_rows s c)
      unfolding call_rows rows_to rows_from no_zero
      in-carried some e = part-stops (carried_rows s c) from_condition refl e some ∙ past-names

      module _ (x : 0 ≡ first_of (carried_rows s c)) where
        past-carried : first_of from_condition ≡ first_of (call_rows s c)
        unfolding call_rows rows_to rows_from no_zero
        past-carried = part-lets (carried_rows s c) from_condition refl x ∙ past-names

        pub in-condition : {k : ℕ} → k ≢ 0 → k ≡ first_of (condition_rows s c) → k ≡ first_of (call_rows s c)
        unfolding call_rows rows_to rows_from no_zero
        in-condition some e = part-stops (condition_rows s c) (room_rows s c) refl e some ∙ past-carried

        pub in-room : {k : ℕ} → 0 ≡ first_of (condition_rows s c) → k ≡ first_of (room_rows s c) → k ≡ first_of (call_rows s c)
        unfolding call_rows rows_to rows_from no_zero
        in-room w e = e ∙ part-lets (condition_rows s c) (room_rows s c) refl w ∙ past-carried
