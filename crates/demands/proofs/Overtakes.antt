-- Document 01: "Nobody overtakes." Of the tables that are reached from an image, and any call, refused or not.
use mathlib.Core.Logic.{⊎_elim}
use mathlib.Core.List.{List}
use Prim.Native.Nat.{ℕ, ◌≤◌}
use Rattle.words.proofs.Truth.{tested}
use Rattle.words.specs.Rows.{first_of}
use Rattle.tables.specs.declared.Tables.{Tables}
use Rattle.tables.specs.State.{read}
use Rattle.calls.specs.Calls.{call_of}
use Rattle.meaning.specs.Refusals.{refusals}
use Rattle.meaning.specs.Step.{refused, accepted, step_of}
use Rattle.lawful.specs.InTurn.{InTurn}
use Rattle.lawful.specs.Reached.{Reached}
use Rattle.lawful.proofs.Tested.Accepted.{accepts, rows_left}
use Rattle.lawful.proofs.Each.Keeps.{keeps}
use Rattle.lawful.proofs.Told.Overtakes.{none-overtakes}
use Rattle.lawful.proofs.Told.Steps.{read-tabled, reached-lawful}
use Rattle.lawful.proofs.Told.Turns.{stays}

-- after any call, of those who waited for core of a level the first are served and have left, the others stand as they stood, and who is new stands behind them; and
-- who holds core of the level held it before the call, or was one of those served, or nobody is left waiting of those who waited
pub nobody-overtakes : (image : List ℕ) {t : Tables} → Reached image t → (bytes : List ℕ) (level : ℕ) → 1 ≤ level → level ≤ 3
    → InTurn (read t) (read (step_of t bytes).tables) level
unfolding step_of accepted refused
nobody-overtakes image {t} reached bytes level lo hi =
    ⊎_elim
    (λ z.
    let g = (reached-lawful image reached).state in
    let a = accepts (read t) (call_of bytes) (rows_left t bytes z.1).rows g in
    rw (z.0, read-tabled (keeps g a)) ((none-overtakes g a).turn level lo hi))
    (λ z. rw z.0 ((stays {o = read t} (read t)).turn level lo hi)) (tested (first_of (refusals t bytes)) 0)
