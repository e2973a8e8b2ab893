-- `load` meets its contract, accepted and refused.
use mathlib.Core.Path.{ap, ◌∙◌}
use Prim.Native.Nat.{ℕ}
use Rattle.answers.specs.Answer.{Outcome, Accepted, Refused, number}
use Rattle.tables.specs.declared.Tables.{Tables}
use Rattle.tables.specs.State.{loaded, tabled}
use Rattle.meaning.specs.Step.{Step}
use Rattle.executive.proofs.Begins.{begun-accepted, begun-refused, accepted-small}
use Rattle.executive.proofs.load.Goals as goal

abbrev made : Outcome → Tables → Step
made o t = record { tables = t; outcome = o }

pub overflow_cast-modules : goal.overflow_cast-modules
overflow_cast-modules c = record { fits = accepted-small _ _ c.in-Ok.ensures }

pub returns-in-Ok : goal.returns-in-Ok
returns-in-Ok c =
    let d = c.in-Ok.directory in
    ap (made (Accepted d.modules)) (c.loaded.ensures ∙ ap (λ (n : ℕ). tabled (loaded n d)) c.from.ensures) ∙ begun-accepted _ _ d c.in-Ok.ensures

pub returns-in-Err : goal.returns-in-Err
returns-in-Err c = ap (made (Refused (number c.in-Err.refusal))) c.all_zero.ensures ∙ begun-refused _ _ _ c.in-Err.ensures
