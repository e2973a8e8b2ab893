-- The walk and the two passes are the table rules: what is shown before each answer makes it so (Decides).
use mathlib.Core.Path.{sym, ◌∙◌}
use Rattle.rules.proofs.Decides.{unsound, orderly, first-fails, second-decides}
use Rattle.rules.proofs.holds.Goals as goal

pub returns-in_default : goal.returns-in_default
returns-in_default c = unsound c.args.t c.in_default.ensures.right

pub second_pass-requires : goal.second_pass-requires
second_pass-requires c =
    let w = c.in-Some.ensures in
    orderly c.args.t (w.sound (sym w.right)) (sym c.first_pass.ensures ∙ c.if-first_pass.true)

pub returns-then-first_pass : goal.returns-then-first_pass
returns-then-first_pass c =
    let w = c.in-Some.ensures in
    let e = sym w.right in
    c.second_pass.ensures ∙ second-decides c.args.t (w.sound e) e (sym c.first_pass.ensures ∙ c.if-first_pass.true)

pub returns-else-first_pass : goal.returns-else-first_pass
returns-else-first_pass c =
    let w = c.in-Some.ensures in
    rw c.if-first_pass.false (first-fails c.args.t (w.sound (sym w.right)) (sym c.if-first_pass.false ∙ c.first_pass.ensures))
