-- `khilzurgee_advance` meets its contract: the line and the tables of what `step` gives.
use mathlib.Core.Path.{ap, ◌∙◌}
use Rattle.meaning.specs.Step.{Step, line_of}
use Rattle.executive.proofs.khilzurgee_advance.Goals as goal

pub returns : goal.returns
returns c =
    let step = c.step-next.ensures in
    (c.store.ensures.0 ∙ ap line_of step, c.store.ensures.1 ∙ ap (λ (x : Step). x.tables) step)
