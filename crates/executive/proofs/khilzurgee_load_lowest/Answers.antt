-- `khilzurgee_load_lowest` meets its contract: the line and the tables of what `load` gives.
use mathlib.Core.Path.{◌∙◌}
use Rattle.executive.proofs.Begins.{begun-stored}
use Rattle.executive.proofs.khilzurgee_load_lowest.Goals as goal

pub returns : goal.returns
returns c =
    let both = begun-stored _ _ _ c.load.ensures in
    (c.store.ensures.0 ∙ both.0, c.store.ensures.1 ∙ both.1)
