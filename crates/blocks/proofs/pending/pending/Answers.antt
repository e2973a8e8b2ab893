-- `pending::pending` meets its contract: the closure tests each request behind the first slot, which is no block.
use mathlib.Core.Path.{◌∙◌}
use borrow.Author.Rules.{rules}
use borrow.Author.Tests.{tests}
use Rattle.std.proofs.lemmas.Iterator.{YieldsList-from_slice}
use Rattle.std.proofs.lemmas.Iterator.Search.{any_from_yields_List}
use Rattle.tables.specs.State.{read}
use Rattle.tables.proofs.Lengths.{requests-long}
use Rattle.blocks.proofs.Behind.{waited, pending-found}
use Rattle.blocks.proofs.pending.pending.Goals as goal

pub returns : goal.returns
returns c =
    let s = c.args in
    any_from_yields_List (waited (read s.t) s.k) _ _ _ c.any.ensures.ran (YieldsList-from_slice _ c.iter.ensures.rest) (λ x b q k. (search rules, search (rules, tests)))
    ∙ pending-found (read s.t) s.k (requests-long s.t _ c.well_formed.0)
