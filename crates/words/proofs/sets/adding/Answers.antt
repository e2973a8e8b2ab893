-- `words::sets::adding` meets its contract: to set a bit is to add the number, and that stays within the width.
use mathlib.Core.Path.{◌∙◌}
use native.Mathlib.Omega.{arith}
use borrow.Author.Rules.{rules}
use Rattle.words.proofs.Changes.{bit-set, adding-low}
use Rattle.words.proofs.sets.adding.Goals as goal

pub returns : goal.returns
returns g c = let most = g.met.S.Set.most in c.narrow.ensures ∙ rw c.wide.ensures.value (bit-set 64 (g.S.Set.number c.args.set) c.args.e (omega arith))

pub narrow-requires : goal.narrow-requires
narrow-requires g c =
    let most = g.met.S.Set.most in
    rw (bit-set 64 c.wide.result c.args.e (omega arith)) (adding-low g.S.Set.WIDTH c.wide.result c.args.e (search rules) c.requires)
