-- `words::sets::dropping` meets its contract: to clear a bit is to drop the number; one that is above the width is in no set.
use mathlib.Core.Path.{◌∙◌}
use native.Mathlib.Omega.{arith}
use borrow.Author.Rules.{rules}
use Rattle.words.proofs.Changes.{bit-cleared, bit-above}
use Rattle.words.proofs.sets.dropping.Goals as goal

pub returns-then-WIDTH-e : goal.returns-then-WIDTH-e
returns-then-WIDTH-e g c = bit-above g.S.Set.WIDTH (g.S.Set.number c.args.set) c.args.e (search rules) (search rules)

pub returns : goal.returns
returns g c =
    let most = g.met.S.Set.most in
    c.narrow.ensures ∙ rw c.wide-wide.ensures.value (bit-cleared 64 (g.S.Set.number c.args.set) c.args.e (omega (arith, c.wide-wide.ensures.value)) (omega arith))
