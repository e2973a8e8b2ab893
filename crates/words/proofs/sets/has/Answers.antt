-- `words::sets::has` meets its contract: bit e of the word; a number above the width is in no set.
use mathlib.Core.Path.{sym}
use borrow.Author.Rules.{rules}
use Rattle.words.proofs.Members.{has_above}
use Rattle.words.proofs.sets.has.Goals as goal

pub returns-then-WIDTH-e : goal.returns-then-WIDTH-e
returns-then-WIDTH-e g c = sym (has_above g.S.Set.WIDTH (g.S.Set.number c.args.set) c.args.e (search rules) (search rules))
