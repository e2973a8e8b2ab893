-- `tests::either` meets its contract: a list of two has no third.
use mathlib.Core.Bool.{Bool, ◌||◌, or-false}
use mathlib.Core.Path.{sym, ap}
use lib.Dec.{eqb}
use Rattle.words.specs.Words.{◌among◌}
use Rattle.refusals.proofs.tests.either.Goals as goal

pub returns : goal.returns
unfolding ◌among◌
returns c = ap (λ (t : Bool). eqb c.args.a c.args.code || t) (sym (or-false _))
