-- `conditions::enough_on` meets its contract: the ones of set-and-on, counted.
use mathlib.Core.Path.{ap}
use lib.Dec.{leb}
use Rattle.waiting.proofs.conditions.enough_on.Goals as goal

pub returns : goal.returns
returns c = ap (leb c.args.count) c.ones.ensures
