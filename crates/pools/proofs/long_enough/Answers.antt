-- `pools::long_enough` meets its contract, by what `find` found.
use mathlib.Core.Path.{ap, ◌∙◌}
use Rattle.std.specs.Option.{is_some}
use Rattle.pools.specs.Pools.{LowestStart}
use Rattle.pools.proofs.Starts.{found-long}
use Rattle.pools.proofs.long_enough.Goals as goal

pub returns : goal.returns
returns c = c.is_some.ensures ∙ ap is_some c.find.ensures ∙ found-long LowestStart c.args.granted c.args.n
