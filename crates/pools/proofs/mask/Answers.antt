-- `pools::mask` meets its contract: 64 ones, shifted down to n of them and up to the start; no units, no bits.
use Rattle.pools.proofs.Runs.{run-shifted}
use Rattle.pools.proofs.mask.Goals as goal

pub returns : goal.returns
returns c = run-shifted c.args.start c.args.n c.requires
