-- `pools::grant` meets its contract: the run is apart from what is granted, so to set its bits is to add it.
use mathlib.Core.Path.{ap, ◌∙◌}
use lib.Bits.{bit_or}
use Rattle.pools.proofs.Runs.{granted-set}
use Rattle.pools.proofs.grant.Goals as goal

pub returns : goal.returns
returns c =
    let s = c in
    ap (bit_or s.args.granted) c.mask.ensures ∙ granted-set s.args.granted s.args.start s.args.n s.requires
