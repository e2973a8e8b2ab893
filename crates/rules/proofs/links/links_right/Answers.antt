-- The rules over links and core: what is gathered tells them (Seen).
use Rattle.rules.proofs.Seen.{seen_end}
use Rattle.rules.proofs.links.links_right.Goals as goal

pub returns : goal.returns
returns c =
    seen_end c.args.t.now c.requires c.seen-g.ensures c.exact.ensures c.exact-2.ensures c.exact-3.ensures c.exact-4.ensures
