-- `seal` meets its contract: the last two bytes are put in, and the check is of those below, `seal-made`.
use borrow.Author.Rules.{rules}
use Rattle.sealed.proofs.Seals.{seal-made}
use Rattle.sealed.proofs.seal.Goals as goal

pub returns : goal.returns
returns c = seal-made c.args.block.now (search rules) c.check-number.ensures c.digit.ensures c.digit-2.ensures
