-- No second answer: any two results that both meet what a public function of this crate promises are equal. `Post` is the promise itself, as the contract in
-- the source states it. An equation leaves one answer.
use mathlib.Core.Path.{sym, ◌∙◌}
use Rattle.words.proofs.Once.{OneAnswer}
use Rattle.pools.proofs.U64FromRule.from.Reads as rule
use Rattle.pools.proofs.find.Reads as find
use Rattle.pools.proofs.long_enough.Reads as long-enough
use Rattle.pools.proofs.mask.Reads as mask
use Rattle.pools.proofs.grant.Reads as grant
use Rattle.pools.proofs.give_back.Reads as give-back

pub rule-only : OneAnswer rule.Post
rule-only κs given r s end end' p q = p ∙ sym q

pub find-only : OneAnswer find.Post
find-only κs given r s end end' p q = p ∙ sym q

pub long-enough-only : OneAnswer long-enough.Post
long-enough-only κs given r s end end' p q = p ∙ sym q

pub mask-only : OneAnswer mask.Post
mask-only κs given r s end end' p q = p ∙ sym q

pub grant-only : OneAnswer grant.Post
grant-only κs given r s end end' p q = p ∙ sym q

pub give-back-only : OneAnswer give-back.Post
give-back-only κs given r s end end' p q = p ∙ sym q
