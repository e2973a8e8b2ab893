-- No second answer: any two results that both meet what a public function of this crate promises are equal. `Post` is the promise itself, as the contract in
-- the source states it. An equation leaves one answer.
use mathlib.Core.Path.{sym, ◌∙◌}
use Rattle.words.proofs.Once.{OneAnswer}
use Rattle.rules.proofs.holds.Reads as holds

pub holds-only : OneAnswer holds.Post
holds-only κs given r s end end' p q = p ∙ sym q
