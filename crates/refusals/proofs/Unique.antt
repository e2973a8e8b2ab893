-- No second answer: any two results that both meet what a public function of this crate promises are equal. `Post` is the promise itself, as the contract in
-- the source states it. An equation leaves one answer.
use mathlib.Core.Path.{sym, ◌∙◌}
use Rattle.words.proofs.Once.{OneAnswer}
use Rattle.image.proofs.Unique.{refused-once}
use Rattle.refusals.proofs.check.Reads as check

pub first-only : OneAnswer check.Post
first-only κs given r s end end' p q = refused-once r s (p ∙ sym q)
