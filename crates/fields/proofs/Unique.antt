-- No second answer: any two results that both meet what a public function of this crate promises are equal. `Post` is the promise itself, as the contract in
-- the source states it. An equation leaves one answer.
use mathlib.Core.Path.{sym, ◌∙◌}
use Rattle.words.proofs.Once.{OneAnswer}
use Rattle.fields.proofs.first_pass.Reads as first-pass

pub first-pass-only : OneAnswer first-pass.Post
first-pass-only κs given r s end end' p q = p ∙ sym q
