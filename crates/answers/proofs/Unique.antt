-- No second answer: any two numbers that both meet what a refusal's conversion promises are equal, and so of what `Numbered` promises, at each of its types. `Post`
-- is the promise itself, as the impl in the source states it.
use mathlib.Core.Path.{sym, ◌∙◌}
use Rattle.words.proofs.Once.{OneAnswer}
use Rattle.answers.proofs.U8FromRefusal.from.Reads as from
use Rattle.answers.proofs.RefusalNumbered.numbered.Reads as of-refusal
use Rattle.answers.proofs.U8Numbered.numbered.Reads as of-number

pub number-only : OneAnswer from.Post
number-only κs given r s end end' p q = p ∙ sym q

pub refusal-numbered-only : OneAnswer of-refusal.Post
refusal-numbered-only κs given r s end end' p q = p ∙ sym q

pub number-numbered-only : OneAnswer of-number.Post
number-numbered-only κs given r s end end' p q = p ∙ sym q
