-- No second answer: two lines that both meet a function's promise hold the same bytes.
-- `Post` is the promise itself, as the contract in the source states it: of the arguments, the result, and the parameters at exit.
use mathlib.Core.Path.{sym, ◌∙◌}
use Rattle.words.proofs.Once.{OneAnswer}
use Rattle.readings.proofs.changed.Reads as changed
use Rattle.readings.proofs.begun.Reads as begun

pub changed-only : OneAnswer changed.Post
changed-only κs given r s end end' p q = p.adds.text ∙ sym q.adds.text

pub begun-only : OneAnswer begun.Post
begun-only κs given r s end end' p q = p.adds.text ∙ sym q.adds.text
