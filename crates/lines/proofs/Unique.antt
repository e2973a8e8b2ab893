-- No second answer: two lines that both meet a function's promise hold the same bytes.
-- `Post` is the promise itself, as the contract in the source states it: of the arguments, the result, and the parameters at exit.
use mathlib.Core.Path.{◌≡◌, sym, ◌∙◌}
use Rattle.words.proofs.Once.{OneAnswer}
use Rattle.lines.proofs.Line.new.Reads as empty
use Rattle.lines.proofs.Line.bytes.Reads as bytes
use Rattle.lines.proofs.LineFromAnswer.from.Reads as answer
use Rattle.lines.proofs.Line.text.Reads as text
use Rattle.lines.proofs.Line.field.Reads as field
use Rattle.lines.proofs.Line.members.Reads as members

pub empty-only : OneAnswer empty.Post
empty-only κs given r s end end' p q = p.text ∙ sym q.text

-- what is lent out are the same bytes
pub bytes-only : (κs : _) (given : _) (r s : _) (end end' : _) → bytes.Post κs given r end → bytes.Post κs given s end' → r.now ≡ s.now
bytes-only κs given r s end end' p q = p ∙ sym q

pub answer-only : OneAnswer answer.Post
answer-only κs given r s end end' p q = p.text ∙ sym q.text

pub text-only : OneAnswer text.Post
text-only κs given r s end end' p q = p.text ∙ sym q.text

pub field-only : OneAnswer field.Post
field-only κs given r s end end' p q = p.adds.text ∙ sym q.adds.text

pub members_only : OneAnswer members.Post
members_only κs given r s end end' p q = p.adds.text ∙ sym q.adds.text
