-- No second answer: any two results that meet an entry's promise are the same. `Post` is the promise itself, as the contract in the source states it: of the
-- arguments, the result, and the parameters at exit.
use mathlib.Core.Path.{◌≡◌, sym, ◌∙◌}
use Rattle.words.proofs.Once.{OneAnswer}
use Rattle.text.proofs.bytes.Bytes.new.Reads as none
use Rattle.text.proofs.bytes.Bytes.as_slice.Reads as as_slice
use Rattle.text.proofs.bytes.Bytes.with.Reads as with
use Rattle.text.proofs.decimals.all_digits.Reads as all_digits
use Rattle.text.proofs.decimals.plain.Reads as plain
use Rattle.text.proofs.decimals.read.Reads as read
use Rattle.text.proofs.decimals.spell.Reads as spell
use Rattle.text.proofs.word.first.Reads as first

-- Gathered bytes, whatever they have room for.
pub none-only : (room fits : _) → OneAnswer (none.Post room fits)
none-only room fits κs given r s end end' p q = p ∙ sym q

-- what is lent out are the same bytes
pub as-slice-only : (room fits κs given r s end end' : _) → as_slice.Post room fits κs given r end → as_slice.Post room fits κs given s end' → r.now ≡ s.now
as-slice-only room fits κs given r s end end' p q = p ∙ sym q

pub with-only : (room fits : _) → OneAnswer (with.Post room fits)
with-only room fits κs given r s end end' p q = p ∙ sym q

pub all-digits-only : OneAnswer all_digits.Post
all-digits-only κs given r s end end' p q = p ∙ sym q

pub plain-only : OneAnswer plain.Post
plain-only κs given r s end end' p q = p ∙ sym q

pub read_only : OneAnswer read.Post
read_only κs given r s end end' p q = p ∙ sym q

pub first-only : OneAnswer first.Post
first-only κs given r s end end' p q = p.exact ∙ sym q.exact

-- Two spellings of a number have the same digits.
pub spell-only : OneAnswer spell.Post
spell-only κs given r s end end' p q = p.text ∙ sym q.text
