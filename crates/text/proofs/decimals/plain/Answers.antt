-- `decimals::plain` meets its contract: digits have a first one.
use Rattle.std.proofs.Common.{length, sym, ◌∙◌}
use borrow.Author.Tests.{ne_eqb}
use Rattle.text.specs.Decimals.{plain}
use Rattle.text.proofs.Digits.{some}
use Rattle.text.proofs.decimals.plain.Goals as goal

pub bounds-bytes-0 : goal.bounds-bytes-0
bounds-bytes-0 c = some _ (sym c.all_digits.ensures ∙ c.if-all_digits.true)

pub returns-then-bytes-eq1 : goal.returns-then-bytes-eq1
unfolding plain
returns-then-bytes-eq1 c = rw (sym c.all_digits.ensures ∙ c.if-all_digits.true, c.if-bytes-eq1.true)

pub returns-else-bytes-eq1 : goal.returns-else-bytes-eq1
unfolding plain
returns-else-bytes-eq1 c = rw (sym c.all_digits.ensures ∙ c.if-all_digits.true, ne_eqb (length c.args.bytes.now) 1 c.if-bytes-eq1.false)

pub returns-else-all_digits : goal.returns-else-all_digits
unfolding plain
returns-else-all_digits c = rw (sym c.all_digits.ensures, c.if-all_digits.false)
