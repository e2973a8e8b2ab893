-- `decimals::read` meets its contract: bytes that are not digits are no number.
use Rattle.std.proofs.Common.{sym, ◌∙◌}
use Rattle.text.specs.Decimals.{number_of}
use Rattle.text.proofs.decimals.read.Goals as goal

pub returns-then-all_digits : goal.returns-then-all_digits
unfolding number_of
returns-then-all_digits c = rw (sym c.all_digits.ensures ∙ c.if-all_digits.true) c.value.ensures

pub returns-else-all_digits : goal.returns-else-all_digits
unfolding number_of
returns-else-all_digits c = rw (sym c.all_digits.ensures ∙ c.if-all_digits.false)
