-- `Call::try_from` meets its contract: the fields are read as they stand, and a number of four bytes fits in 32 bits.
use borrow.Author.Tests.{eq-eqb, ne_eqb}
use borrow.Author.Rules.{rules}
use Rattle.words.proofs.Numbers.{number-below}
use Rattle.calls.specs.Calls.{call_of, arrival}
use Rattle.calls.proofs.CallTryFromRefSliceU8.try_from.Goals as goal

pub returns-then-bytes-ne16 : goal.returns-then-bytes-ne16
unfolding arrival
returns-then-bytes-ne16 c = rw (ne_eqb _ 16 c.if-bytes-ne16.true)

pub overflow_cast-result : goal.overflow_cast-result
overflow_cast-result c = record { fits = rw c.number.ensures (number-below _ (search rules) _ 4) }

pub returns : goal.returns
unfolding arrival call_of
returns c = rw (c.number.ensures, c.number-2.ensures, eq-eqb _ 16 c.if-bytes-ne16.false)
