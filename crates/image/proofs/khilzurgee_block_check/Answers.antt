-- the exported block check meets its contract: a check fits in two bytes.
use native.Mathlib.Omega.{arith}
use borrow.Author.Rules.{rules}
use borrow.Author.Tests.{eq-eqb, ne_eqb}
use lib.ListN.{length}
use Rattle.sealed.specs.Sealed.{block_check}
use Rattle.sealed.proofs.Seals.{check-low}
use Rattle.image.proofs.khilzurgee_block_check.Goals as goal

pub returns-then-block-ne512 : goal.returns-then-block-ne512
unfolding block_check
returns-then-block-ne512 c = rw (ne_eqb (length c.args.block.now) 512 (search rules))

pub overflow_cast-result : goal.overflow_cast-result
overflow_cast-result c = omega (arith, c.check.ensures, check-low c.args.block.now)

pub returns : goal.returns
unfolding block_check
returns c = rw (eq-eqb (length c.args.block.now) 512 (search rules)) c.check.ensures
