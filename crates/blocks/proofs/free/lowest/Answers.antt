-- `free::lowest` meets its contract: the least of a set of 32 is at most 32, so it fits.
use native.Mathlib.Omega.{arith}
use lib.Count.{trailing_le}
use Rattle.blocks.proofs.free.lowest.Goals as goal

pub overflow_cast-result : goal.overflow_cast-result
overflow_cast-result c = omega (arith, c.least.ensures, trailing_le 32 c.args.blocks)
