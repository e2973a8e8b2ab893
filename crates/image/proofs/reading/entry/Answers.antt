-- `reading::entry` meets its contract: a number of four bytes fits in 32 bits.
use Prim.Native.Nat.{◌+◌, ◌*◌}
use native.Mathlib.Omega.{arith}
use Rattle.words.proofs.Numbers.{number-below}
use Rattle.image.specs.Load.{entry_from}
use Rattle.image.proofs.reading.entry.Goals as goal

pub overflow_cast-result : goal.overflow_cast-result
overflow_cast-result c = omega (arith, c.shared_slice_known-4-1.given (16 + 8 * c.args.m + 2))

pub overflow_cast-result-2 : goal.overflow_cast-result-2
overflow_cast-result-2 c =
    let low = number-below c.args.bytes.now (λ k. (c.shared_slice_known-4-1.given k).fits) (16 + 8 * c.args.m + 4) 4 in
    omega (arith, c.number.ensures, low)

pub returns : goal.returns
unfolding entry_from
returns c = rw c.number.ensures
