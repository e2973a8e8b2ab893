-- `words::number` meets its contract. The bytes are taken from the high end down: so far, the value is what those behind the ones that are left spell.
use native.Mathlib.Omega.{arith}
use Rattle.words.proofs.Numbers.{spelt-start, spelt-room, spelt-next}
use Rattle.words.proofs.number.Goals as goal

pub loop-byte-init : goal.loop-byte-init
loop-byte-init c = spelt-start _ _ _ _ c.requires.0 cc

pub overflow_mul-value : goal.overflow_mul-value
overflow_mul-value c = omega (arith, spelt-room c.loop-byte.invariant (λ k. (c.type_inv.bytes k).fits) c.requires.1 _ c.in-Some.byte.now c.in-Some.ensures.steps)

pub overflow_add-value : goal.overflow_add-value
overflow_add-value c = omega (arith, spelt-room c.loop-byte.invariant (λ k. (c.type_inv.bytes k).fits) c.requires.1 _ c.in-Some.byte.now c.in-Some.ensures.steps, c.from.ensures)

pub loop-byte-preserved : goal.loop-byte-preserved
loop-byte-preserved c = rw c.from.ensures (spelt-next c.loop-byte.invariant _ c.in-Some.byte.now c.in-Some.ensures.steps)
