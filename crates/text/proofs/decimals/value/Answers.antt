-- `decimals::value` meets its contract: the value so far fits, and the digits that are left make the whole of it, the laws of `Digits`.
use Rattle.std.proofs.Common.{sym, ◌∙◌, rules, arith}
use Rattle.text.proofs.Digits.{count-start, count_next, count-large, count-end}
use Rattle.text.proofs.decimals.value.Goals as goal

pub loop-byte-init : goal.loop-byte-init
loop-byte-init c = count-start _ _

pub returns-then-not-room : goal.returns-then-not-room
returns-then-not-room c = count-large c.loop-byte.invariant c.from-next.result (search rules) (search rules) (sym c.room.ensures ∙ c.if-not-room.true)

pub overflow_mul-so_far : goal.overflow_mul-so_far
overflow_mul-so_far c =
    let next = count_next c.loop-byte.invariant c.from-next.result (search rules) (search rules) (sym c.room.ensures ∙ c.if-not-room.false) in
    record { fits = omega (arith, next.low) }

pub overflow_add-so_far : goal.overflow_add-so_far
overflow_add-so_far c =
    let next = count_next c.loop-byte.invariant c.from-next.result (search rules) (search rules) (sym c.room.ensures ∙ c.if-not-room.false) in
    record { fits = omega (arith, next.low) }

pub loop-byte-preserved : goal.loop-byte-preserved
loop-byte-preserved c = count_next c.loop-byte.invariant c.from-next.result (search rules) (search rules) (sym c.room.ensures ∙ c.if-not-room.false)

pub returns : goal.returns
returns c = count-end c.loop-byte.invariant (search rules)
