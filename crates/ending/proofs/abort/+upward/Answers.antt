-- `upward` meets its contract: one step leaves what the law of the abort says, and where there is a parent the call on it does the rest, with less left of the chain.
use native.Mathlib.Omega.{arith}
use Rattle.ending.proofs.Aborts.{abort-left, step-last, step-asks, step-tells}
use Rattle.ending.proofs.abort.+upward.Goals as goal

pub returns-then-parent-eq0 : goal.returns-then-parent-eq0
returns-then-parent-eq0 t c = step-last c.requires c.one.ensures c.if-parent-eq0.true

pub overflow_sub-left : goal.overflow_sub-left
overflow_sub-left t c = abort-left c.args.left c.requires.1

pub upward-requires : goal.upward-requires
upward-requires t c =
    (omega (arith, abort-left c.args.left c.requires.1, c.decreases), step-asks c.requires c.one.ensures c.if-parent-eq0.false)

pub returns : goal.returns
returns t c = step-tells c.requires c.one.ensures _ c.upward.ensures
