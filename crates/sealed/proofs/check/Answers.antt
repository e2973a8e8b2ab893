-- `check` meets its contract: the loop is `downward`, which gives the weighted sum, and both sums stay low, `Running`.
use borrow.Author.Rules.{rules}
use Rattle.sealed.specs.Sealed.{check_of}
use Rattle.sealed.proofs.Sums.{running-start, running-next, running-end}
use Rattle.sealed.proofs.check.Goals as goal

pub loop-byte-init : goal.loop-byte-init
loop-byte-init c = running-start _ _ c.requires cc

pub loop-byte-preserved : goal.loop-byte-preserved
loop-byte-preserved c = rw c.from-total.ensures (running-next c.loop-byte.invariant _ c.in-Some.byte.now c.in-Some.ensures.steps (search rules))

pub returns : goal.returns
unfolding check_of
returns c = rw (c.from.ensures, running-end c.loop-byte.invariant c.in-None.ensures.steps.0)
