-- `turns::timer` meets its contract: the clock goes on by 1, and where N divides it the time waiters are looked at.
use native.Mathlib.Omega.{arith}
use borrow.Author.Tests.{eq-eqb, ne_eqb}
use Rattle.meaning.specs.Services.{timer}
use Rattle.tasking.proofs.Ticks.{clock-shape}
use Rattle.tasking.proofs.turns.timer.Goals as goal

pub overflow_add-u : goal.overflow_add-u
overflow_add-u c = omega (arith, c.requires.1)

pub nonzero_rem-u : goal.nonzero_rem-u
nonzero_rem-u c = omega (arith, c.requires.0.state.shape.directory.every)

pub wake_time-requires : goal.wake_time-requires
wake_time-requires c =
    let g = c.requires.0 in
    (g.pointers, clock-shape _ (omega arith) g.state.shape)

pub returns-then-u-eq0 : goal.returns-then-u-eq0
unfolding timer
returns-then-u-eq0 c = λ d. rw (eq-eqb _ _ c.if-u-eq0.true) c.wake_time.ensures

pub returns : goal.returns
unfolding timer
returns c = λ d. record { sound = c.requires.0.pointers; reads = rw (ne_eqb _ _ c.if-u-eq0.false) }
