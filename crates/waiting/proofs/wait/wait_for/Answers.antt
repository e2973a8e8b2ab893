-- `wait::wait_for` meets its contract, by the kind.
use borrow.Author.Tests.{eq-eqb, ne_eqb}
use Rattle.meaning.specs.Conditions.{waiting}
use native.Mathlib.Omega.{arith}
use Rattle.tables.proofs.Held.{loose-free}
use Rattle.waiting.proofs.wait.wait_for.Goals as goal

pub returns-then-c-eq1 : goal.returns-then-c-eq1
unfolding waiting
returns-then-c-eq1 c = rw (eq-eqb _ _ c.if-c-eq1.true) c.wait_for_events.ensures

pub wait_for_time-requires : goal.wait_for_time-requires
wait_for_time-requires c =
    let p = c.requires in
    (p.0.held, loose-free _ p.0 (omega arith), p.0.low, p.1 c.if-c-eq1.false)

pub returns : goal.returns
unfolding waiting
returns c = rw (ne_eqb _ _ c.if-c-eq1.false) c.wait_for_time.ensures
