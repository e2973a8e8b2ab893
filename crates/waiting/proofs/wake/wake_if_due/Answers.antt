-- `wake::wake_if_due` meets its contract, by the queue and its test.
use borrow.Author.Tests.{eq-eqb, ne_eqb, le-leb, lt-leb}
use mathlib.Core.Path.{sym, ◌∙◌}
use native.Mathlib.Omega.{arith}
use Rattle.lawful.proofs.Blocks.Members.{member-low}
use Rattle.meaning.specs.Conditions.{enough}
use Rattle.meaning.specs.Services.{woken, timely}
use Rattle.waiting.specs.Wake.{woken_in}
use Rattle.waiting.proofs.wake.wake_if_due.Goals as goal

pub bounds-t-k : goal.bounds-t-k
bounds-t-k c = let w = c.requires.0 in omega (arith, member-low w.shape c.args.k _ w.low w.here)

pub returns-then-enough_on : goal.returns-then-enough_on
unfolding woken_in woken enough
returns-then-enough_on c =
    let q = c.if-q-eq-EVENT_QUEUE.true in
    rw (eq-eqb _ _ q, sym c.enough_on.ensures ∙ c.if-enough_on.true) (rw q at c.wake.ensures)

pub returns-then-q-eq-EVENT_QUEUE : goal.returns-then-q-eq-EVENT_QUEUE
unfolding woken_in woken enough
returns-then-q-eq-EVENT_QUEUE c =
    record {
      sound = c.requires.0.sound;
      reads = rw (eq-eqb _ _ c.if-q-eq-EVENT_QUEUE.true, sym c.enough_on.ensures ∙ c.if-enough_on.false);
    }

pub returns-then-x-t : goal.returns-then-x-t
unfolding woken_in timely
returns-then-x-t c =
    let n = c.if-q-eq-EVENT_QUEUE.false in
    let q = c.requires.1.either n in
    rw (ne_eqb _ _ n, le-leb _ _ c.if-x-t.true) (rw q at c.wake-then-x-t.ensures)

pub returns : goal.returns
unfolding woken_in timely
returns c =
    record {
      sound = c.requires.0.sound;
      reads = rw (ne_eqb _ _ c.if-q-eq-EVENT_QUEUE.false, lt-leb _ _ c.if-x-t.false);
    }
