-- The walk along the pointers. The invariant: what is left of the walk gives what the whole gives (Marks); each answer is a step of the mirror (Passes).
use borrow.Author.Rules.{rules}
use Rattle.pointers.proofs.Passes.{end-wrong, too-high, seen_twice, wrong-back, out-of-steps}
use Rattle.pointers.proofs.Marks.{walking_start, walking-not, walking-end, walking-queue, walking-block}
use native.Mathlib.Omega.{arith}
use Rattle.pointers.proofs.walked.Goals as goal

pub loop-n-init : goal.loop-n-init
loop-n-init c = walking_start _ (record { fwd = search rules; back = search rules; first = search rules; last = search rules })

pub returns-then-t-from : goal.returns-then-t-from
returns-then-t-from c =
    walking-not c.loop-n.invariant (end-wrong _ _ _ _ _ _ (omega arith) c.if-y-eq0.true (rw c.from.ensures at c.if-t-from.true))

pub returns-then-q-eq-LAST_QUEUE : goal.returns-then-q-eq-LAST_QUEUE
returns-then-q-eq-LAST_QUEUE c =
    rw c.then_some.ensures
    (walking-end c.loop-n.invariant c.loop-n-test.true c.if-y-eq0.true (rw c.from.ensures at c.if-t-from.false) c.if-q-eq-LAST_QUEUE.true
    c.rest_clear.ensures)

pub loop-n-preserved-then-y-eq0 : goal.loop-n-preserved-then-y-eq0
loop-n-preserved-then-y-eq0 c =
    rw c.from-then-y-eq0.ensures
    (walking-queue c.loop-n.invariant c.loop-n-test.true c.if-y-eq0.true (rw c.from.ensures at c.if-t-from.false) c.if-q-eq-LAST_QUEUE.false)

pub returns-then-y-gt-LAST_BLOCK : goal.returns-then-y-gt-LAST_BLOCK
returns-then-y-gt-LAST_BLOCK c = walking-not c.loop-n.invariant (too-high _ _ _ _ _ _ c.if-y-eq0.false c.if-y-gt-LAST_BLOCK.true)

pub returns-then-marks-at-ne-NO_QUEUE : goal.returns-then-marks-at-ne-NO_QUEUE
returns-then-marks-at-ne-NO_QUEUE c =
    walking-not c.loop-n.invariant
    (seen_twice _ _ _ _ _ _ c.if-y-eq0.false c.if-y-gt-LAST_BLOCK.false (rw c.from-at.ensures at c.if-marks-at-ne-NO_QUEUE.true))

pub returns-then-t-at : goal.returns-then-t-at
returns-then-t-at c =
    walking-not c.loop-n.invariant
    (wrong-back _ _ _ _ _ _ c.if-y-eq0.false c.if-y-gt-LAST_BLOCK.false (rw c.from-at.ensures at c.if-marks-at-ne-NO_QUEUE.false)
    (rw c.from-at.ensures at c.if-t-at.true))

pub loop-n-preserved : goal.loop-n-preserved
loop-n-preserved c =
    rw c.from-at.ensures
    (walking-block c.loop-n.invariant c.loop-n-test.true c.if-y-eq0.false c.if-y-gt-LAST_BLOCK.false
    (rw c.from-at.ensures at c.if-marks-at-ne-NO_QUEUE.false) (rw c.from-at.ensures at c.if-t-at.false))

pub returns : goal.returns
returns c = walking-not c.loop-n.invariant (out-of-steps _ _ _ _ _ _ (omega arith))
