-- `wake::wake_all` meets its contract: the invariant is `Walk`, and what is ahead gets shorter.
use native.Mathlib.Omega.{arith}
use Rattle.lawful.proofs.Blocks.Members.{member-low}
use Rattle.waiting.proofs.Walked.{watched-low, wakes-in, walk_start, walk_end, walk-waiting, walk-next, walk-less}
use Rattle.waiting.proofs.wake.wake_all.Goals as goal

pub first_of-k-requires : goal.first_of-k-requires
first_of-k-requires c = (c.requires.0, watched-low c.requires.2)

pub loop-k-init : goal.loop-k-init
loop-k-init c = let p = c.requires in (walk_start (p.0, p.1) c.first_of-k.ensures, p.2)

pub overflow_cast-next : goal.overflow_cast-next
overflow_cast-next c =
    let i = c.loop-k.invariant in
    let w = walk-waiting (wakes-in _ i.1) i.0 c.loop-k-test.true in
    omega (arith, member-low w.shape c.loop-k.k _ w.low w.here)

pub bounds-h-k : goal.bounds-h-k
bounds-h-k c =
    let i = c.loop-k.invariant in
    let w = walk-waiting (wakes-in _ i.1) i.0 c.loop-k-test.true in
    omega (arith, member-low w.shape c.loop-k.k _ w.low w.here)

pub wake_if_due-u-requires : goal.wake_if_due-u-requires
wake_if_due-u-requires c =
    let i = c.loop-k.invariant in
    (walk-waiting (wakes-in _ i.1) i.0 c.loop-k-test.true, i.1)

pub loop-k-smaller : goal.loop-k-smaller
loop-k-smaller c =
    let b = c in
    let i = b.loop-k.invariant in
    walk-less (wakes-in _ i.1) i.0 b.loop-k-test.true c.wake_if_due-u.ensures

pub loop-k-preserved : goal.loop-k-preserved
loop-k-preserved c =
    let b = c in
    let i = b.loop-k.invariant in
    (walk-next (wakes-in _ i.1) i.0 b.loop-k-test.true c.wake_if_due-u.ensures, i.1)

pub returns : goal.returns
returns c = let i = c.loop-k.invariant in walk_end (wakes-in _ i.1) i.0 c.loop-k-test.false
