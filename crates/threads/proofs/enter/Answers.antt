-- `enter` walks to the first block with a greater key, and puts its block in before it, or at the end where there is none.
use native.Mathlib.Omega.{arith}
use Rattle.threads.proofs.Read.{node-fits}
use Rattle.threads.proofs.Entering.{asked-own, asked-in, entering, entering-member, entering-less, entering-before, entering-behind, entering-end}
use Rattle.threads.proofs.enter.Goals as goal

pub key-own-requires : goal.key-own-requires
key-own-requires g c = c.requires.asked _ (asked-own c.args.x _)

pub loop-y-init : goal.loop-y-init
loop-y-init g c = entering c.requires.block _

pub key-requires : goal.key-requires
key-requires g c = c.requires.asked _ (asked-in c.args.x _ _ (entering-member c.requires.block _ c.loop-y.invariant c.loop-y-test.true).here)

pub insert_before-requires : goal.insert_before-requires
insert_before-requires g c = (entering-member c.requires.block _ c.loop-y.invariant c.loop-y-test.true, c.requires.block)

pub returns-then-own-key : goal.returns-then-own-key
returns-then-own-key g c = λ order k.
    let l = c in
    let m = entering-member l.requires.block _ l.loop-y.invariant l.loop-y-test.true in
    let own = k l.args.x _ (asked-own l.args.x _) l.key-own.ensures in
    let other = k l.loop-y.y _ (asked-in l.args.x l.loop-y.y _ m.here) l.key.ensures in
    rw (entering-before l.requires.block _ l.loop-y.invariant l.loop-y-test.true order k (omega (arith, own, other, c.if-own-key.true))) c.insert_before.ensures

pub bounds-t-y : goal.bounds-t-y
bounds-t-y g c = node-fits (entering-member c.requires.block _ c.loop-y.invariant c.loop-y-test.true)

pub loop-y-smaller : goal.loop-y-smaller
loop-y-smaller g c = let l = c in entering-less l.requires.block _ l.loop-y.invariant l.loop-y-test.true

pub loop-y-preserved : goal.loop-y-preserved
loop-y-preserved g c =
    let l = c in
    let m = entering-member l.requires.block _ l.loop-y.invariant l.loop-y-test.true in
    entering-behind l.requires.block _ l.loop-y.invariant l.loop-y-test.true
    (λ order k.
    let own = k l.args.x _ (asked-own l.args.x _) l.key-own.ensures in
    let other = k l.loop-y.y _ (asked-in l.args.x l.loop-y.y _ m.here) l.key.ensures in
    omega (arith, own, other, c.if-own-key.false))

pub returns : goal.returns
returns g c = λ order k.
    let l = c in
    rw (entering-end l.requires.block _ l.loop-y.invariant order k c.loop-y-test.false) c.append.ensures
