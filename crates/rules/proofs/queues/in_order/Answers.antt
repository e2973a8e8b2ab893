-- Along a queue. The invariant: where it has come to, and that what is left of it goes up from the least that is still allowed (Climbing).
use mathlib.Core.Path.{refl}
use native.Mathlib.Omega.{arith}
use Rattle.threads.specs.Threads.{queues_of}
use Rattle.threads.proofs.Laws.{member}
use Rattle.rules.proofs.Climbing.{climbing-start, climbing-member, climbing-less, climbing-next, climbing-end}
use Rattle.rules.proofs.queues.in_order.Goals as goal

pub loop-y-init : goal.loop-y-init
loop-y-init g c =
    let r = c.requires in
    rw c.from.ensures (record { at = climbing-start r.sound _ c.args.q r.low; by = λ order k. climbing-start r.sound order c.args.q r.low })

pub key-own-requires : goal.key-own-requires
key-own-requires g c = let r = c.requires in r.asked _ (climbing-member r.sound _ c.args.q r.low c.loop-y.invariant.at c.loop-y-test.true)

pub bounds-h-from-in-loop-y : goal.bounds-h-from-in-loop-y
bounds-h-from-in-loop-y g c =
    let r = c.requires in
    rw c.from-in-loop-y.ensures
    (omega (
      arith,
      member (queues_of c.args.h.now) r.sound.apart c.args.q r.low c.loop-y.y
          (climbing-member r.sound _ c.args.q r.low c.loop-y.invariant.at c.loop-y-test.true),
    ))

pub loop-y-smaller : goal.loop-y-smaller
loop-y-smaller g c =
    let r = c.requires in rw c.from-in-loop-y.ensures (climbing-less r.sound _ c.args.q r.low c.loop-y.invariant.at c.loop-y-test.true)

pub loop-y-preserved : goal.loop-y-preserved
loop-y-preserved g c =
    let r = c.requires in
    let i = c.loop-y.invariant in
    let m = climbing-member r.sound _ c.args.q r.low i.at c.loop-y-test.true in
    rw c.from-in-loop-y.ensures
    (record {
      at = climbing-next r.sound _ c.args.q r.low i.at c.loop-y-test.true refl;
      by = λ order k. climbing-next r.sound order c.args.q r.low (i.by order k) c.loop-y-test.true (k _ _ m c.key-own.ensures);
    })

pub returns : goal.returns
returns g c = let r = c.requires in λ order k. climbing-end r.sound order c.args.q r.low (c.loop-y.invariant.by order k) c.loop-y-test.false
