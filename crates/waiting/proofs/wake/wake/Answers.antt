-- `wake::wake` meets its contract: what leaves its queue is in hand, and so it can be made ready.
use mathlib.Core.List.{[]}
use native.Mathlib.Omega.{arith}
use Rattle.lawful.proofs.Blocks.Leave.{leave}
use Rattle.scheduler.proofs.Shaped.{hand-loose}
use Rattle.waiting.proofs.wake.wake.Goals as goal

pub leave-u-requires : goal.leave-u-requires
leave-u-requires c = let p = c.requires in record { sound = p.sound; queue = omega (arith, p.low); here = p.here }

pub make_ready-requires : goal.make_ready-requires
make_ready-requires c =
    let p = c.requires in
    let l = c.leave-u.ensures in
    hand-loose {h = []} {e = 0} l.sound (rw l.reads (leave p.shape c.args.k c.args.q p.low p.here))

pub returns : goal.returns
returns c = rw (← c.leave-u.ensures.reads) c.make_ready.ensures
