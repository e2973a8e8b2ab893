-- `queue::enter` meets its contract: only the pointers change, and the block itself and all that stand in the queue are request blocks, so that they have levels.
use borrow.Author.Rules.{rules}
use native.Mathlib.Omega.{arith}
use Prim.Native.Nat.{◌≤◌, ◌<◌}
use Rattle.tables.specs.State.{read, queue, channel_queue, node}
use Rattle.meaning.specs.Channel.{channel_level, queued}
use Rattle.blocks.proofs.Asked.{asked_each}
use Rattle.channel.proofs.Started.{queued-request}
use Rattle.channel.proofs.queue.enter.Goals as goal

pub enter-u-requires : goal.enter-u-requires
enter-u-requires c =
    let r = c.requires in
    let among =
    asked_each (λ y. (24 < y) × (y ≤ 40)) (node c.args.r) (queue (read c.args.t) channel_queue) (omega (arith, r.some), omega (arith, r.low))
    (λ y h. queued-request r.held h) in
    record { block = r.free; asked = λ y h. let a = among y h in λ κs p s l m. (r.owned, a.0, a.1) }

pub returns : goal.returns
unfolding queued
returns c =
    let e = c.enter-u.ensures (channel_level (read c.args.t)) (λ y z h p. search rules) in
    record { sound = e.sound; reads = rw e.lists }
