-- `transfer::transfer` meets its contract: the lowest free block is taken, enters the channel queue, and the first goes on an empty channel.
use Rattle.meaning.specs.Services.{read_or_write}
use Rattle.lawful.proofs.Each.Channel.{free_requests-low}
use Rattle.scheduler.proofs.Shaped.{shape-held}
use Rattle.channel.proofs.Asked.{can-enter, can-start}
use Rattle.channel.proofs.transfer.transfer.Goals as goal

pub ask-taken-requires : goal.ask-taken-requires
ask-taken-requires c =
    let p = c.requires in
    (p.0, rw c.lowest-r.ensures (free_requests-low p.1.shape p.1.free_requests), p.1.bytes)

pub enter-entered-requires : goal.enter-entered-requires
enter-entered-requires c =
    let p = c.requires in
    can-enter (shape-held p.0 p.1.shape).fit p.1 c.ask-taken.ensures c.lowest-r.ensures

pub next-started-requires : goal.next-started-requires
next-started-requires c =
    let p = c.requires in
    can-start (shape-held p.0 p.1.shape).fit p.1 (rw c.ask-taken.ensures.reads at c.enter-entered.ensures) c.lowest-r.ensures

pub returns : goal.returns
unfolding read_or_write
returns c =
    let b = c.lowest-r.ensures in
    record { shows = rw (← b, ← c.ask-taken.ensures.reads, ← c.enter-entered.ensures.reads) c.next-started.ensures; result = b }
