-- `queue::next` meets its contract, case by case: the channel is in use, nobody is queued, or the first leaves its queue and is on the channel.
use mathlib.Core.Path.{sym, ◌∙◌}
use native.Mathlib.Omega.{arith}
use Rattle.tables.specs.State.{read, channel_queue, queue}
use Rattle.tables.proofs.Held.{first-none, first-filled, first_member}
use Rattle.channel.proofs.Started.{in_use, none-queued, goes_on, first-request}
use Rattle.channel.proofs.queue.next.Goals as goal

pub returns-then-t-ne0 : goal.returns-then-t-ne0
returns-then-t-ne0 c =
    let s = c in
    record { sound = s.requires.sound; reads = sym (in_use (read s.args.t) c.if-t-ne0.true) }

pub returns-then-n-eq0 : goal.returns-then-n-eq0
returns-then-n-eq0 c =
    let s = c in
    let e = sym c.first_of-n.ensures ∙ c.if-n-eq0.true in
    record { sound = s.requires.sound; reads = sym (none-queued (read s.args.t) c.if-t-ne0.false (first-none {q = channel_queue} s.requires.sound (omega arith) e)) }

pub overflow_sub-r : goal.overflow_sub-r
overflow_sub-r c =
    let h = first-request c.requires c.first_of-n.ensures c.if-n-eq0.false in
    omega (arith, h.0)

pub leave-u-requires : goal.leave-u-requires
leave-u-requires c = first_member c.requires.sound (omega arith) c.first_of-n.ensures c.if-n-eq0.false

pub bounds-u-r : goal.bounds-u-r
bounds-u-r c =
    let h = first-request c.requires c.first_of-n.ensures c.if-n-eq0.false in
    omega (arith, h.1)

pub returns : goal.returns
returns c =
    let s = c in
    let e = c.first_of-n.ensures in
    let l = c.leave-u.ensures in
    let f = first-filled (queue (read s.args.t) channel_queue) (λ z. c.if-n-eq0.false (e ∙ z)) in
    record { sound = l.sound; reads = goes_on (read s.args.t) c.if-t-ne0.false f e l.reads }
