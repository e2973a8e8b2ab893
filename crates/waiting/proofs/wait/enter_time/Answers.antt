-- `wait::enter_time` meets its contract: the block itself and all that stand in the queue are task blocks, so that they have times.
use borrow.Author.Rules.{rules}
use native.Mathlib.Omega.{arith}
use Prim.Native.Nat.{◌<◌}
use Rattle.tables.specs.State.{read, task_at, queue, time_queue}
use Rattle.meaning.specs.Conditions.{in_time}
use Rattle.blocks.proofs.Asked.{asked_each}
use Rattle.waiting.proofs.wait.enter_time.Goals as goal

pub enter-r-requires : goal.enter-r-requires
enter-r-requires c =
    let r = c.requires in
    let low = asked_each (λ y. y < 25) c.args.k (queue (read c.args.t) time_queue) r.2 (λ y. r.0.fit.tasks time_queue y (omega arith)) in
    record { block = r.1; asked = λ y h. let l : y < 25 = low y h in (λ κs p a b. omega (arith, l), λ κs p a b. l) }

pub returns : goal.returns
unfolding in_time
returns c = let e = c.enter-r.ensures (λ y. (task_at (read c.args.t) y).time) (λ y z h p. search rules) in record { sound = e.sound; reads = rw e.lists }
