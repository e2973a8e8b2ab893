-- The blocks of the time queue are task blocks, and go up by their times.
use borrow.Author.Rules.{rules}
use native.Mathlib.Omega.{arith}
use Prim.Native.Nat.{◌<◌}
use Rattle.tables.specs.State.{read, task_at}
use Rattle.rules.proofs.Places.{tasks-of}
use Rattle.rules.proofs.queues.timely.Goals as goal

pub in_order-requires : goal.in_order-requires
in_order-requires c = record {
  sound = c.requires.sound;
  low = omega arith;
  asked = λ y h. let l : y < 25 = omega (arith, tasks-of c.args.t.now c.requires 7 y (omega arith) h) in search rules;
}

pub returns : goal.returns
returns c = c.in_order.ensures (λ k. (task_at (read c.args.t.now) k).time)
    (λ y r h p. let l : y < 25 = omega (arith, tasks-of c.args.t.now c.requires 7 y (omega arith) h) in search rules)
