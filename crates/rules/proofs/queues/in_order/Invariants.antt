-- Along a queue. The invariant: where it has come to, which a key that is the same for all says; and by any order that the key gives, what is left of the queue
-- goes up from the least that is still allowed (Climbing).
use mathlib.Core.Bool.{true}
use mathlib.Core.Path.{◌≡◌}
use Prim.Native.Nat.{ℕ, suc, ◌≤◌}
use lib.ListN.{length}
use Rattle.threads.specs.Threads.{BLOCKS, walk, count, queue_in, queues_of}
use Rattle.rules.proofs.Climbing.{Climbing}
use Rattle.rules.proofs.queues.in_order.Given as goal

abbrev pub invariant-loop-y : goal.invariant-loop-y
invariant-loop-y g l = record {
  at : Climbing l.h (λ k. 0) l.q l.y 0 true;
  by : (order : ℕ → ℕ) → ((y r : ℕ) → 1 ≤ count y (queue_in (queues_of l.h) l.q) → goal.F-post g l.key y r → r ≡ order y) → Climbing l.h order l.q l.y l.least l.right;
}

abbrev pub decreases-loop-y : goal.decreases-loop-y
decreases-loop-y g l = length (walk l.h.fwd (suc BLOCKS) l.y)
