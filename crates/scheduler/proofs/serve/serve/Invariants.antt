-- `serve::serve` meets its contract: the invariant is `Turn`, and the queue gets shorter.
use Rattle.std.specs.Prelude.{length}
use Rattle.tables.specs.State.{queue, core_queue, read}
use Rattle.scheduler.proofs.Served.{Turn}
use Rattle.scheduler.proofs.serve.serve.Given as goal

abbrev pub invariant-loop-k : goal.invariant-loop-k
invariant-loop-k l = Turn l.initial.u l.level l.u l.k

abbrev pub decreases-loop-k : goal.decreases-loop-k
decreases-loop-k l = length (queue (read l.u) (core_queue l.level))
