-- `wake::wake_all` meets its contract: the invariant is `Walk`, and what is ahead gets shorter.
use lib.ListN.{length}
use Rattle.threads.specs.Threads.{walk}
use Rattle.waiting.specs.Wake.{Watched, woken_in}
use Rattle.waiting.proofs.Walked.{Walk}
use Rattle.waiting.proofs.wake.wake_all.Given as goal

abbrev pub invariant-loop-k : goal.invariant-loop-k
invariant-loop-k l = Walk (woken_in l.q) l.q l.initial.u l.u l.k × Watched l.q

abbrev pub decreases-loop-k : goal.decreases-loop-k
decreases-loop-k l = length (walk l.u.threads.fwd 41 l.k)
