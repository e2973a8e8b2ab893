-- `enter` walks to the first block with a greater key, and puts its block in before it, or at the end where there is none.
use Prim.Native.Nat.{suc}
use lib.ListN.{length}
use Rattle.threads.specs.Threads.{BLOCKS, walk, Follows}
use Rattle.threads.proofs.Entering.{Entering}
use Rattle.threads.proofs.enter.Given as goal

abbrev pub invariant-loop-y : goal.invariant-loop-y
invariant-loop-y g l = Entering l.t l.q l.x (Follows l.t l.q l.x (goal.F-post g l.key)) l.y

abbrev pub decreases-loop-y : goal.decreases-loop-y
decreases-loop-y g l = length (walk l.t.fwd (suc BLOCKS) l.y)
