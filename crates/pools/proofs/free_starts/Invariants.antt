-- `pools::free_starts` meets its contract. So far, the set has the starts of free runs of `length` units; what is added is at most that length, and
-- at most what is left of n.
use Prim.Native.Nat.{◌-◌}
use Rattle.pools.proofs.Search.{Searching}
use Rattle.pools.proofs.free_starts.Given as goal

abbrev pub invariant-loop-length : goal.invariant-loop-length
invariant-loop-length l = Searching l.granted l.n l.found l.length

abbrev pub decreases-loop-length : goal.decreases-loop-length
decreases-loop-length l = l.n - l.length
