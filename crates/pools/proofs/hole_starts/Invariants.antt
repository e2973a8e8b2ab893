-- `pools::hole_starts` meets its contract. So far, no hole of n units or more is shorter than the runs whose starts the set has; and with each turn
-- the set is a smaller number.
use Rattle.pools.proofs.Lengths.{Lengthening}
use Rattle.pools.proofs.hole_starts.Given as goal

abbrev pub invariant-loop-holes : goal.invariant-loop-holes
invariant-loop-holes l = Lengthening l.granted l.n l.runs l.holes

abbrev pub decreases-loop-holes : goal.decreases-loop-holes
decreases-loop-holes l = l.runs
