-- `give` ends: each part leaves less. With no bytes there is nothing to fail.
use Rattle.std.proofs.Common.{length, ◌≤◌}
use Rattle.pipes.proofs.give.Given as goal

abbrev pub invariant-loop-rest : goal.invariant-loop-rest
invariant-loop-rest g l = length l.rest ≤ length l.bytes

abbrev pub decreases-loop-rest : goal.decreases-loop-rest
decreases-loop-rest g l = length l.rest
