-- The walk up from a task. The invariant: where it has come to (Chains).
use Rattle.rules.proofs.Chains.{Above}
use Rattle.tables.specs.State.{read}
use Rattle.rules.proofs.links.chain_ends.Given as goal

abbrev pub invariant-loop-n : goal.invariant-loop-n
invariant-loop-n l = Above (read l.t) l.k l._n l.y
