-- The walk up from a task. The invariant: where it has come to (Chains).
use native.Mathlib.Omega.{arith}
use Rattle.tables.specs.State.{read}
use Rattle.rules.proofs.Chains.{above-start, above-next, above-none}
use Rattle.rules.proofs.Places.{none_above, parent-low}
use Rattle.rules.proofs.links.chain_ends.Goals as goal

pub loop-n-init : goal.loop-n-init
loop-n-init c =
    rw c.from.ensures (above-start (read c.args.t.now) c.args.k (parent-low c.args.t.now c.requires.orderly c.args.k c.requires.block))

pub returns-then-y-eq0 : goal.returns-then-y-eq0
returns-then-y-eq0 c = above-none (read c.args.t.now) c.loop-n.invariant (none_above c.args.t.now c.requires.orderly) c.if-y-eq0.true

pub loop-n-preserved : goal.loop-n-preserved
loop-n-preserved c =
    let l = c.loop-n in
    rw c.from-in-loop-n.ensures
    (above-next (read c.args.t.now) l.invariant (omega arith) (parent-low c.args.t.now c.requires.orderly l.y l.invariant.low))
