-- One look at each task block. The invariant is what is gathered so far (Seen).
use Rattle.rules.specs.Links.{Seen}
use Rattle.tables.specs.State.{read}
use Prim.Native.Nat.{◌-◌}
use Rattle.rules.proofs.links.seen.Given as goal

abbrev pub invariant-loop-k : goal.invariant-loop-k
invariant-loop-k l = Seen (read l.t) (l.k - 1) l.parents l.waits l.ends l.runs
