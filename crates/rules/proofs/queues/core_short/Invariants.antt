-- The first waiters, level by level. The invariant: what is gathered of them is the rule over the levels so far.
use mathlib.Core.Path.{◌≡◌}
use Prim.Native.Nat.{◌-◌}
use Rattle.words.specs.Words.{one_to, all_of}
use Rattle.tables.specs.State.{read}
use Rattle.rules.proofs.Firsts.{first_waits}
use Rattle.rules.proofs.queues.core_short.Given as goal

abbrev pub invariant-loop-level : goal.invariant-loop-level
invariant-loop-level l = l.waiting ≡ all_of (first_waits (read l.t)) (one_to (l.level - 1))
