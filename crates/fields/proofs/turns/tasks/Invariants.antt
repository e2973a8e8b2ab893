-- The pass over the task blocks. The invariant: each block so far passes.
use mathlib.Core.Bool.{true}
use mathlib.Core.Path.{◌≡◌}
use Rattle.fields.specs.Blocks.{task_passes}
use Rattle.tables.specs.State.{read}
use Prim.Native.Nat.{ℕ, ◌≤◌, ◌<◌}
use Rattle.fields.proofs.turns.tasks.Given as goal

abbrev pub invariant-loop-k : goal.invariant-loop-k
invariant-loop-k l = (n : ℕ) → n < l.k → 1 ≤ n → task_passes (read l.t) n ≡ true
