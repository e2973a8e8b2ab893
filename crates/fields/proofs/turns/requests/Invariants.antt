-- The pass over the request blocks. The invariant: each block so far passes, and the set has the owners of the pending ones among them.
use mathlib.Core.Bool.{true}
use mathlib.Core.Path.{◌≡◌}
use Rattle.fields.specs.Blocks.{pends, request_passes}
use Rattle.tables.specs.Blocks.{task_blocks}
use Rattle.tables.specs.State.{read, request_at}
use Rattle.words.specs.Words.{one_to, some_of, has}
use Prim.Native.Nat.{ℕ, ◌-◌, ◌≤◌, ◌<◌}
use Rattle.fields.proofs.turns.requests.Given as goal

abbrev pub invariant-loop-r : goal.invariant-loop-r
invariant-loop-r l = record {
  pass : (n : ℕ) → n < l.r → 1 ≤ n → request_passes (read l.t) n ≡ true;
  own : (k : ℕ) → k ≤ task_blocks → has l.owners k ≡ some_of (λ n. pends k (request_at (read l.t) n)) (one_to (l.r - 1));
}
