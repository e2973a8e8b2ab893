-- `dispatch::best_ready` meets its contract: no better level has a ready task.
use Rattle.std.specs.Prelude.{◌≡◌, ℕ, ◌<◌, ◌≤◌, true}
use Rattle.words.specs.Words.{is_empty}
use Rattle.tables.specs.State.{read, queue}
use Rattle.scheduler.proofs.dispatch.best_ready.Given as goal

abbrev pub invariant-loop-level : goal.invariant-loop-level
invariant-loop-level l = (q : ℕ) → 1 ≤ q → q < l.level → is_empty (queue (read l.t) q) ≡ true
