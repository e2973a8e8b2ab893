-- Laws of dispatching, beside those of the crate `lawful`: the first of a level runs.
use Rattle.std.specs.Prelude.{◌≡◌, ℕ}
use mathlib.Core.Path.{ap, ◌∙◌}
use Rattle.threads.specs.Threads.{hd}
use Rattle.tables.specs.declared.Task.{Task}
use Rattle.tables.specs.Blocks.{Running, moving}
use Rattle.tables.specs.State.{State, with_running, with_task, task_at, queue, leaving}
use Rattle.meaning.specs.Ready.{placed, runs_first}

-- the first leaves its queue, its block is moved, and it runs
pub runs : (s u : State) (level : ℕ) {k : ℕ} {x : Task} → k ≡ hd (queue s level) → u ≡ leaving s level k → x ≡ moving u.clock (task_at u k) Running
    → with_running (with_task u k x) k ≡ runs_first s level
unfolding runs_first
runs s u level {k} e l m =
    ap (λ (y : Task). with_running (with_task u k y) k) m ∙ ap (λ (v : State). with_running (placed v k Running) k) l
    ∙ ap (λ (i : ℕ). with_running (placed (leaving s level i) i Running) i) e
