-- `starting::stop` meets its contract: the caller's block is moved, and nobody runs.
use mathlib.Core.Path.{ap}
use Rattle.tables.specs.declared.Task.{Task}
use Rattle.tables.specs.State.{with_running, with_task, read}
use Rattle.meaning.specs.Services.{stopped}
use Rattle.tasking.proofs.starting.stop.Goals as goal

pub returns : goal.returns
unfolding stopped
returns c =
    let a = c in
    record { sound = a.requires.0; reads = ap (λ (x : Task). with_running (with_task (read a.args.t) a.args.t.running x) 0) c.moving.ensures }
