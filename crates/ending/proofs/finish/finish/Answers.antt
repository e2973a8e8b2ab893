-- `finish::finish` meets its contract: each step shows its meaning, and leaves what the next asks.
use Rattle.tables.specs.State.{task_at}
use Rattle.meaning.specs.Finish.{freed_task, freed_done, parent_ready, finished}
use Rattle.ending.proofs.Shown.{then}
use Rattle.ending.proofs.Finishes.{finish-gives, finish-parent}
use Rattle.ending.proofs.finish.finish.Goals as goal

pub give_back-a-requires : goal.give_back-a-requires
give_back-a-requires c = (c.requires.sound, finish-gives c.requires)

pub parent_ready-c-requires : goal.parent_ready-c-requires
parent_ready-c-requires c =
    let s = c in
    finish-parent s.requires (then (λ x. freed_done x s.args.k) c.give_back-a.ensures c.free_done-b.ensures)

pub returns : goal.returns
unfolding finished
returns c =
    let s = c in
    let k = s.args.k in
    let b = then (λ x. freed_done x k) c.give_back-a.ensures c.free_done-b.ensures in
    let d = then (λ x. parent_ready x (task_at x k).parent) b c.parent_ready-c.ensures in
    then (λ x. freed_task x k) d c.free_task.ensures
