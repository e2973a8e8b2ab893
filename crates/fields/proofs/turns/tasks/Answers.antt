-- The pass over the task blocks. The invariant: each block so far passes.
use mathlib.Core.Path.{◌≡◌, sym, ap, ◌∙◌}
use borrow.Author.Count.{below_more}
use native.Mathlib.Omega.{arith}
use Rattle.words.specs.Words.{has}
use Rattle.tables.specs.Blocks.{task_blocks}
use Rattle.tables.specs.State.{read}
use Rattle.fields.specs.Blocks.{task_passes}
use Rattle.fields.proofs.Gathered.{each-passes, one-fails, task-turn}
use Rattle.fields.proofs.turns.tasks.Goals as goal
use Rattle.fields.proofs.turns.tasks.Goals.{After-right}

turn : (c : After-right) → c.right.result ≡ task_passes (read c.args.t.now) c.loop-k.k
turn c =
    let t = c.args.t.now in
    let k = c.loop-k.k in
    task-turn t c.requires.marked k (omega arith) (rw c.from-at.ensures at c.entry-e.ensures) (rw c.from-at.ensures at c.own-own.ensures)
    (c.has.ensures ∙ ap (has t.free_tasks) c.from.ensures)
    (c.has-in-loop-k.ensures ∙ ap (has c.args.owners) c.from-in-loop-k.ensures ∙ c.requires.owners.each k (omega arith))
    (rw c.from-at.ensures at c.right.ensures)

pub returns-then-not-right : goal.returns-then-not-right
returns-then-not-right c =
    let e = turn (goal.at.returns-then-not-right c).After-right in
    sym (one-fails (task_passes (read c.args.t.now)) task_blocks c.loop-k.k (omega arith) (omega arith) (sym e ∙ c.if-not-right.true))

pub loop-k-preserved : goal.loop-k-preserved
loop-k-preserved c =
    let e = turn (goal.at.loop-k-preserved c).After-right in
    below_more _ _ c.loop-k.invariant (λ l. sym e ∙ c.if-not-right.false)

pub returns : goal.returns
returns c = sym (each-passes (task_passes (read c.args.t.now)) task_blocks c.loop-k.k c.loop-k.invariant (omega arith))
