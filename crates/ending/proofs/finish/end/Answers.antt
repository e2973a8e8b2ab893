-- `finish::end` meets its contract, case by case: with no pending request it finishes, else its block is moved.
use mathlib.Core.Path.{sym, ap, ◌∙◌}
use Rattle.tables.specs.State.{with_task, read}
use Rattle.meaning.specs.Finish.{ended}
use Rattle.ending.proofs.finish.end.Goals as goal

pub returns-then-not-pending : goal.returns-then-not-pending
unfolding ended
returns-then-not-pending c = rw (sym c.pending.ensures ∙ c.if-not-pending.true) c.finish.ensures

pub returns : goal.returns
unfolding ended
returns c =
    let s = c in
    record {
      sound = s.requires.sound;
      reads = rw (sym c.pending.ensures ∙ c.if-not-pending.false) (ap (with_task (read s.args.t) s.args.k) c.moving.ensures);
    }
