-- `abort::one` meets its contract: the task that lost its link can end.
use Rattle.meaning.specs.Finish.{ended}
use Rattle.ending.proofs.Shown.{then}
use Rattle.ending.proofs.Aborts.{abort-ends}
use Rattle.ending.proofs.abort.one.Goals as goal

pub end-requires : goal.end-requires
end-requires c = abort-ends c.requires.1.1 c.unlink-alone.ensures

pub returns : goal.returns
returns c =
    let s = c in
    then (λ x. ended x s.args.k) c.unlink-alone.ensures c.end.ensures
