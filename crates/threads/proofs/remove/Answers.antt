-- `remove` joins the blocks on the two sides of its block.
use borrow.Author.Rules.{rules}
use Rattle.threads.proofs.Laws.{spot-without}
use Rattle.threads.proofs.Read.{node-fits}
use Rattle.threads.proofs.Places.{around, low}
use Rattle.threads.proofs.Change.{unlinked}
use Rattle.threads.proofs.Moves.{taken}
use Rattle.threads.proofs.remove.Goals as goal

pub bounds-t-x : goal.bounds-t-x
bounds-t-x c = node-fits c.requires

pub bounds-t-x-2 : goal.bounds-t-x-2
bounds-t-x-2 c = node-fits c.requires

pub joined-u-requires : goal.joined-u-requires
joined-u-requires c =
    let (A, B, w, v) = around c.requires in
    let l = low w in
    let m = low v in
    search rules

pub bounds-u-x : goal.bounds-u-x
bounds-u-x c = node-fits c.requires

pub bounds-u-x-2 : goal.bounds-u-x-2
bounds-u-x-2 c = node-fits c.requires

pub returns : goal.returns
unfolding unlinked
returns c =
    let (A, B, w, v) = around c.requires in
    rw (spot-without w.spot) (taken w v _ (rw c.joined-u.ensures))
