-- `insert_before` puts its block in at the place before the other.
use borrow.Author.Rules.{rules}
use Rattle.threads.proofs.Laws.{spot-insert}
use Rattle.threads.proofs.Read.{node-fits}
use Rattle.threads.proofs.Places.{around, low}
use Rattle.threads.proofs.Moves.{entered}
use Rattle.threads.proofs.insert_before.Goals as goal

pub bounds-t-b : goal.bounds-t-b
bounds-t-b c = node-fits c.requires.0

pub linked-requires : goal.linked-requires
linked-requires c = let l = low (around c.requires.0).2 in search rules

pub returns : goal.returns
returns c =
    let (m, f) = c.requires in
    let w = (around m).2 in
    rw (spot-insert w.spot c.args.x) (entered w f _ c.linked.ensures)
