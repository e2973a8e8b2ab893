-- `append` puts its block in at the end of the queue.
use borrow.Author.Rules.{rules}
use Rattle.threads.proofs.Places.{at-end, low}
use Rattle.threads.proofs.Moves.{entered}
use Rattle.threads.proofs.append.Goals as goal

pub linked-requires : goal.linked-requires
linked-requires c = let l = low (at-end c.requires.sound c.requires.queue) in search rules

pub returns : goal.returns
returns c =
    let f = c.requires in
    entered (at-end f.sound f.queue) f _ c.linked.ensures
