-- `push` puts its block in at the front of the queue.
use borrow.Author.Rules.{rules}
use Rattle.threads.proofs.Places.{at_front, low}
use Rattle.threads.proofs.Moves.{entered}
use Rattle.threads.proofs.push.Goals as goal

pub linked-requires : goal.linked-requires
linked-requires c = let l = low (at_front c.requires.sound c.requires.queue) in search rules

pub returns : goal.returns
returns c = let f = c.requires in entered (at_front f.sound f.queue) f _ c.linked.ensures
