-- `blocks::first_of` meets its contract: in sound pointers the first of a queue is the first of its list.
use Rattle.tables.proofs.Held.{first-is}
use Rattle.blocks.proofs.first_of.Goals as goal

pub returns : goal.returns
returns c = first-is c.requires.0 c.requires.1
