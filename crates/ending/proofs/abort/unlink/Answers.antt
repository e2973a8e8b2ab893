-- `abort::unlink` meets its contract: one field of the block is stored to.
use mathlib.Core.Path.{refl}
use Rattle.meaning.specs.Finish.{unlinked}
use Rattle.ending.proofs.abort.unlink.Goals as goal

pub returns : goal.returns
unfolding unlinked
returns c = record { sound = c.requires.0; reads = refl }
