-- `free::create` meets its contract: the stores are the meaning's.
use Rattle.meaning.specs.Services.{created}
use Rattle.blocks.proofs.free.create.Goals as goal

pub returns : goal.returns
unfolding created
returns c = record { sound = c.requires.0; reads = rw (c.dropping.ensures, c.new_task.ensures) }
