-- `free::free_task` meets its contract: the stores are the meaning's.
use Rattle.meaning.specs.Finish.{freed_task}
use Rattle.blocks.proofs.free.free_task.Goals as goal

pub returns : goal.returns
unfolding freed_task
returns c = record { sound = c.requires.0; reads = rw (c.adding.ensures, c.new_task.ensures) }
