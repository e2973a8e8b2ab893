-- `free::free_if_done` meets its contract, by its test.
use Rattle.meaning.specs.Finish.{freed_if_done}
use Rattle.blocks.proofs.free.free_if_done.Goals as goal

pub returns-then-q-k : goal.returns-then-q-k
unfolding freed_if_done
returns-then-q-k c = rw c.if-q-k.true c.free_request.ensures

pub returns : goal.returns
unfolding freed_if_done
returns c = record { sound = c.requires.0; reads = rw c.if-q-k.false }
