-- `free::free_request` meets its contract: the stores are the meaning's.
use Rattle.meaning.specs.Finish.{freed_request}
use Rattle.blocks.proofs.Blank.{blank}
use Rattle.blocks.proofs.free.free_request.Goals as goal

pub returns : goal.returns
unfolding freed_request
returns c =
    let (p, (o, (d, (m, b)))) = c.default.ensures in
    record { sound = c.requires.0; reads = rw (c.adding.ensures, blank _ p o d m b) }
