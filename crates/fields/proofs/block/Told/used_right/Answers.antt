-- A used task block: what every place asks, and what its own place asks.
use Rattle.fields.proofs.ByPlace.{used-whole}
use Rattle.fields.proofs.block.Told.used_right.Goals as goal

pub returns : goal.returns
returns c =
    rw (c.from.ensures, c.core_right.ensures, c.place_right.ensures, c.own_right.ensures, c.since_right.ensures)
    (search used-whole)
