-- `transfer::ask` meets its contract: the block leaves the free ones, and its fields are the call's.
use Rattle.meaning.specs.Services.{asked}
use Rattle.channel.proofs.transfer.ask.Goals as goal

pub returns : goal.returns
unfolding asked
returns c =
    let s = c in
    record { sound = s.requires.0; reads = rw c.dropping.ensures }
