-- `check::wait_for` meets its contract: the caller's block says what it waits for, and nobody runs.
use Rattle.meaning.specs.Services.{awaits_request}
use Rattle.channel.proofs.check.wait_for.Goals as goal

pub returns : goal.returns
unfolding awaits_request
returns c = record { sound = c.requires.0; reads = rw c.awaiting-x.ensures }
