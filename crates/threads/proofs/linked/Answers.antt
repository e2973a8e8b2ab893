-- `linked` joins twice.
use Rattle.threads.proofs.linked.Goals as goal

pub returns : goal.returns
returns c = cc
