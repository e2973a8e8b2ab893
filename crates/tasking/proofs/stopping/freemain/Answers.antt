-- `stopping::freemain` meets its contract: the caller gives its run back.
use native.Mathlib.Omega.{arith}
use Rattle.meaning.specs.Services.{freemain}
use Rattle.lawful.proofs.Blocks.Members.{runs-place}
use Rattle.scheduler.proofs.Shaped.{shape-holder}
use Rattle.tasking.proofs.stopping.freemain.Goals as goal

pub give_back-requires : goal.give_back-requires
give_back-requires c =
    let p = c.requires in
    let g = p.0.state.shape in
    (p.0.pointers, shape-holder g (omega (arith, p.1)) g.blank.running (λ z. omega (arith, z, runs-place g p.1)))

pub returns : goal.returns
unfolding freemain
returns c = λ d. c.give_back.ensures
