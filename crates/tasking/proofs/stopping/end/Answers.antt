-- `stopping::end` meets its contract: the caller is in hand, and ends.
use mathlib.Core.List.{[]}
use Rattle.meaning.specs.Services.{end}
use Rattle.lawful.proofs.Blocks.Leave.{stop}
use Rattle.lawful.proofs.Each.Calls.{rest-stopped}
use Rattle.tasking.proofs.stopping.end.Goals as goal

pub end-requires : goal.end-requires
end-requires c =
    let g = c.requires.0 in
    record { others = []; excused = []; sound = g.pointers; hand = stop g.state.shape c.requires.1; rest = rest-stopped _ 0 g.state.rest }

pub returns : goal.returns
unfolding end
returns c = λ d. c.end.ensures
