-- `call::call` meets its contract: not 16 bytes, refused by a row, or carried out and followed by the dispatch.
use mathlib.Core.Path.{sym, ◌∙◌}
use Rattle.meaning.specs.Step.{refused}
use Rattle.lawful.proofs.Tested.Accepted.{accepts}
use Rattle.services.proofs.Whole.{cut, turned-away, ready-to-dispatch, carried-out}
use Rattle.services.proofs.call.call.Goals as goal

pub returns-in_default : goal.returns-in_default
unfolding refused
returns-in_default c = cut _ c.requires _ (sym c.try_from.ensures ∙ c.in_default.is)

pub returns-in-Err : goal.returns-in-Err
returns-in-Err c = turned-away _ c.requires (sym c.in-Ok.ensures) _ c.in-Err.ensures

pub effect-given-requires : goal.effect-given-requires
effect-given-requires c = let g = c.requires in (g, accepts _ _ (sym c.in_default-check.ensures) g.state)

pub dispatch-next-requires : goal.dispatch-next-requires
dispatch-next-requires c = ready-to-dispatch c.requires _ (sym c.in_default-check.ensures) c.effect-given.ensures

pub returns : goal.returns
returns c = carried-out _ c.requires (sym c.in-Ok.ensures) c.in_default-check.ensures c.effect-given.ensures c.dispatch-next.ensures
