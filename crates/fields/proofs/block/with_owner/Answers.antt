-- A request more: its owner is added where it is pending; the law is in Owners.
use mathlib.Core.Path.{sym, ◌∙◌}
use Rattle.words.proofs.Truth.{and_right}
use Rattle.fields.proofs.Owners.{owner-in}
use Rattle.fields.proofs.block.with_owner.Goals as goal

pub returns-then-q-pending : goal.returns-then-q-pending
returns-then-q-pending c =
    λ k l. rw (c.adding.ensures, c.from.ensures) (owner-in _ c.args.q k (sym c.pending.ensures ∙ and_right _ _ c.if-q-pending.true))
