-- The rules over queues are what the functions that it calls give.
use mathlib.Core.Path.{◌∙◌}
use Rattle.meaning.specs.Rules.{queues_in_order}
use Rattle.rules.proofs.Firsts.{busy-told, channel-told}
use Rattle.rules.proofs.queues.queues_right.Goals as goal

pub returns : goal.returns
unfolding queues_in_order
returns c =
    rw (
      c.busy.ensures ∙ busy-told c.args.t.now c.requires,
      c.core_short.ensures,
      c.timely.ensures,
      c.ranked.ensures,
      c.channel_busy.ensures ∙ channel-told c.args.t.now c.requires,
    )
