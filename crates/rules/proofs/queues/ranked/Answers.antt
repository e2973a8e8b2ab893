-- The blocks of the channel queue are request blocks, and go up by the levels of those who asked.
use borrow.Author.Rules.{rules}
use native.Mathlib.Omega.{arith}
use Rattle.meaning.specs.Channel.{channel_level}
use Rattle.tables.specs.State.{read}
use Rattle.rules.proofs.Places.{requests-of}
use Rattle.rules.proofs.queues.ranked.Goals as goal

pub in_order-requires : goal.in_order-requires
in_order-requires c = record {
  sound = c.requires.sound;
  low = omega arith;
  asked = λ y h. let b = requests-of c.args.t.now c.requires y h in let o = c.requires in search rules;
}

pub returns : goal.returns
returns c = c.in_order.ensures (channel_level (read c.args.t.now))
    (λ y r h p. let b = requests-of c.args.t.now c.requires y h in let o = c.requires in search rules)
