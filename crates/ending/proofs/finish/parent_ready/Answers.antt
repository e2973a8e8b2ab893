-- `finish::parent_ready` meets its contract, case by case.
use borrow.Author.Tests.{eq-eqb, ne_eqb}
use Rattle.meaning.specs.Finish.{parent_ready}
use Rattle.ending.proofs.finish.parent_ready.Goals as goal

pub returns-then-p-eq0 : goal.returns-then-p-eq0
unfolding parent_ready
returns-then-p-eq0 c = record { sound = c.requires.sound; reads = rw (eq-eqb c.args.p 0 c.if-p-eq0.true) }

pub make_ready-requires : goal.make_ready-requires
make_ready-requires c = c.requires.loose c.if-p-eq0.false

pub returns : goal.returns
unfolding parent_ready
returns c = rw (ne_eqb c.args.p 0 c.if-p-eq0.false) c.make_ready.ensures
