-- `conditions::holds` meets its contract, kind by kind.
use borrow.Author.Tests.{eq-eqb, ne_eqb}
use Rattle.meaning.specs.Conditions.{enough, holds}
use Rattle.waiting.proofs.conditions.holds.Goals as goal

pub returns-then-c-eq0 : goal.returns-then-c-eq0
unfolding holds
returns-then-c-eq0 c = rw (eq-eqb _ _ c.if-c-eq0.true)

pub returns-then-c-eq1 : goal.returns-then-c-eq1
unfolding holds enough
returns-then-c-eq1 c = rw (ne_eqb _ _ c.if-c-eq0.false, eq-eqb _ _ c.if-c-eq1.true) c.enough_on.ensures

pub returns : goal.returns
unfolding holds
returns c = rw (ne_eqb _ _ c.if-c-eq0.false, ne_eqb _ _ c.if-c-eq1.false, ← c.due.ensures)
