-- `conditions::due` meets its contract, kind by kind.
use borrow.Author.Tests.{eq-eqb, ne_eqb}
use Rattle.meaning.specs.Conditions.{due_of}
use Rattle.waiting.proofs.conditions.due.Goals as goal

pub returns-then-c-eq2 : goal.returns-then-c-eq2
unfolding due_of
returns-then-c-eq2 c = rw (eq-eqb _ _ c.if-c-eq2.true)

pub returns : goal.returns
unfolding due_of
returns c = rw (ne_eqb _ _ c.if-c-eq2.false)
