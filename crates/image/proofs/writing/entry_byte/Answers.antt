-- `writing::entry_byte` meets its contract: each return by the tests that led there.
use borrow.Author.Tests.{eq-eqb, ne_eqb}
use Rattle.image.specs.Write.{entry_byte}
use Rattle.image.proofs.writing.entry_byte.Goals as goal

pub returns-then-j-eq0 : goal.returns-then-j-eq0
unfolding entry_byte
returns-then-j-eq0 c = rw (eq-eqb _ _ c.if-j-eq0.true)

pub returns-then-j-eq1 : goal.returns-then-j-eq1
unfolding entry_byte
returns-then-j-eq1 c = rw (ne_eqb _ _ c.if-j-eq0.false, eq-eqb _ _ c.if-j-eq1.true)

pub returns-then-j-eq2 : goal.returns-then-j-eq2
unfolding entry_byte
returns-then-j-eq2 c = rw (ne_eqb _ _ c.if-j-eq0.false, ne_eqb _ _ c.if-j-eq1.false, eq-eqb _ _ c.if-j-eq2.true)

pub returns-then-j-eq3 : goal.returns-then-j-eq3
unfolding entry_byte
returns-then-j-eq3 c = rw (ne_eqb _ _ c.if-j-eq0.false, ne_eqb _ _ c.if-j-eq1.false, ne_eqb _ _ c.if-j-eq2.false, eq-eqb _ _ c.if-j-eq3.true)

pub returns : goal.returns
unfolding entry_byte
returns c =
    let d = c in
    rw (ne_eqb _ _ d.if-j-eq0.false, ne_eqb _ _ d.if-j-eq1.false, ne_eqb _ _ d.if-j-eq2.false, ne_eqb _ _ d.if-j-eq3.false, c.digit.ensures)
