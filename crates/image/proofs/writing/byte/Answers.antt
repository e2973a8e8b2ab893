-- `writing::byte` meets its contract: each return by the tests that led there.
use Prim.Native.Nat.{◌-◌, ◌/◌}
use borrow.Author.Rules.{rules}
use borrow.Author.Tests.{eq-eqb, ne_eqb, lt-ltb, le-ltb}
use Rattle.image.specs.Write.{byte_of}
use Rattle.image.proofs.writing.byte.Goals as goal

pub returns-then-i-eq0 : goal.returns-then-i-eq0
unfolding byte_of
returns-then-i-eq0 c = rw (eq-eqb _ _ c.if-i-eq0.true)

pub returns-then-i-eq1 : goal.returns-then-i-eq1
unfolding byte_of
returns-then-i-eq1 c = rw (ne_eqb _ _ c.if-i-eq0.false, eq-eqb _ _ c.if-i-eq1.true)

pub returns-then-i-eq2 : goal.returns-then-i-eq2
unfolding byte_of
returns-then-i-eq2 c = rw (ne_eqb _ _ c.if-i-eq0.false, ne_eqb _ _ c.if-i-eq1.false, eq-eqb _ _ c.if-i-eq2.true)

pub returns-then-i-lt8 : goal.returns-then-i-lt8
unfolding byte_of
returns-then-i-lt8 c = rw (ne_eqb _ _ c.if-i-eq0.false, ne_eqb _ _ c.if-i-eq1.false, ne_eqb _ _ c.if-i-eq2.false, lt-ltb _ _ c.if-i-lt8.true)

pub returns-then-i-lt16 : goal.returns-then-i-lt16
unfolding byte_of
returns-then-i-lt16 c = rw (ne_eqb _ _ c.if-i-eq0.false, ne_eqb _ _ c.if-i-eq1.false, ne_eqb _ _ c.if-i-eq2.false, le-ltb _ _ c.if-i-lt8.false, lt-ltb _ _ c.if-i-lt16.true, c.digit.ensures)

pub entry_byte-requires : goal.entry_byte-requires
entry_byte-requires c =
    let s = c in
    (search rules, s.requires.1.flags ((s.args.i - 16) / 8) (search rules))

pub returns-then-i-lt272 : goal.returns-then-i-lt272
unfolding byte_of
returns-then-i-lt272 c = rw (ne_eqb _ _ c.if-i-eq0.false, ne_eqb _ _ c.if-i-eq1.false, ne_eqb _ _ c.if-i-eq2.false, le-ltb _ _ c.if-i-lt8.false, le-ltb _ _ c.if-i-lt16.false, lt-ltb _ _ c.if-i-lt272.true, c.entry_byte.ensures)

pub returns : goal.returns
unfolding byte_of
returns c = rw (ne_eqb _ _ c.if-i-eq0.false, ne_eqb _ _ c.if-i-eq1.false, ne_eqb _ _ c.if-i-eq2.false, le-ltb _ _ c.if-i-lt8.false, le-ltb _ _ c.if-i-lt16.false, le-ltb _ _ c.if-i-lt272.false)
