-- `member` meets its contract: the number behind a space where the bit is set.
use Rattle.std.proofs.Common.{arith, ◌/◌, ◌%◌, ◌^◌}
use borrow.Author.Tests.{eq-eqb}
use Rattle.text.proofs.Spelling.{short}
use Rattle.lines.proofs.Line.member.Goals as goal

pub returns-then-set-e-eq1 : goal.returns-then-set-e-eq1
returns-then-set-e-eq1 c =
    let s = c.args in
    let f = c.field.ensures in
    rw (eq-eqb (s.set / 2 ^ s.e % 2) 1 c.if-set-e-eq1.true) record {
      adds = f.adds;
      few = omega (arith, f.adds.used, short s.e (omega arith));
    }
