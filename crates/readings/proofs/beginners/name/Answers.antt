-- `name` meets its contract: the number behind a space where the block is one of them, and nothing where it is not.
use mathlib.Core.List.{append-nil}
use Rattle.std.proofs.Common.{arith}
use Rattle.text.specs.Decimals.{spelling}
use Rattle.text.proofs.Spelling.{short}
use Rattle.readings.specs.Readings.{names_of}
use Rattle.lines.proofs.Behind.{fits-none}
use Rattle.readings.proofs.beginners.name.Goals as goal

pub returns-then-begins : goal.returns-then-begins
unfolding names_of
returns-then-begins c =
    let s = c.args in
    let f = c.field.ensures in
    rw (c.if-begins.true, append-nil (spelling s.k)) record {
      adds = f.adds;
      few = omega (arith, f.adds.used, short s.k (omega arith));
    }

pub returns-else-begins : goal.returns-else-begins
unfolding names_of
returns-else-begins c = rw c.if-begins.false (fits-none c.args.l 3)
