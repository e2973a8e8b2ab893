-- `change` meets its contract: a number, an @ and the reading.
use Rattle.std.proofs.Common.{ℕ, List, ◌∷◌, arith}
use Rattle.text.specs.Decimals.{spelling}
use Rattle.text.proofs.Spelling.{short, short-word}
use Rattle.lines.proofs.Behind.{onward}
use Rattle.readings.proofs.change.Goals as goal

pub field-requires-2 : goal.field-requires-2
field-requires-2 c = omega (arith, c.field.ensures.adds.used, short c.args.k (omega arith))

pub returns : goal.returns
returns c =
    let number : List ℕ = 32 ∷ spelling c.args.k in
    let reading : List ℕ = 64 ∷ spelling c.from.result in
    let first = c.field.ensures.adds in
    let second = c.field-2.ensures.adds in
    rw (← c.from.ensures) record {
      adds = onward number reading first second;
      few = omega (arith, first.used, second.used, short c.args.k (omega arith), short-word c.from.result (rw c.from.ensures c.ranges.reading.fits));
    }
