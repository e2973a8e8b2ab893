-- `since` meets its contract: the words, a number of at most ten digits, a colon.
use Rattle.std.proofs.Common.{ℕ, List, [], ◌∷◌, ◌++◌, arith}
use mathlib.Core.List.{append_assoc}
use Rattle.text.specs.Decimals.{spelling}
use Rattle.text.proofs.Spelling.{short-word}
use Rattle.lines.proofs.Behind.{onward}
use Rattle.readings.specs.Readings.{waiting_since}
use Rattle.readings.proofs.since.Goals as goal

pub text-requires : goal.text-requires
text-requires c = omega (arith, c.field.ensures.adds.used, short-word c.from.result (rw c.from.ensures c.ranges.reading.fits))

pub returns : goal.returns
returns c =
    let digits = spelling c.from.result in
    let colon : List ℕ = 58 ∷ [] in
    let first = c.field.ensures.adds in
    let second = c.text.ensures in
    rw (← c.from.ensures) record {
      adds = rw (← append_assoc waiting_since digits colon) (onward (waiting_since ++ digits) colon first second);
      few = omega (arith, first.used, second.used, short-word c.from.result (rw c.from.ensures c.ranges.reading.fits));
    }
