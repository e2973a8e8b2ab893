-- `begun` meets its contract: nothing where nobody begins to wait; else the words with the reading of the first, and the names.
use Rattle.std.proofs.Common.{arith, sym, ◌∙◌}
use Rattle.readings.specs.Readings.{reading_of, beginners, names_of, since_of}
use Rattle.lines.proofs.Behind.{fits-none, fits-onward}
use Rattle.readings.proofs.Gathered.{within, told_none, told-some}
use Rattle.readings.proofs.begun.Goals as goal

pub bounds-after-k : goal.bounds-after-k
bounds-after-k c =
    let s = c.args in
    omega (arith, within s.before s.after 24 c.in-Some.k (sym c.first.ensures ∙ c.in-Some.is))

pub offset_bounds-after-k : goal.offset_bounds-after-k
offset_bounds-after-k c = record { fits = omega (arith, bounds-after-k c) }

pub returns-in-Some : goal.returns-in-Some
returns-in-Some c =
    let s = c.args in
    let l = beginners s.before s.after 24 in
    rw (told-some s.after l c.in-Some.k (sym c.first.ensures ∙ c.in-Some.is))
    (fits-onward (since_of (reading_of s.after c.in-Some.k)) (names_of l) 99 c.since.ensures c.named.ensures (omega arith))

pub returns-in-None : goal.returns-in-None
returns-in-None c =
    let s = c.args in
    rw (told_none s.after (beginners s.before s.after 24) (sym c.first.ensures ∙ c.in-None.is)) (fits-none s.l 99)
