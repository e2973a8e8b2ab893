-- `named` meets its contract: before block k the line has the names of the blocks below it behind it, each of at most three bytes.
use Rattle.std.proofs.Common.{◌≡◌, rules}
use Rattle.lines.proofs.Behind.{fits-none}
use Rattle.readings.specs.Readings.{beginners, names_of}
use Rattle.readings.proofs.Gathered.{named-next}
use Rattle.readings.proofs.beginners.named.Goals as goal

pub loop-k-init : goal.loop-k-init
unfolding beginners names_of
loop-k-init c = fits-none c.args.l 0

pub loop-k-preserved : goal.loop-k-preserved
loop-k-preserved c =
    let s = c.args in
    let l = c.loop-k in
    named-next s.before s.after l.k (search rules) l.invariant (rw (← c.begins.ensures) c.name-line.ensures)

pub returns : goal.returns
returns c =
    let s = c.loop-k in
    let all : s.k ≡ 25 = search rules in
    rw all at s.invariant
