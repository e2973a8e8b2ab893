-- `changed` meets its contract: before block k the line has the readings of the blocks below it behind it that are others, each of at most 14 bytes.
use borrow.Author.Tests.{eq-eqb, ne_eqb}
use Rattle.std.proofs.Common.{◌≡◌, rules}
use Rattle.lines.proofs.Behind.{fits-none}
use Rattle.readings.specs.Readings.{changed_of}
use Rattle.readings.proofs.Gathered.{changed-next}
use Rattle.readings.proofs.changed.Goals.{then-before-k, else-before-k}
use Rattle.readings.proofs.changed.Goals as goal

pub loop-k-init : goal.loop-k-init
unfolding changed_of
loop-k-init c = fits-none c.args.l 0

pub loop-k-preserved : goal.loop-k-preserved
loop-k-preserved c =
    let s = c.args in
    let l = c.loop-k in
    elim c.if-before-k.branch [
      | then-before-k w ↦ changed-next s.before s.after l.k (search rules) l.invariant (rw (ne_eqb _ _ w.if-before-k.true, w.line-is) w.change-line.ensures)
      | else-before-k w ↦ changed-next s.before s.after l.k (search rules) l.invariant (rw (eq-eqb _ _ w.if-before-k.false, w.line-is) (fits-none l.line 14))
    ]

pub returns : goal.returns
returns c =
    let s = c.loop-k in
    let all : s.k ≡ 25 = search rules in
    rw all at s.invariant
