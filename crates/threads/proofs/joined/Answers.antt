-- `joined` stores what its definition says, in each of the four ways through its tests.
use borrow.Author.Tests.{eq-eqb, ne_eqb}
use Rattle.threads.specs.Joints.{joined, put, put_end}
use Rattle.threads.proofs.joined.Goals as goal
use Rattle.threads.proofs.joined.Goals.{then-p-eq0, else-p-eq0}

pub returns-then-s-eq0 : goal.returns-then-s-eq0
unfolding joined put put_end
returns-then-s-eq0 c =
    elim c.if-p-eq0.branch [
      | then-p-eq0 w ↦ rw (w.u-is, eq-eqb _ _ w.if-p-eq0.true, eq-eqb _ _ c.if-s-eq0.true)
      | else-p-eq0 w ↦ rw (w.u-is, ne_eqb _ _ w.if-p-eq0.false, eq-eqb _ _ c.if-s-eq0.true)
    ]

pub returns-else-s-eq0 : goal.returns-else-s-eq0
unfolding joined put put_end
returns-else-s-eq0 c =
    elim c.if-p-eq0.branch [
      | then-p-eq0 w ↦ rw (w.u-is, eq-eqb _ _ w.if-p-eq0.true, ne_eqb _ _ c.if-s-eq0.false)
      | else-p-eq0 w ↦ rw (w.u-is, ne_eqb _ _ w.if-p-eq0.false, ne_eqb _ _ c.if-s-eq0.false)
    ]
