-- `members` meets its contract: after e turns the line has the members below e behind it, each of at most three bytes.
use Rattle.std.proofs.Common.{◌≡◌, suc, ◌*◌, add-one, arith, rules}
use Rattle.lines.specs.Lines.{member_of, members_of}
use Rattle.lines.proofs.Behind.{fits-none, fits-onward}
use Rattle.lines.proofs.Line.members.Goals as goal

pub loop-e-init : goal.loop-e-init
unfolding members_of
loop-e-init c = fits-none c.args.self 0

pub loop-e-preserved : goal.loop-e-preserved
unfolding members_of
loop-e-preserved c =
    let set = c.args.set in
    let e = c.loop-e.e in
    rw (add-one e) (fits-onward (members_of set e) (member_of set e) (suc e * 3) c.loop-e.invariant c.member-line.ensures (omega arith))

pub returns : goal.returns
returns c =
    let s = c.loop-e in
    let all : s.e ≡ 64 = search rules in
    rw all at s.invariant
