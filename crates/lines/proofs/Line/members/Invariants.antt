-- `members` meets its contract: after e turns the line has the members below e behind it, each of at most three bytes.
use Rattle.std.proofs.Common.{◌*◌}
use Rattle.lines.specs.Lines.{Fits, members_of}
use Rattle.lines.proofs.Line.members.Given as goal

abbrev pub invariant-loop-e : goal.invariant-loop-e
invariant-loop-e l = Fits l.initial.line (members_of l.set l.e) (l.e * 3) l.line
