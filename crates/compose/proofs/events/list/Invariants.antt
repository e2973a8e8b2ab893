-- `events::list` ends: a turn begins past a comma. The scan is in the line that it was in, and no further back.
use Rattle.std.proofs.Common.{◌-◌, length}
use Rattle.compose.specs.Words.{Further}
use Rattle.compose.proofs.events.list.Given as goal

abbrev pub decreases-loop-scan : goal.decreases-loop-scan
decreases-loop-scan l = length l.scan.line.now - l.scan.at

abbrev pub invariant-loop-scan : goal.invariant-loop-scan
invariant-loop-scan l = Further l.fn.scan l.scan
