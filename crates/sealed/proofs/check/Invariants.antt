-- `check` meets its contract: the loop is `downward`, which gives the weighted sum, and both sums stay low, `Running`.
use Rattle.sealed.proofs.Sums.{Running}
use Rattle.sealed.proofs.check.Given as goal

abbrev pub invariant-loop-byte : goal.invariant-loop-byte
invariant-loop-byte l = Running l.bytes l.total l.sum l.byte-iterator.iter.rest.now
