-- `pools::free_starts` meets its contract. So far, the set has the starts of free runs of `length` units; what is added is at most that length, and
-- at most what is left of n.
use native.Mathlib.Omega.{arith}
use borrow.Author.Rules.{rules}
use Rattle.pools.proofs.Search.{searching-start, searching-next}
use Rattle.pools.proofs.free_starts.Goals as goal

pub loop-length-init : goal.loop-length-init
loop-length-init c = searching-start c.args.granted c.args.n (search rules) c.requires.0

pub loop-length-preserved : goal.loop-length-preserved
loop-length-preserved c = searching-next c.loop-length.invariant c.min-more.result (omega arith) (omega arith)
