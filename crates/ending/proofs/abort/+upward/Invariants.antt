-- `upward` ends, since each call has less left of the chain.
use Rattle.ending.proofs.abort.+upward.Given as goal

abbrev pub decreases-upward : goal.decreases-upward
decreases-upward l = l.left
