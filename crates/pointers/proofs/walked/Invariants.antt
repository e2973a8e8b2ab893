-- The walk along the pointers. The invariant: what is left of the walk gives what the whole gives (Marks); each answer is a step of the mirror (Passes).
use Rattle.pointers.proofs.Marks.{Walking}
use Rattle.pointers.proofs.walked.Given as goal

abbrev pub invariant-loop-n : goal.invariant-loop-n
invariant-loop-n l = Walking l.t l.marks l.q l.p l.y l._n
