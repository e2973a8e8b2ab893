-- No second answer: any two results that both meet what a public function of this crate promises are equal, and so are the two blocks that `seal` leaves.
-- `Post` is the promise itself, as the contract in the source states it. An equation leaves one answer.
use mathlib.Core.Path.{◌≡◌, sym, ◌∙◌}
use borrow.Fn.Kinds.{Dens, ended_of}
use contract.Lifetimes.{Lfts}
use denote.Triple.Clauses.{AtExit}
use Rattle.words.proofs.Once.{OneAnswer}
use Rattle.sealed.proofs.check.Reads as check
use Rattle.sealed.proofs.passes.Reads as passes
use Rattle.sealed.proofs.seal.Kinds as seal-kinds
use Rattle.sealed.proofs.seal.Reads as seal
use Rattle.sealed.proofs.zeros.Reads as zeros

pub check-only : OneAnswer check.Post
check-only κs given r s end end' p q = p ∙ sym q

pub passes-only : OneAnswer passes.Post
passes-only κs given r s end end' p q = p ∙ sym q

-- of the parameters at exit, `.0` is the block
module _ (κs : Lfts 1) (given : Dens κs seal-kinds.ps) (end end' : AtExit (ended_of 1 seal-kinds.ps seal-kinds.r) κs) where
  pub seal-only : seal.Post κs given tt end → seal.Post κs given tt end' → end.0.now ≡ end'.0.now
  seal-only p q = p ∙ sym q

pub zeros-only : OneAnswer zeros.Post
zeros-only κs given r s end end' p q = p ∙ sym q
