-- No second answer: any two results that both meet what a public function of this crate promises are equal. `Post` is the promise itself, as the contract in
-- the source states it. An equation leaves one answer.
use mathlib.Core.Path.{sym, ◌∙◌}
use Rattle.words.proofs.Once.{OneAnswer}
use Rattle.tables.proofs.loaded.Reads as loaded
use Rattle.tables.proofs.all_zero.Reads as all-zero
use Rattle.tables.proofs.places.waits.Reads as waits
use Rattle.tables.proofs.places.since.Reads as since

pub loaded-only : OneAnswer loaded.Post
loaded-only κs given r s end end' p q = p ∙ sym q

pub all-zero-only : OneAnswer all-zero.Post
all-zero-only κs given r s end end' p q = p ∙ sym q

pub waits-only : OneAnswer waits.Post
waits-only κs given r s end end' p q = p ∙ sym q

pub since-only : OneAnswer since.Post
since-only κs given r s end end' p q = p ∙ sym q
