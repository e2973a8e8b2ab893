-- No second answer: any two results that both meet what a public function of this crate promises are equal. `Post` is the promise itself, as the contract in
-- the source states it. Tables that show one state are the same tables.
use Rattle.words.proofs.Once.{OneAnswer}
use Rattle.tables.proofs.Held.{shown-once}
use Rattle.ending.proofs.abort.unlink.Reads as unlink
use Rattle.ending.proofs.abort.abort.Reads as abort
use Rattle.ending.proofs.finish.finish.Reads as finish
use Rattle.ending.proofs.finish.end.Reads as end

pub unlink-only : OneAnswer unlink.Post
unlink-only κs given r s end end' p q = shown-once p q

pub abort-only : OneAnswer abort.Post
abort-only κs given r s end end' p q = shown-once p q

pub finish-only : OneAnswer finish.Post
finish-only κs given r s end end' p q = shown-once p q

pub end-only : OneAnswer end.Post
end-only κs given r s end end' p q = shown-once p q
