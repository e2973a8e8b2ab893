-- No second answer: any two results that both meet what a public function of this crate promises are equal. `Post` is the promise itself, as the contract in
-- the source states it. Tables that show one state are the same tables, also where they do so for every call and where a result goes with them.
use Rattle.words.proofs.Once.{OneAnswer}
use Rattle.tables.proofs.Held.{shown-once}
use Rattle.meaning.proofs.Once.{gives-once, call-once}
use Rattle.channel.proofs.check.check.Reads as check
use Rattle.channel.proofs.done.io_done.Reads as io-done
use Rattle.channel.proofs.queue.enter.Reads as enter
use Rattle.channel.proofs.queue.next.Reads as next
use Rattle.channel.proofs.transfer.transfer.Reads as transfer

pub check-only : OneAnswer check.Post
check-only κs given r s end end' p q = shown-once p q

pub io-done-only : OneAnswer io-done.Post
io-done-only κs given r s end end' p q = call-once p q

pub enter-only : OneAnswer enter.Post
enter-only κs given r s end end' p q = shown-once p q

pub next-only : OneAnswer next.Post
next-only κs given r s end end' p q = shown-once p q

pub transfer-only : OneAnswer transfer.Post
transfer-only κs given r s end end' p q = gives-once p q
