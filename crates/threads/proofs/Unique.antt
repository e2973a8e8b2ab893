-- No second answer: any two results that both meet what a public function of this crate promises are equal. `Post` is the promise itself, as the contract in
-- the source states it. Pointers are determined by the lists that they hold.
use mathlib.Core.Path.{◌≡◌}
use Prim.Native.Nat.{ℕ}
use Rattle.threads.specs.Threads.{Follows}
use Rattle.threads.specs.contracts.enter.F-Fn.{words}
use Rattle.words.proofs.Once.{OneAnswer}
use Rattle.threads.proofs.Read.{determined}
use Rattle.threads.proofs.empty.Reads as empty
use Rattle.threads.proofs.append.Reads as append
use Rattle.threads.proofs.push.Reads as push
use Rattle.threads.proofs.insert_before.Reads as insert-before
use Rattle.threads.proofs.remove.Reads as remove
use Rattle.threads.proofs.enter.Reads as enter

pub empty-only : OneAnswer empty.Post
empty-only κs given r s end end' p q = determined p q

pub append-only : OneAnswer append.Post
append-only κs given r s end end' p q = determined p q

pub push-only : OneAnswer push.Post
push-only κs given r s end end' p q = determined p q

pub insert-before-only : OneAnswer insert-before.Post
insert-before-only κs given r s end end' p q = determined p q

pub remove-only : OneAnswer remove.Post
remove-only κs given r s end end' p q = determined p q

-- `enter` at any closure whose answers follow an order.
pub enter-only : (F laws fn d e f g : _) (order : ℕ → ℕ) (κs given r s end end' : _)
    → enter.Post F laws fn d e f g κs given r end → enter.Post F laws fn d e f g κs given s end'
    → Follows given.0 given.1.0 given.1.1.0 ((words F fn).post given.1.1.1.0) order → r ≡ s
enter-only F laws fn d e f g order κs given r s end end' p q k = determined (p order k) (q order k)
