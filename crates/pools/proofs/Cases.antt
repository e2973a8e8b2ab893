-- The start that was found and what is found at a start undo each other: `find` names the start that a grant takes, or 64.
use mathlib.Core.Path.{◌≡◌}
use mathlib.Core.Logic.{⊎_elim}
use Prim.Native.Nat.{ℕ, ◌≤◌, ◌<◌}
use native.Mathlib.Omega.{arith}
use borrow.Author.Tests.{lt-ltb, le-ltb}
use Rattle.std.specs.Prelude.{Some, None}
use Rattle.words.proofs.Places.{under-or-from}
use Rattle.pools.specs.Pools.{start_of}
use Rattle.pools.specs.Find.{start_in, found_at, found_of}
use Rattle.pools.proofs.Starts.{start-most}

pub start-in : (a : ℕ) → a ≤ 64 → start_in (found_at a) ≡ a
start-in a h =
    ⊎_elim (λ (l : a < 64). rw (lt-ltb a 64 l)) (λ (m : 64 ≤ a). let e : a ≡ 64 = omega arith in rw e) (under-or-from a 64)

pub found-start : (holes granted n : ℕ) → start_in (found_of holes granted n) ≡ start_of holes granted n
unfolding found_of
found-start holes granted n = start-in (start_of holes granted n) (start-most holes granted n)

pub at : (a : ℕ) → a < 64 → found_at a ≡ Some a
at a l = rw (lt-ltb a 64 l)

pub nowhere : (a : ℕ) → 64 ≤ a → found_at a ≡ None
nowhere a l = rw (le-ltb a 64 l)
