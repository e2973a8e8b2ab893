-- What holds of a block that enters a queue, and of each block of the queue, holds of every block that is asked for its key.
use mathlib.Core.Path.{subst}
use mathlib.Core.Logic.{⊎_elim}
use mathlib.Core.List.{List, ◌∷◌}
use Prim.Native.Nat.{ℕ, ◌≤◌}
use native.Mathlib.Omega.{arith}
use Rattle.threads.specs.Threads.{count}
use Rattle.threads.proofs.Lists.{count_past}
use Rattle.words.proofs.Truth.{tested}

pub asked_each : (P : ℕ → Type 0) (x : ℕ) (l : List ℕ) → P x → ((y : ℕ) → 1 ≤ count y l → P y) → (y : ℕ) → 1 ≤ count y (x ∷ l) → P y
asked_each P x l p h y c = ⊎_elim (λ z. subst P z.1 p) (λ z. h y (omega (arith, c, count_past x y l z.1))) (tested x y)
