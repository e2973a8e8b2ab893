-- Chains of parents: m steps up and n more are m + n, and above none is none. So a walk up from a task, which ends at none or after 24 steps, tells whether
-- 24 steps come to none.
use mathlib.Core.Bool.{true}
use mathlib.Core.Path.{◌≡◌, refl, sym, ap, ◌∙◌}
use Prim.Native.Nat.{ℕ, zero, suc, ◌+◌, ◌-◌, ◌≤◌, ◌<◌}
use native.Mathlib.Omega.{arith}
use lib.Dec.{eqb}
use borrow.Author.Tests.{eq-eqb}
use Rattle.tables.specs.State.{State, task_at}
use Rattle.meaning.specs.Rules.{upward}
use Rattle.tables.specs.Blocks.{task_blocks}

-- y is n steps above the task k
pub record Above (s : State) (k n y : ℕ) : Type 0 where
  pub at : y ≡ upward s n k
  pub steps : n ≤ task_blocks
  pub low : y ≤ task_blocks

module _ (s : State) where
  upward-add : (m n k : ℕ) → upward s n (upward s m k) ≡ upward s (m + n) k
  unfolding upward
  upward-add zero n k = let e : 0 + n ≡ n = omega arith in rw e
  upward-add (suc m) n k = let e : suc m + n ≡ suc (m + n) = omega arith in rw e (upward-add m n (task_at s k).parent)

  upward-none : (task_at s 0).parent ≡ 0 → (n : ℕ) → upward s n 0 ≡ 0
  unfolding upward
  upward-none e zero = refl
  upward-none e (suc n) = rw e (upward-none e n)

  pub above-start : (k : ℕ) → (task_at s k).parent ≤ task_blocks → Above s k 1 (task_at s k).parent
  unfolding upward
  above-start k h = record { at = refl; steps = omega arith; low = h }

  module _ {k n y : ℕ} (a : Above s k n y) where
    pub above-next : n < 24 → (task_at s y).parent ≤ task_blocks → Above s k (n + 1) (task_at s y).parent
    unfolding upward
    above-next l h =
        record { at = ap (λ (z : ℕ). (task_at s z).parent) a.at ∙ upward-add n 1 k; steps = omega arith; low = h }

    pub above-none : (task_at s 0).parent ≡ 0 → y ≡ 0 → true ≡ eqb (upward s 24 k) 0
    above-none none z =
        let all : n + (24 - n) ≡ 24 = omega (arith, a.steps) in
        let rest : upward s (24 - n) y ≡ upward s 24 k = rw a.at (rw all at (upward-add n (24 - n) k)) in
        sym (eq-eqb (upward s 24 k) 0 (sym rest ∙ ap (upward s (24 - n)) z ∙ upward-none none (24 - n)))
