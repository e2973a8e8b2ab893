-- The rules as records in the plain words of the meaning: a sum or a bit that is 1 or 0 is a fact that holds or not; who waits for events has too few on; and who is first in line
-- for core finds a granted unit in every run of its length.
use mathlib.Core.Bool.{true, false, true≢false}
use mathlib.Core.Path.{◌≡◌, refl, sym, ◌∙◌}
use mathlib.Core.Logic.{◌↔◌}
use mathlib.Core.List.{List, ◌∷◌}
use Prim.Native.Nat.{ℕ, ◌+◌, ◌≤◌, ◌<◌}
use lib.Bits.{bit_and}
use borrow.Author.Tests.{eqb-true, eq-eqb, leb-false}
use Rattle.threads.specs.Threads.{count}
use Rattle.words.specs.Words.{has, size}
use Rattle.pools.proofs.Units.{free-shown}
use Rattle.pools.proofs.Rules.{long-not}
use Rattle.tables.specs.State.{State, event_queue, core_queue, task_at, pool_at, queue, units_of}
use Rattle.meaning.specs.Conditions.{enough}
use Rattle.words.specs.Counting.{one, bit}
use Rattle.lawful.specs.Resting.{Lawful}
use Rattle.words.proofs.Counting.{one_same, one-eq}

-- ---- Numbers that are 1 or 0.
pub same-where : (a b c d : ℕ) → one a b ≡ one c d → (a ≡ b) ↔ (c ≡ d)
same-where a b c d e = (λ z. one-eq c d (sym e ∙ one_same a b z), λ z. one-eq a b (e ∙ one_same c d z))

pub has-where : (w k c d : ℕ) → bit w k ≡ one c d → (has w k ≡ true) ↔ (c ≡ d)
has-where w k c d e = (λ z. one-eq c d (sym e ∙ eqb-true (bit w k) 1 z), λ z. eq-eqb (bit w k) 1 (e ∙ one_same c d z))

module _ {s : State} (g : Lawful s) where
  -- ---- "No event waiter's condition already holds"
  pub too_few : (k : ℕ) → 1 ≤ count k (queue s event_queue) → size (bit_and (task_at s k).events s.on) < (task_at s k).count
  unfolding enough count
  too_few k w = leb-false (task_at s k).count (size (bit_and (task_at s k).events s.on)) (g.rest.asleep.asleep k w refl)

  -- ---- "and no first waiter for core would fit"
  module _ (level : ℕ) (lo : 1 ≤ level) (hi : level ≤ 3) (k : ℕ) (behind : List ℕ) (e : queue s (core_queue level) ≡ k ∷ behind) where
    pub no_run : (a : ℕ) → a + units_of s k ≤ 64 → ((u : ℕ) → a ≤ u → u < a + units_of s k → has (pool_at s level) u ≡ false) → ⊥
    no_run a l f =
        let t = free-shown (pool_at s level) (units_of s k) a l f in
        true≢false (sym t ∙ long-not (pool_at s level) (units_of s k) ((g.rest.stuck level lo hi).stuck k behind e) a)
