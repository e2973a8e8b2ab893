-- What the abort leaves after each of its steps: the task that lost its link can end, alone or beside its parent, which is in LINK; and then the parent
-- is the one in hand. And what is aborted, step by step; and a step as the code takes it.
use mathlib.Core.Path.{◌≡◌, refl, ap}
use mathlib.Core.Logic.{◌≢◌, ⊎_elim}
use mathlib.Core.List.{[], ◌∷◌}
use Prim.Native.Nat.{ℕ, zero, suc, ◌-◌, ◌≤◌}
use native.Mathlib.Omega.{arith}
use borrow.Author.Tests.{ne_eqb}
use Rattle.threads.specs.Threads.{Sound}
use Rattle.words.proofs.Truth.{tested}
use Rattle.tables.specs.declared.Tables.{Tables}
use Rattle.tables.specs.State.{State, task_at, read}
use Rattle.tables.specs.Held.{Shows}
use Rattle.meaning.specs.Rules.{upward}
use Rattle.meaning.specs.Finish.{ended, unlinked, aborted}
use Rattle.lawful.specs.Shape.{InHand}
use Rattle.lawful.specs.Resting.{Aborting}
use Rattle.lawful.proofs.Each.Finish.{grab, parent-low, parent-links}
use Rattle.lawful.proofs.Blocks.Unlink.{unlink-rest}
use Rattle.lawful.proofs.Each.Abort.{aborted-none, alone, child, abort-next}
use Rattle.ending.specs.Ending.{Finishing}
use Rattle.ending.proofs.Shown.{then}

-- ---- The meaning, step by step.
-- a chain that has a task in hand is not at its end
pub abort-left : (n : ℕ) {k : ℕ} {s : State} → Aborting n k s → 1 ≤ n
unfolding upward
abort-left zero a = absurd (omega (arith, a.chain, a.hand.some))
abort-left (suc n) a = omega arith

aborted-step : (n : ℕ) {k : ℕ} {s : State} → Aborting n k s → aborted n k s ≡ aborted (n - 1) (task_at s k).parent (ended (unlinked s k) k)
unfolding aborted
aborted-step zero a = absurd (omega (arith, abort-left 0 a))
aborted-step (suc n) {k} {s} a =
    let z : n ≡ suc n - 1 = omega arith in
    rw (ne_eqb k 0 (λ i. omega (arith, i, a.hand.some))) (ap (λ (i : ℕ). aborted i (task_at s k).parent (ended (unlinked s k) k)) z)

next : (n : ℕ) {k : ℕ} {s : State} → Aborting n k s → (task_at s k).parent ≢ 0 → Aborting (n - 1) (task_at s k).parent (ended (unlinked s k) k)
next zero a z = absurd (omega (arith, abort-left 0 a))
next (suc n) a z = let e : suc n - 1 ≡ n = omega arith in rw e (abort-next a z)

-- ---- The tables, step by step.
module _ {n k : ℕ} {s : State} (a : Aborting n k s) where
  abbrev p : ℕ
  p = (task_at s k).parent

  linked : p ≢ 0 → InHand s p (k ∷ []) p
  linked z =
      let i = a.hand in
      grab i.shape p (omega (arith, z)) (parent-low i.shape k i.low z i.some) (parent-links i.shape k i.low z i.some)

  pub abort-ends : {u : Tables} → Shows u (unlinked s k) → Finishing u k
  abort-ends w =
      let i = a.hand in
      ⊎_elim
      (λ z. record {
        others = [];
        excused = [];
        sound = w.sound;
        hand = rw w.reads (alone i a.rest a.core z.1);
        rest = rw w.reads (unlink-rest i.shape k i.some i.low z.1 a.rest);
      })
      (λ z. record {
        others = p ∷ [];
        excused = [];
        sound = w.sound;
        hand = rw w.reads (child i a.rest a.core z.1);
        rest = rw w.reads (unlink-rest (linked z.1).shape k i.some i.low refl a.rest);
      })
      (tested p 0)

  -- after it the abort is done, or goes on with the parent
  module _ {u : Tables} (w : Shows u (ended (unlinked s k) k)) where
    pub abort-last : p ≡ 0 → Shows u (aborted n k s)
    abort-last z = rw (aborted-step n a, z, aborted-none (n - 1) (ended (unlinked s k) k)) w

    pub abort-parent : p ≢ 0 → Aborting (n - 1) p (read u)
    abort-parent z = rw w.reads (next n a z)

    pub abort-further : {r : Tables} → Shows r (aborted (n - 1) p (read u)) → Shows r (aborted n k s)
    abort-further e = rw (aborted-step n a) (then (aborted (n - 1) p) w e)

-- ---- A step as the code takes it: what it asks, what it leaves, and what is told at the end.
abbrev pub Asked : Tables → ℕ → ℕ → Type 0
Asked t k n = Sound t.threads × Aborting n k (read t)

abbrev pub Told : Tables → ℕ → ℕ → Tables → Type 0
Told t k n r = Shows r (aborted n k (read t))

module _ {t u : Tables} {k n : ℕ} (a : Asked t k n) (e : Shows u (ended (unlinked (read t) k) k)) where
  abbrev above : ℕ
  above = (task_at (read t) k).parent

  -- with no parent the abort is done
  pub step-last : above ≡ 0 → Told t k n u
  step-last z = abort-last a.1 e z

  -- with one it goes on, with less left of the chain
  pub step-asks : above ≢ 0 → Asked u above (n - 1)
  step-asks z = (e.sound, abort-parent a.1 e z)

  pub step-tells : (r : Tables) → Told u above (n - 1) r → Told t k n r
  step-tells r f = abort-further a.1 e f
