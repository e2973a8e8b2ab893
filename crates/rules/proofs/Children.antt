-- A LINK waiter has one child and any other task none: told by the set of the parents, the set of those that are the parent of two, and the set of the
-- LINK waiters, each with slot 0 left out.
use mathlib.Core.Bool.{Bool, true, false, ◌&&◌, ◌||◌}
use mathlib.Core.Path.{◌≡◌, refl, sym, ap, ap₂, ◌∙◌}
use mathlib.Core.Logic.{⊎_elim}
use Prim.Native.Nat.{ℕ, zero, suc, ◌+◌, ◌/◌, ◌≤◌, ◌<◌}
use native.Mathlib.Omega.{arith}
use lib.Bits.{bit_or}
use lib.Dec.{eqb, leb}
use borrow.Author.Tests.{eq-eqb, ne_eqb, le-leb, lt-leb, leb-true}
use Rattle.words.proofs.Truth.{tested, same_truth, and-true}
use Rattle.words.specs.Words.{if◌then◌else◌, one_to, how_many, has, adding}
use Rattle.words.proofs.Members.{has-none, has-next, has-union}
use Rattle.words.proofs.Changes.{has-adding}
use Rattle.words.proofs.Places.{under-or-from}
use Rattle.tables.specs.State.{State, task_at}
use Rattle.meaning.specs.Rules.{linked}
use Rattle.threads.proofs.Tests.{all-to, to-all}
use Rattle.rules.specs.Links.{Tally, Exact, Waiters, child_of, alone}
use Rattle.fields.proofs.Owners.{eqb_swap}
use Rattle.rules.proofs.Tally.{met, met-none, tally-end, tally-half}
use Rattle.tables.specs.Blocks.{task_blocks}

alone-has : (place k u : ℕ) → has (alone place k) u ≡ (eqb place 6 && eqb k u)
alone-has place k u = ⊎_elim (λ z. rw z.0 (has-adding 0 k u ∙ rw (has-none u) (eqb_swap u k))) (λ z. rw z.0 (has-none u)) (tested place 6)

or-not : (a b : Bool) → (a || (b && false)) ≡ a
or-not true b = refl
or-not false true = refl
or-not false false = refl

-- `x` of u among 1 to k, or of the next
one_further : (x : ℕ → Bool) (k u : ℕ) → ((leb u k && x u) || (x (k + 1) && eqb (k + 1) u)) ≡ (leb u (k + 1) && x u)
one_further x k u =
    ⊎_elim
    (λ z. rw (← z.1, lt-leb (k + 1) k (omega arith), le-leb (k + 1) (k + 1) (omega arith), eq-eqb (k + 1) (k + 1) refl) (and-true (x (k + 1))))
    (λ z.
    let same =
    same_truth (leb u k) (leb u (k + 1)) (λ e. le-leb u (k + 1) (omega (arith, leb-true u k e)))
    (λ e. le-leb u k (omega (arith, leb-true u (k + 1) e, z.1))) in
    rw z.0 (or-not _ (x (k + 1)) ∙ ap (λ (b : Bool). b && x u) same))
    (tested (k + 1) u)

module _ (s : State) where
  -- the set of a task's parent
  pub parent-has : (c u : ℕ) → has (adding 0 (task_at s c).parent) u ≡ child_of s u c
  parent-has c u = has-adding 0 (task_at s c).parent u ∙ rw (has-none u) (eqb_swap u (task_at s c).parent)

  pub waiters-start : Waiters s 0 0
  waiters-start = record { at = λ u h. rw (lt-leb u 0 h, has-none u) }

  pub waiters-next : {k waits : ℕ} → Waiters s k waits → Waiters s (k + 1) (bit_or waits (alone (task_at s (k + 1)).place (k + 1)))
  waiters-next {k} {waits} w =
      record {
        at = λ u h.
            has-union waits _ u ∙ ap₂ (λ (a b : Bool). a || b) (w.at u h) (alone-has (task_at s (k + 1)).place (k + 1) u)
            ∙ one_further (λ j. eqb (task_at s j).place 6) k u;
      }

  abbrev linked_at : ℕ → Bool
  linked_at k = eqb (how_many (child_of s k) (one_to task_blocks)) (if eqb (task_at s k).place 6 then 1 else 0)

  abbrev met_at : ℕ → ℕ → Bool
  met_at waits u = met (λ u. child_of s (suc u)) 24 (waits / 2) u

  same_at : {waits : ℕ} → Waiters s 24 waits → (u : ℕ) → u < 24 → met_at waits u ≡ linked_at (suc u)
  same_at {waits} w u h = rw (← has-next waits u, w.at (suc u) (omega arith), le-leb (suc u) 24 (omega arith))

  pub linked-end : {one two waits : ℕ} {r : Bool} → ((k : ℕ) → k ≤ task_blocks → (task_at s k).parent ≤ task_blocks) → Tally (child_of s) 24 one two → Waiters s 24 waits
      → Exact (one / 2) (two / 2) (waits / 2) r → r ≡ linked s
  unfolding linked
  linked-end {one} {two} {waits} low t w x =
      x.right
      ∙ tally-end (waits / 2) (tally-half t)
      (λ e u.
      ⊎_elim (λ l. same_at w u l ∙ all-to linked_at 24 e (suc u) (omega arith) (omega arith))
      (λ l.
      met-none (λ u. child_of s (suc u)) 24 (waits / 2) u (λ k a b. ne_eqb (task_at s k).parent (suc u) (λ z. omega (arith, low k b)))
      (sym (has-next waits u) ∙ w.at (suc u) (omega arith) ∙ rw (lt-leb (suc u) 24 (omega arith))))
      (under-or-from u 24))
      (λ f. to-all linked_at 24 (below f))
    where
      below : ((u : ℕ) → met_at waits u ≡ true) → (y : ℕ) → 1 ≤ y → y ≤ task_blocks → linked_at y ≡ true
      below f zero a b = absurd (omega arith)
      below f (suc u) a b = sym (same_at w u (omega arith)) ∙ f u
