-- The abort: child first, then its parent, and so on upward. Each task in turn is taken in hand, loses its link and ends; the parent of the one before, which
-- has lost its child, is the next. By induction on the length of the chain.
use mathlib.Core.Path.{◌≡◌, refl, sym, ap, ap₂, ◌∙◌}
use mathlib.Core.Logic.{◌≢◌, ◌⊎◌, inl, inr, ⊎_elim}
use mathlib.Core.List.{List, [], ◌∷◌}
use Prim.Native.Nat.{ℕ, zero, suc, ◌≤◌}
use native.Mathlib.Omega.{arith}
use lib.ListN.{get_or}
use lib.Seq.{get_or-set_same, get_or-set_other}
use borrow.Author.Tests.{ne_eqb}
use Rattle.words.proofs.Truth.{tested}
use Rattle.words.specs.Words.{◌among◌}
use Rattle.image.specs.declared.Directory.{Directory}
use Rattle.image.specs.Directory.{no_entry}
use Rattle.tables.specs.declared.Task.{Task}
use Rattle.tables.specs.State.{State, core_queue, task_at, units_of, with_running}
use Rattle.tables.specs.Blocks.{no_task}
use Rattle.calls.specs.declared.Call.{Call}
use Rattle.meaning.specs.Rules.{upward}
use Rattle.meaning.specs.Finish.{ended, unlinked, aborted}
use Rattle.meaning.specs.Services.{program_check}
use Rattle.lawful.specs.Shape.{module_of, Shape, InHand}
use Rattle.lawful.specs.Resting.{Aborting, Rest, Lawful, Settled}
use Rattle.lawful.proofs.Blocks.Still.{shape-hands, swapped}
use Rattle.lawful.proofs.Blocks.Unlink.{unlink, unlink-rest}
use Rattle.lawful.proofs.Each.Chains.{chain-ends, upward-shorter}
use Rattle.lawful.proofs.Blocks.Sums.{field-kept}
use Rattle.lawful.proofs.Blocks.Enter.{hand-count}
use Rattle.lawful.proofs.Blocks.Leave.{stop}
use Rattle.lawful.proofs.Blocks.Members.{runs-place, runs-stands}
use Rattle.lawful.proofs.Each.Finish.{grab, parent-low, parent-links, parent-apart, Finishes, ends}
use Rattle.lawful.proofs.Each.Calls.{rest-stopped}

-- ---- The abort.
pub aborted-none : (n : ℕ) (s : State) → aborted n 0 s ≡ s
unfolding aborted
aborted-none zero s = refl
aborted-none (suc n) s = refl

unlinked-directory : (s : State) (k : ℕ) → (unlinked s k).directory ≡ s.directory
unfolding unlinked
unlinked-directory s k = refl

module _ {s : State} {k : ℕ} (i : InHand s k [] 0) (r : Rest s []) (u : 1 ≤ units_of s k → (task_at s k).core ≡ 0 → ⊥) where
  pub lone-needs : {h : List ℕ} {e : ℕ} → Shape s h e → 1 ≤ units_of (unlinked s k) k → (task_at (unlinked s k) k).core ≡ 0 → ⊥
  unfolding unlinked
  lone-needs g a b =
      let o : units_of (unlinked s k) k ≡ units_of s k =
      ap (λ (j : ℕ). (get_or s.directory.entries j no_entry).units) (field-kept (λ t. t.program) s.tasks k k _ no_task refl) in
      let o' : (task_at (unlinked s k) k).core ≡ (task_at s k).core = field-kept (λ t. t.core) s.tasks k k _ no_task refl in
      u (omega (arith, a, o)) (sym o' ∙ b)

  -- with no parent
  pub alone : (task_at s k).parent ≡ 0 → InHand (unlinked s k) k [] 0
  alone z = record { some = i.some; low = i.low; out = i.out; shape = unlink i.shape k i.some i.low z }

  pub end-alone : (task_at s k).parent ≡ 0 → Finishes (unlinked s k) (ended (unlinked s k) k) k [] []
  end-alone z = ends (alone z) (unlink-rest i.shape k i.some i.low z r) (lone-needs i.shape)

  -- with a parent, which is taken into the hand
  module _ (z : (task_at s k).parent ≢ 0) where
    abbrev p : ℕ
    p = (task_at s k).parent

    pub grabbed : InHand s p (k ∷ []) p
    grabbed = grab i.shape p (omega (arith, z)) (parent-low i.shape k i.low z i.some) (parent-links i.shape k i.low z i.some)

    apart : p ≢ k
    apart = parent-apart i.shape k i.low z i.some

    pub child : InHand (unlinked s k) k (p ∷ []) 0
    unfolding ◌among◌
    child =
        record {
          some = i.some;
          low = i.low;
          out = rw (ne_eqb p k apart) refl;
          shape = shape-hands (swapped (unlinked s k) p k []) (unlink grabbed.shape k i.some i.low refl);
        }

    pub done : Finishes (unlinked s k) (ended (unlinked s k) k) k (p ∷ []) []
    done = ends child (unlink-rest grabbed.shape k i.some i.low refl r) (lone-needs i.shape)

    next-hand : InHand (ended (unlinked s k) k) p [] 0
    unfolding ◌among◌
    next-hand = record { some = grabbed.some; low = grabbed.low; out = refl; shape = done.shape }

    next-same : task_at (ended (unlinked s k) k) p ≡ task_at s p
    unfolding unlinked
    next-same =
        done.tasks p apart (λ y. z (y ∙ ap (λ (t : Task). t.parent) (get_or-set_same s.tasks k _ no_task (omega (arith, i.shape.sizes.tasks, i.low)))))
        (λ level lo hi. hand-count grabbed (core_queue level) (omega arith))
        ∙ get_or-set_other s.tasks k p _ no_task apart

    next-needs : 1 ≤ units_of (ended (unlinked s k) k) p → (task_at (ended (unlinked s k) k) p).core ≡ 0 → ⊥
    next-needs a b =
        let q = parent-links i.shape k i.low z i.some in
        let f = (i.shape.tasks p grabbed.some grabbed.low).fields in
        let d : units_of (ended (unlinked s k) k) p ≡ units_of s p =
        ap₂ (λ (x : Directory) (t : Task). (module_of x t).units) (ap (λ (x : State). x.directory) done.others ∙ unlinked-directory s k) next-same in
        (f.needs (omega (arith, a, d)) (sym (ap (λ (t : Task). t.core) next-same) ∙ b)).2 q

    parents : (y : ℕ) → ((task_at (ended (unlinked s k) k) y).parent ≡ (task_at s y).parent) ⊎ ((task_at (ended (unlinked s k) k) y).parent ≡ 0)
    unfolding unlinked
    parents y =
        ⊎_elim
        (λ c. inr (ap (λ (x : ℕ). (task_at (ended (unlinked s k) k) x).parent) c.1
        ∙ done.own (ap (λ (t : Task). t.parent) (get_or-set_same s.tasks k _ no_task (omega (arith, i.shape.sizes.tasks, i.low))))))
        (λ c. inl (done.parents y c.1 ∙ ap (λ (t : Task). t.parent) (get_or-set_other s.tasks k y _ no_task c.1)))
        (tested y k)

    next-chain : (n : ℕ) → upward s n p ≡ 0 → upward (ended (unlinked s k) k) n p ≡ 0
    next-chain n e = upward-shorter s done.shape parents n p e

pub aborted-step : (n k : ℕ) (s : State) → k ≢ 0 → aborted (suc n) k s ≡ aborted n (task_at s k).parent (ended (unlinked s k) k)
unfolding aborted
aborted-step n k s d = rw (ne_eqb k 0 d)

pub upward-zero : (s : State) (k : ℕ) → upward s 0 k ≡ k
unfolding upward
upward-zero s k = refl

pub upward-step : (s : State) (n k : ℕ) → upward s (suc n) k ≡ upward s n (task_at s k).parent
unfolding upward
upward-step s n k = refl

-- one task, and where it has a parent, the rest
pub abort-next : {n k : ℕ} {s : State} → Aborting (suc n) k s → (task_at s k).parent ≢ 0 → Aborting n (task_at s k).parent (ended (unlinked s k) k)
abort-next {n} {k} {s} a z =
    let i = a.hand in
    let r = a.rest in
    let u = a.core in
    record { hand = next-hand i r u z; rest = (done i r u z).rest; core = next-needs i r u z; chain = next-chain i r u z n (sym (upward-step s n k) ∙ a.chain) }

abort-step : {s : State} {k : ℕ} (n : ℕ) → Aborting (suc n) k s
    → ((task_at s k).parent ≢ 0 → Settled (aborted n (task_at s k).parent (ended (unlinked s k) k))) → Settled (aborted (suc n) k s)
abort-step {s} {k} n a ih =
    rw (aborted-step n k s (λ z. omega (arith, z, a.hand.some)))
    (⊎_elim
    (λ z. rw (z.1, aborted-none n (ended (unlinked s k) k)) (let f = end-alone a.hand a.rest a.core z.1 in record { shape = f.shape; rest = f.rest }))
    (λ z. ih z.1)
    (tested (task_at s k).parent 0))

pub aborts : (n k : ℕ) (s : State) → Aborting n k s → Settled (aborted n k s)
aborts zero k s a = absurd (omega (arith, sym (upward-zero s k) ∙ a.chain, a.hand.some))
aborts (suc n) k s a = abort-step n a (λ z. aborts n (task_at s k).parent (ended (unlinked s k) k) (abort-next a z))

-- ---- Program check.
pub starts-abort : {s : State} → Lawful s → s.running ≢ 0 → Aborting 24 s.running (with_running s 0)
starts-abort {s} g n =
    let i = stop g.shape n in
    record {
      hand = i;
      rest = rest-stopped s 0 g.rest;
      core = λ a b. ((runs-stands g.shape n).fields.needs a b).0 (runs-place g.shape n);
      chain = chain-ends i.shape s.running i.some i.low;
    }

pub program-check-keeps : {s : State} (c : Call) → Lawful s → s.running ≢ 0 → Settled (program_check s c).state
unfolding program_check
program-check-keeps {s} c g n = aborts 24 s.running (with_running s 0) (starts-abort g n)
