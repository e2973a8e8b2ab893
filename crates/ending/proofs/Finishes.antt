-- What finishing leaves after each of its steps, so that the next may be taken: the task in hand holds its run, its done requests are freed, and its
-- parent is in LINK and so in no queue.
use mathlib.Core.Path.{refl, sym, ◌∙◌}
use mathlib.Core.Logic.{⊎_elim}
use mathlib.Core.List.{List, [], ◌∷◌}
use Prim.Native.Nat.{ℕ, ◌≤◌}
use native.Mathlib.Omega.{arith}
use Rattle.threads.specs.Threads.{count}
use Rattle.words.proofs.Truth.{tested}
use Rattle.words.specs.Words.{one_to, each}
use Rattle.tables.specs.declared.Tables.{Tables}
use Rattle.tables.specs.Blocks.{Done, request_blocks}
use Rattle.tables.specs.State.{State, task_at, request_at, read}
use Rattle.tables.specs.Held.{Shows}
use Rattle.meaning.specs.Finish.{given_back, freed_if_done, freed_done}
use Rattle.lawful.specs.Shape.{Shape, InHand}
use Rattle.lawful.proofs.Blocks.Shape.{held_place}
use Rattle.words.proofs.Counting.{one_same}
use Rattle.threads.proofs.Tests.{to-top}
use Rattle.threads.proofs.Queues.{count-cons}
use Rattle.lawful.proofs.Blocks.Ask.{free-request}
use Rattle.lawful.proofs.Each.Given.{gives_back}
use Rattle.lawful.proofs.Each.Finish.{grab, parent-low, parent-links}
use Rattle.scheduler.specs.Core.{Holder}
use Rattle.scheduler.proofs.Shaped.{hand-loose, shape-holder}
use Rattle.ending.specs.Ending.{Parent, Finishing}

-- ---- Done requests are freed.
module _ {h : List ℕ} {e : ℕ} (k : ℕ) where
  done-one : (s : State) (r : ℕ) → 1 ≤ r → r ≤ request_blocks → Shape s h e → Shape (freed_if_done k r s) h e
  unfolding freed_if_done
  done-one s r a b g =
      ⊎_elim
      (λ y. ⊎_elim (λ z. rw (y.0, z.0) (free-request g r a b z.1)) (λ z. rw (y.0, z.0) g) (tested (request_at s r).place Done))
      (λ y. rw y.0 g) (tested (request_at s r).owner k)

  done-each : (l : List ℕ) (s : State) → ((i : ℕ) → 1 ≤ count i l → (1 ≤ i) × (i ≤ request_blocks)) → Shape s h e → Shape (each (freed_if_done k) l s) h e
  unfolding each
  done-each [] s f g = g
  done-each (r ∷ l) s f g =
      let b = f r (omega (arith, count-cons r r l, one_same r r refl)) in
      done-each l (freed_if_done k r s) (λ i z. f i (omega (arith, z, count-cons r i l))) (done-one s r b.0 b.1 g)

  done-shape : (s : State) → Shape s h e → Shape (freed_done s k) h e
  unfolding freed_done
  done-shape s g = done-each (one_to request_blocks) s (to-top 16) g

-- ---- The steps of finishing.
module _ {t : Tables} {k : ℕ} (f : Finishing t k) where
  abbrev i : InHand (read t) k f.others 0
  i = f.hand

  pub finish-gives : Holder (read t) k
  finish-gives = shape-holder i.shape i.some i.low (λ z. omega (arith, sym (held_place (read t) f.others k) ∙ z))

  finish-cleared : Shape (freed_done (given_back (read t) k) k) (k ∷ f.others) 0
  finish-cleared = done-shape k (given_back (read t) k) (gives_back i.shape f.rest k i.some i.low).shape

  -- the parent is in LINK: in no queue
  pub finish-parent : {u : Tables} → Shows u (freed_done (given_back (read t) k) k) → Parent u (task_at (read u) k).parent
  finish-parent {u} w =
      let g : Shape (read u) (k ∷ f.others) 0 = rw w.reads finish-cleared in
      record {
        sound = w.sound;
        loose = λ z.
            hand-loose w.sound
            (grab g (task_at (read u) k).parent (omega (arith, z)) (parent-low g k i.low z i.some) (parent-links g k i.low z i.some));
      }
