-- A place in a queue of sound pointers, as the code finds it by its pointers: p is the block before it, the last of A, and s the block behind it, the
-- first of B; 0 where there is none.
use mathlib.Core.Path.{◌≡◌, refl, sym}
use mathlib.Core.List.{List, [], ◌∷◌, ◌++◌, append-nil}
use Prim.Native.Nat.{ℕ, ◌≤◌, ◌<◌}
use lib.ListN.{get_or}
use Rattle.threads.specs.declared.Threads.{Threads}
use Rattle.threads.specs.Threads.{QUEUES, BLOCKS, hd, lst, queue_in, queues_of, Sound, Member}
use Rattle.threads.proofs.Lists.{split, lst-append}
use Rattle.threads.proofs.Laws.{Spot, first-low, last-low, sides, onward}
use Rattle.threads.proofs.Read.{spot, first_of, last_of, next_of, prev-of}

pub record Place (t : Threads) (q : ℕ) (A B : List ℕ) (p s : ℕ) : Type 0 where
  pub sound : Sound t
  pub spot : Spot (queues_of t) q A B
  pub left : p ≡ lst 0 A
  pub right : s ≡ hd B

pub low : {t : Threads} {q : ℕ} {A B : List ℕ} {p s : ℕ} → Place t q A B p s → (p ≤ BLOCKS) × (s ≤ BLOCKS)
low {A = A} {B} w = (rw w.left (last-low A (sides w.spot).0), rw w.right (first-low B (sides w.spot).1))

-- the front of a queue, and its end
module _ {t : Threads} {q : ℕ} (s : Sound t) (h : q < QUEUES) where
  pub at_front : Place t q [] (queue_in (queues_of t) q) 0 (get_or t.first q 0)
  at_front = record { sound = s; spot = spot s h [] _ refl; left = refl; right = first_of t s q h }

  pub at-end : Place t q (queue_in (queues_of t) q) [] (get_or t.last q 0) 0
  at-end = record { sound = s; spot = spot s h _ [] (sym (append-nil _)); left = last_of t s q h; right = refl }

-- the place before a member, and the place behind it
pub around : {t : Threads} {q x : ℕ} → Member t q x → (A : List ℕ) × (B : List ℕ)
    × Place t q A (x ∷ B) (get_or t.back x 0) x × Place t q (A ++ (x ∷ [])) B x (get_or t.fwd x 0)
around {t} {q} {x} m =
    let (A, B, e) = split x (queue_in (queues_of t) q) m.here in
    let s = m.sound in
    let here = spot s m.queue A (x ∷ B) e in (
      A,
      B,
      record { sound = s; spot = here; left = prev-of t s q m.queue A B x e; right = refl },
      record { sound = s; spot = onward here; left = sym (lst-append 0 A (x ∷ [])); right = next_of t s q m.queue A B x e },
    )
