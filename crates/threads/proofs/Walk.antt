-- For a loop along a queue of sound pointers: it has passed A, and is at y, the first of B, which is ahead. Where y is no 0, what its turn knows.
use mathlib.Core.Path.{◌≡◌, refl, sym, ap, ◌∙◌}
use mathlib.Core.Logic.{◌≢◌}
use mathlib.Core.List.{List, [], ◌∷◌, ◌++◌, tail}
use Prim.Native.Nat.{ℕ, suc, ◌≤◌, ◌<◌}
use native.Mathlib.Omega.{arith}
use lib.ListN.{length, get_or}
use Rattle.threads.specs.declared.Threads.{Threads}
use Rattle.threads.specs.Threads.{QUEUES, BLOCKS, hd, count, walk, queue_in, queues_of, Sound, Member, without, insert_before}
use Rattle.threads.proofs.Lists.{count-append, count-hit}
use Rattle.threads.proofs.Laws.{Spot, some-in-right, onward, spot-without, spot-insert}
use Rattle.threads.proofs.Read.{spot, next_of, walked}

-- a list whose first is no 0
pub opened : (B : List ℕ) (y : ℕ) → y ≡ hd B → y ≢ 0 → B ≡ y ∷ tail B
opened [] y k n = absurd (n k)
opened (b ∷ B) y k n = ap (λ (z : ℕ). z ∷ B) (sym k)

-- a list of blocks whose first is 0
pub closed : (B : List ℕ) → ((y : ℕ) → 1 ≤ count y B → 1 ≤ y) → hd B ≡ 0 → B ≡ []
closed [] m k = refl
closed (b ∷ B) m k = absurd (omega (arith, m b (omega (arith, count-hit b b B refl))))

module _ {t : Threads} {q y : ℕ} (s : Sound t) (h : q < QUEUES) (A B : List ℕ) (e : queue_in (queues_of t) q ≡ A ++ B) (k : y ≡ hd B) (n : y ≢ 0) where
  at_y : Spot (queues_of t) q A (y ∷ tail B)
  at_y = spot s h A (y ∷ tail B) (e ∙ ap (λ (l : List ℕ). A ++ l) (opened B y k n))

  pub at-member : Member t q y
  at-member =
      record {
        sound = s;
        queue = h;
        here = omega (arith, ap (count y) at_y.split, count-append y A (y ∷ tail B), count-hit y y (tail B) refl);
      }

  pub at-without : without y (queue_in (queues_of t) q) ≡ A ++ tail B
  at-without = spot-without at_y

  pub at-insert : (v : ℕ) → insert_before y v (queue_in (queues_of t) q) ≡ A ++ v ∷ y ∷ tail B
  at-insert = spot-insert at_y

  -- the next turn, which has less ahead of it
  pub at_next : get_or t.fwd y 0 ≡ hd (tail B)
  at_next = next_of t s q h A (tail B) y at_y.split

  pub at_split : queue_in (queues_of t) q ≡ A ++ (y ∷ []) ++ tail B
  at_split = (onward at_y).split

  pub at_less : length (walk t.fwd (suc BLOCKS) (get_or t.fwd y 0)) < length (walk t.fwd (suc BLOCKS) y)
  at_less =
      omega (
        arith,
        ap length (ap (walk t.fwd (suc BLOCKS)) at_next ∙ walked s h (A ++ (y ∷ [])) (tail B) at_split),
        ap length (ap (walk t.fwd (suc BLOCKS)) k ∙ walked s h A B e),
        ap length (opened B y k n),
      )

-- where y is 0, the loop has passed all
pub none_ahead : {t : Threads} {q : ℕ} → Sound t → q < QUEUES → (A B : List ℕ) → queue_in (queues_of t) q ≡ A ++ B → hd B ≡ 0 → B ≡ []
none_ahead {t} {q} s h A B e z = closed B (some-in-right (queues_of t) s.apart q h A B e) z

pub none_first : {t : Threads} {q : ℕ} → Sound t → q < QUEUES → hd (queue_in (queues_of t) q) ≡ 0 → queue_in (queues_of t) q ≡ []
none_first s h z = none_ahead s h [] _ refl z
