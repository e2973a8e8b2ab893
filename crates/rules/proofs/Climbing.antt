-- A queue's order, told along the queue: what is left of it goes up from the least that is still allowed. The invariant of the loop that goes along a
-- queue.
use mathlib.Core.Bool.{Bool, true, ◌&&◌}
use mathlib.Core.Path.{◌≡◌, refl, sym, ap, ◌∙◌}
use mathlib.Core.Logic.{◌≢◌}
use mathlib.Core.List.{List, [], ◌∷◌, ◌++◌, tail}
use Prim.Native.Nat.{ℕ, ◌≤◌, ◌<◌}
use native.Mathlib.Omega.{arith}
use lib.ListN.{length, get_or}
use lib.Dec.{leb}
use borrow.Author.Tests.{le-leb}
use Rattle.threads.specs.declared.Threads.{Threads}
use Rattle.threads.specs.Threads.{hd, count, walk, queue_in, queues_of, Sound, QUEUES}
use Rattle.threads.proofs.Laws.{member}
use Rattle.threads.proofs.Read.{first_of}
use Rattle.threads.proofs.Lists.{count-append}
use Rattle.threads.proofs.Walk.{opened, closed, at_next, at_split, at-member, at_less}
use Rattle.words.specs.Words.{up_by}
use Rattle.words.proofs.Truth.{and_assoc, and-true}

-- the list goes up by `key`, and from `least` on
unfoldable pub up_from : (ℕ → ℕ) → ℕ → List ℕ → Bool
up_from key least [] = true
up_from key least (a ∷ l) = leb least (key a) && up_from key (key a) l

up_first : (key : ℕ → ℕ) (a : ℕ) (l : List ℕ) → up_from key (key a) l ≡ up_by key (a ∷ l)
unfolding up_from up_by
up_first key a [] = refl
up_first key a (b ∷ l) = ap (λ (x : Bool). leb (key a) (key b) && x) (up_first key b l)

up-all : (key : ℕ → ℕ) (l : List ℕ) → up_from key 0 l ≡ up_by key l
unfolding up_from up_by
up-all key [] = refl
up-all key (a ∷ l) = rw (le-leb 0 (key a) (omega arith)) (up_first key a l)

pub record Climbing (t : Threads) (key : ℕ → ℕ) (q y least : ℕ) (right : Bool) : Type 0 where
  pub front : List ℕ
  pub rest : List ℕ
  pub split : queue_in (queues_of t) q ≡ front ++ rest
  pub at : y ≡ hd rest
  pub same : (right && up_from key least rest) ≡ up_by key (queue_in (queues_of t) q)

module _ {t : Threads} (s : Sound t) (key : ℕ → ℕ) (q : ℕ) (h : q < QUEUES) where
  pub climbing-start : Climbing t key q (get_or t.first q 0) 0 true
  climbing-start =
      record { front = []; rest = queue_in (queues_of t) q; split = refl; at = first_of t s q h; same = up-all key (queue_in (queues_of t) q) }

  module _ {y least : ℕ} {right : Bool} (c : Climbing t key q y least right) where
    pub climbing-member : y ≢ 0 → 1 ≤ count y (queue_in (queues_of t) q)
    climbing-member n = (at-member s h c.front c.rest c.split c.at n).here

    pub climbing-less : y ≢ 0 → length (walk t.fwd 41 (get_or t.fwd y 0)) < length (walk t.fwd 41 y)
    climbing-less n = at_less s h c.front c.rest c.split c.at n

    pub climbing-next : {v : ℕ} → y ≢ 0 → v ≡ key y → Climbing t key q (get_or t.fwd y 0) v (right && leb least v)
    unfolding up_from
    climbing-next {v} n e =
        record {
          front = c.front ++ (y ∷ []);
          rest = tail c.rest;
          split = at_split s h c.front c.rest c.split c.at n;
          at = at_next s h c.front c.rest c.split c.at n;
          same =
              ap (λ (x : ℕ). right && leb least x && up_from key x (tail c.rest)) e
              ∙ sym (and_assoc right (leb least (key y)) (up_from key (key y) (tail c.rest)))
              ∙ ap (λ (l : List ℕ). right && up_from key least l) (sym (opened c.rest y c.at n))
              ∙ c.same;
        }

    pub climbing-end : y ≡ 0 → right ≡ up_by key (queue_in (queues_of t) q)
    unfolding up_from
    climbing-end z =
        let none : c.rest ≡ [] =
        closed c.rest
        (λ x k. (member (queues_of t) s.apart q h x (omega (arith, ap (count x) c.split, count-append x c.front c.rest))).0)
        (sym c.at ∙ z) in
        sym (and-true right) ∙ ap (λ (l : List ℕ). right && up_from key least l) (sym none) ∙ c.same
