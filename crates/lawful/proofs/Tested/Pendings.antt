-- "queued or on the channel": the test of a task's pending requests, and a request that is pending. By induction on the list of request blocks.
use mathlib.Core.Bool.{Bool, true, false, ◌||◌, true≢false}
use mathlib.Core.Path.{◌≡◌, refl, sym, ◌∙◌}
use mathlib.Core.Logic.{⊎_elim}
use mathlib.Core.List.{List, [], ◌∷◌}
use Prim.Native.Nat.{ℕ, ◌≤◌}
use native.Mathlib.Omega.{arith}
use lib.Dec.{eqb}
use borrow.Author.Tests.{eqb-true, eq-eqb}
use Rattle.threads.specs.Threads.{count}
use Rattle.threads.proofs.Lists.{count-nil}
use Rattle.words.proofs.Truth.{tested, both}
use Rattle.words.specs.Words.{one_to, some_of}
use Rattle.tables.specs.State.{State, request_at}
use Rattle.tables.specs.Blocks.{Queued, OnChannel, request_blocks}
use Rattle.meaning.specs.Finish.{pending_of, pending}
use Rattle.lawful.specs.Shape.{Pending}
use Rattle.threads.proofs.Tests.{one-to, to-top}
use Rattle.words.proofs.Counting.{one_same, one-other}
use Rattle.threads.proofs.Queues.{count-cons}

some-none : (f : ℕ → Bool) (l : List ℕ) → some_of f l ≡ false → (y : ℕ) → 1 ≤ count y l → f y ≡ false
unfolding some_of
some-none f [] e y c = absurd (omega (arith, c, count-nil y))
some-none f (a ∷ l) e y c = go (f a) refl e (some-none f l)
  where
    go : (b : Bool) → f a ≡ b → (b || some_of f l) ≡ false → (some_of f l ≡ false → (y : ℕ) → 1 ≤ count y l → f y ≡ false) → f y ≡ false
    go true d e' ih = absurd (true≢false e')
    go false d e' ih = ⊎_elim (λ z. rw (← z.1) d) (λ z. ih e' y (omega (arith, c, count-cons a y l, one-other a y z.1))) (tested a y)

some-found : (f : ℕ → Bool) (l : List ℕ) → some_of f l ≡ true → (y : ℕ) × (1 ≤ count y l) × (f y ≡ true)
unfolding some_of
some-found f [] e = absurd (true≢false (sym e))
some-found f (a ∷ l) e = go (f a) refl e (some-found f l)
  where
    go : (b : Bool) → f a ≡ b → (b || some_of f l) ≡ true → (some_of f l ≡ true → (y : ℕ) × (1 ≤ count y l) × (f y ≡ true)) → (y : ℕ) × (1 ≤ count y (a ∷ l)) × (f y ≡ true)
    go true d e' ih = (a, omega (arith, count-cons a a l, one_same a a refl), d)
    go false d e' ih = let w = ih e' in (w.0, omega (arith, w.1, count-cons a w.0 l), w.2)

-- the block of a pending request is used
pub pending-at : (s : State) (k r : ℕ) → pending_of s k r ≡ true → ((request_at s r).owner ≡ k) × (1 ≤ (request_at s r).place) × ((request_at s r).place ≤ 2)
unfolding pending_of
pending-at s k r e =
    let p = both (eqb (request_at s r).owner k) (eqb (request_at s r).place Queued || eqb (request_at s r).place OnChannel) e in
    let q : (1 ≤ (request_at s r).place) × ((request_at s r).place ≤ 2) =
    ⊎_elim (λ z. omega (arith, z.1)) (λ z. ⊎_elim (λ y. omega (arith, y.1)) (λ y. absurd (true≢false (sym (rw (z.0, y.0) at p.1)))) (tested (request_at s r).place OnChannel)) (tested (request_at s r).place Queued) in
    (eqb-true _ _ p.0, q.0, q.1)

pub pending-of : (s : State) (k r : ℕ) → 1 ≤ r → r ≤ request_blocks → pending_of s k r ≡ true → Pending s.requests k r
pending-of s k r a b e = let p = pending-at s k r e in record { some = a; low = b; own = p.0; first = p.1; last = p.2 }

pub of-pending : (s : State) (k r : ℕ) → Pending s.requests k r → pending_of s k r ≡ true
unfolding pending_of
of-pending s k r p =
    rw (eq-eqb (request_at s r).owner k p.own)
    (⊎_elim (λ z. rw z.0) (λ z. ⊎_elim (λ y. rw (z.0, y.0)) (λ y. absurd (omega (arith, p.first, p.last, z.1, y.1))) (tested (request_at s r).place OnChannel)) (tested (request_at s r).place Queued))

pub quiet_of : (s : State) (k : ℕ) → pending s k ≡ false → (j : ℕ) → Pending s.requests k j → ⊥
unfolding pending
quiet_of s k e j p = true≢false (sym (of-pending s k j p) ∙ some-none (pending_of s k) (one_to request_blocks) e j (one-to 16 j p.some p.low))

pub pending-some : (s : State) (k : ℕ) → pending s k ≡ true → (j : ℕ) × Pending s.requests k j
unfolding pending
pending-some s k e =
    let w = some-found (pending_of s k) (one_to request_blocks) e in
    let b = to-top 16 w.0 w.1 in
    (w.0, pending-of s k w.0 b.0 b.1 w.2)

pub some-pending : (s : State) (k j : ℕ) → Pending s.requests k j → pending s k ≡ true
some-pending s k j p = go (pending s k) refl
  where
    go : (b : Bool) → pending s k ≡ b → pending s k ≡ true
    go true e = e
    go false e = absurd (quiet_of s k e j p)
