-- "free its done requests": one request block after the other, of a task that has none pending. Each step frees the block or leaves it; at the end the task
-- owns no request. By induction on the list of request blocks.
use mathlib.Core.Path.{◌≡◌, refl, sym, ap, ◌∙◌}
use mathlib.Core.Logic.{◌≢◌, ⊎_elim}
use mathlib.Core.List.{List, [], ◌∷◌}
use Prim.Native.Nat.{ℕ, ◌≤◌}
use native.Mathlib.Omega.{arith}
use lib.Seq.{get_or-set_same, get_or-set_other}
use Rattle.threads.specs.Threads.{count}
use Rattle.threads.proofs.Lists.{count-nil}
use Rattle.words.proofs.Truth.{tested}
use Rattle.words.specs.Words.{one_to, each}
use Rattle.tables.specs.declared.Request.{Request}
use Rattle.tables.specs.State.{State, with_free_requests, with_requests, request_at}
use Rattle.tables.specs.Blocks.{Done, no_request, request_blocks}
use Rattle.meaning.specs.Conditions.{enough}
use Rattle.meaning.specs.Finish.{freed_request, freed_if_done, freed_done}
use Rattle.lawful.specs.Shape.{Pending, Shape}
use Rattle.lawful.specs.Resting.{Rest}
use Rattle.threads.proofs.Tests.{to-top}
use Rattle.words.proofs.Counting.{one_same, one-other}
use Rattle.threads.proofs.Queues.{count-cons}
use Rattle.lawful.proofs.Blocks.Ask.{free-request}

-- a state but for its requests
abbrev pub unasked : State → State
unasked s = with_requests (with_free_requests s 0) []

pub record Clears (s s' : State) (k : ℕ) (h : List ℕ) (e : ℕ) (m : List ℕ) : Type 0 where
  pub shape : Shape s' h e
  pub rest : Rest s' m
  pub quiet : (i : ℕ) → Pending s'.requests k i → ⊥
  pub others : unasked s' ≡ unasked s
  pub stays : (i : ℕ) → ((request_at s i).owner ≡ k → (request_at s i).place ≢ Done) → (request_at s' i).owner ≡ k → (request_at s' i).place ≢ Done

pub rest-freed : {s : State} {m : List ℕ} (r : ℕ) → Rest s m → Rest (freed_request s r) m
unfolding freed_request enough
rest-freed r a =
    record {
      asleep = record { asleep = a.asleep.asleep };
      stuck = λ level lo hi. record { stuck = (a.stuck level lo hi).stuck };
      flowing = record { flowing = a.flowing.flowing };
    }

freed-unasked : (s : State) (r : ℕ) → unasked (freed_request s r) ≡ unasked s
unfolding freed_request
freed-unasked s r = refl

-- what the step leaves of the block r
pub record Cleared (s s' : State) (k r : ℕ) (h : List ℕ) (e : ℕ) (m : List ℕ) : Type 0 where
  pub clears : Clears s s' k h e m
  pub own : (request_at s' r).owner ≡ k → (request_at s' r).place ≢ Done

module _ {s : State} {k : ℕ} {h : List ℕ} {e : ℕ} {m : List ℕ} (some : 1 ≤ k) (g : Shape s h e) (t : Rest s m) (n : (i : ℕ) → Pending s.requests k i → ⊥)
    (r : ℕ) (a : 1 ≤ r) (b : r ≤ request_blocks) where
  blanked : request_at (freed_request s r) r ≡ no_request
  unfolding freed_request
  blanked = get_or-set_same s.requests r no_request no_request (omega (arith, g.sizes.requests))

  elsewhere : (i : ℕ) → i ≢ r → request_at (freed_request s r) i ≡ request_at s i
  unfolding freed_request
  elsewhere i d = get_or-set_other s.requests r i no_request no_request d

  not_own : (request_at (freed_request s r) r).owner ≢ k
  not_own z = omega (arith, sym (ap (λ (q : Request). q.owner) blanked) ∙ z, some)

  pub clear-free : (request_at s r).place ≡ Done → Cleared s (freed_request s r) k r h e m
  clear-free d =
      record {
        clears = record {
          shape = free-request g r a b d;
          rest = rest-freed r t;
          quiet = λ i p.
              ⊎_elim (λ z. not_own (ap (λ (j : ℕ). (request_at (freed_request s r) j).owner) (sym z.1) ∙ p.own))
              (λ z. let o = elsewhere i z.1 in n i (record { some = p.some; low = p.low; own = rw o at p.own; first = rw o at p.first; last = rw o at p.last })) (tested i r);
          others = freed-unasked s r;
          stays = λ i f z.
              ⊎_elim (λ y. absurd (not_own (ap (λ (j : ℕ). (request_at (freed_request s r) j).owner) (sym y.1) ∙ z)))
              (λ y. let o = elsewhere i y.1 in rw o (f (rw o at z))) (tested i r);
        };
        own = λ z. absurd (not_own z);
      }

  clear-keep : ((request_at s r).owner ≡ k → (request_at s r).place ≢ Done) → Cleared s s k r h e m
  clear-keep d = record { clears = record { shape = g; rest = t; quiet = n; others = refl; stays = λ i f. f }; own = d }

  pub clear-one : Cleared s (freed_if_done k r s) k r h e m
  unfolding freed_if_done
  clear-one =
      ⊎_elim
      (λ y. ⊎_elim (λ z. rw (y.0, z.0) (clear-free z.1)) (λ z. rw (y.0, z.0) (clear-keep (λ i j. z.1 j))) (tested (request_at s r).place Done))
      (λ y. rw y.0 (clear-keep (λ i. absurd (y.1 i)))) (tested (request_at s r).owner k)

-- the loop
pub record ClearsAll (s s' : State) (k : ℕ) (l : List ℕ) (h : List ℕ) (e : ℕ) (m : List ℕ) : Type 0 where
  pub clears : Clears s s' k h e m
  pub all : (i : ℕ) → 1 ≤ count i l → (request_at s' i).owner ≡ k → (request_at s' i).place ≢ Done

module _ {k : ℕ} {h : List ℕ} {e : ℕ} {m : List ℕ} (some : 1 ≤ k) where
  clear-all : (l : List ℕ) (s : State) → ((i : ℕ) → 1 ≤ count i l → (1 ≤ i) × (i ≤ request_blocks)) → Shape s h e → Rest s m → ((i : ℕ) → Pending s.requests k i → ⊥)
      → ClearsAll s (each (freed_if_done k) l s) k l h e m
  unfolding each
  clear-all [] s f g t n =
      record { clears = record { shape = g; rest = t; quiet = n; others = refl; stays = λ i f. f }; all = λ i c. absurd (omega (arith, c, count-nil i)) }
  clear-all (r ∷ l) s f g t n =
      let b = f r (omega (arith, count-cons r r l, one_same r r refl)) in
      let c = clear-one some g t n r b.0 b.1 in
      let d = c.clears in
      let w = clear-all l (freed_if_done k r s) (λ i z. f i (omega (arith, z, count-cons r i l))) d.shape d.rest d.quiet in
      let v = w.clears in
      record {
        clears = record {
          shape = v.shape;
          rest = v.rest;
          quiet = v.quiet;
          others = v.others ∙ d.others;
          stays = λ i z. v.stays i (d.stays i z);
        };
        all = λ i z.
            ⊎_elim (λ y. v.stays i (rw (← y.1) c.own)) (λ y. w.all i (omega (arith, z, count-cons r i l, one-other r i y.1))) (tested r i);
      }

pub done-cleared : {s : State} {k : ℕ} {h : List ℕ} {e : ℕ} {m : List ℕ} → 1 ≤ k → Shape s h e → Rest s m → ((i : ℕ) → Pending s.requests k i → ⊥)
    → ClearsAll s (freed_done s k) k (one_to request_blocks) h e m
unfolding freed_done
done-cleared {s} some g t n = clear-all some (one_to request_blocks) s (to-top 16) g t n
