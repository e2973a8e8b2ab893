-- The tests of a block's place: the list in which it stands is the queue of its place, and it runs, or is on the channel, where its place says so.
-- By `standing`, where no block stands twice.
use mathlib.Core.Bool.{true, beq}
use mathlib.Core.Path.{◌≡◌, refl, sym, ap, ◌∙◌}
use mathlib.Core.Logic.{◌≢◌, ⊎_elim}
use mathlib.Core.List.{List, []}
use Prim.Native.Nat.{ℕ, ◌≤◌, ◌<◌}
use native.Mathlib.Omega.{arith}
use lib.ListN.{length, get_or}
use lib.Dec.{eqb}
use borrow.Author.Tests.{eqb-true, eq-eqb}
use Rattle.threads.specs.Threads.{count, Apart, QUEUES}
use Rattle.words.proofs.Truth.{tested, both, and-of}
use Rattle.words.specs.Words.{if◌then◌else◌, standing}
use Rattle.tables.specs.Blocks.{Free, Running, Ready, InCore, InEvent, InTime, Queued, OnChannel}
use Rattle.tables.specs.State.{State, channel_queue, node, task_at, request_at, queue, level_of}
use Rattle.meaning.specs.Rules.{queue_for}
use Rattle.meaning.proofs.Parts.{task_stands, request_stands}
use Rattle.words.specs.Counting.{one}
use Rattle.words.proofs.Counting.{one_same, one-other}
use Rattle.threads.proofs.Tests.{same_of, of-same-ones}
use Rattle.threads.proofs.Standing.{standing-counts, counts-standing}

-- a block n stands in the queue q and in no other, q 9 for none
pub record Only (ls : List (List ℕ)) (n q : ℕ) : Type 0 where
  pub only : (i : ℕ) → i < QUEUES → count n (get_or ls i []) ≡ one q i

pub only_of : (ls : List (List ℕ)) → Apart ls → (n q : ℕ) → standing n ls ≡ q → Only ls n q
only_of ls u n q e =
    record { only = λ i l. standing-counts n ls (u.once n) i (omega (arith, l, u.nine)) ∙ ap (λ (x : ℕ). one x i) e }

pub of-only : (ls : List (List ℕ)) → length ls ≡ QUEUES → (n q : ℕ) → q ≤ 9 → Only ls n q → standing n ls ≡ q
of-only ls e n q b o = counts-standing n ls q (omega (arith, e, b)) (λ i l. o.only i (omega (arith, l, e)))

-- ---- A task block.

-- the queue of a place is one of nine, or none
pub queue-nine : (p level : ℕ) → (p ≢ Free → level ≤ 3) → queue_for p level ≤ 9
unfolding queue_for
queue-nine p level h =
    ⊎_elim (λ a. let l = h (λ z. omega (arith, z, a.1)) in rw a.0 (omega (arith, l))) (λ a.
    ⊎_elim (λ b. let l = h (λ z. omega (arith, z, b.1)) in rw (a.0, b.0) (omega (arith, l))) (λ b.
    ⊎_elim (λ c. rw (a.0, b.0, c.0) (omega arith)) (λ c.
    ⊎_elim (λ d. rw (a.0, b.0, c.0, d.0) (omega arith)) (λ d. rw (a.0, b.0, c.0, d.0) (omega arith))
    (tested p InTime)) (tested p InEvent)) (tested p InCore)) (tested p Ready)

module _ (s : State) (k : ℕ) where
  pub task-placed : Apart s.queues → task_stands s k ≡ true → Only s.queues k (queue_for (task_at s k).place (level_of s k)) × (one s.running k ≡ one (task_at s k).place Running)
  task-placed u e =
      let p = both (eqb (standing k s.queues) (queue_for (task_at s k).place (level_of s k))) (beq (eqb s.running k) (eqb (task_at s k).place Running)) e in
      (only_of s.queues u k _ (eqb-true _ _ p.0), same_of s.running k (task_at s k).place Running p.1)

  pub of-task-placed : length s.queues ≡ QUEUES → ((task_at s k).place ≢ Free → level_of s k ≤ 3) → Only s.queues k (queue_for (task_at s k).place (level_of s k))
      → one s.running k ≡ one (task_at s k).place Running → task_stands s k ≡ true
  of-task-placed n l o r =
      and-of _ _ (eq-eqb _ _ (of-only s.queues n k _ (queue-nine (task_at s k).place (level_of s k) l) o)) (of-same-ones s.running k (task_at s k).place Running r)

-- ---- A request block.

-- the queue of a request's place
abbrev pub channel_for : ℕ → ℕ
channel_for p = if eqb p Queued then channel_queue else 9

pub channel-others : (p q : ℕ) → q < 8 → one (channel_for p) q ≡ 0
channel-others p q l = ⊎_elim (λ z. rw z.0 (one-other 8 q (λ i. omega (arith, i, l)))) (λ z. rw z.0 (one-other 9 q (λ i. omega (arith, i, l)))) (tested p Queued)

pub channel-own : (p : ℕ) → one (channel_for p) channel_queue ≡ one p Queued
channel-own p =
    ⊎_elim (λ z. rw z.0 (one_same 8 8 refl ∙ sym (one_same p Queued z.1))) (λ z. rw z.0 (one-other 9 8 (λ i. omega (arith, i)) ∙ sym (one-other p Queued z.1))) (tested p Queued)

channel-nine : (p : ℕ) → channel_for p ≤ 9
channel-nine p = ⊎_elim (λ z. rw z.0 (omega arith)) (λ z. rw z.0 (omega arith)) (tested p Queued)

module _ (s : State) (r : ℕ) where
  pub request-placed : Apart s.queues → request_stands s r ≡ true → Only s.queues (node r) (channel_for (request_at s r).place) × (one s.channel r ≡ one (request_at s r).place OnChannel)
  request-placed u e =
      let p = both (eqb (standing (node r) s.queues) (channel_for (request_at s r).place)) (beq (eqb s.channel r) (eqb (request_at s r).place OnChannel)) e in
      (only_of s.queues u (node r) _ (eqb-true _ _ p.0), same_of s.channel r (request_at s r).place OnChannel p.1)

  -- from what `Carried` says of the queues
  pub only-channel : ((q : ℕ) → q < 8 → count (node r) (queue s q) ≡ 0) → count (node r) (queue s channel_queue) ≡ one (request_at s r).place Queued
      → Only s.queues (node r) (channel_for (request_at s r).place)
  only-channel f e =
      record {
        only = λ i l.
            ⊎_elim (λ z. ap (λ (x : ℕ). count (node r) (queue s x)) z.1 ∙ e ∙ sym (channel-own (request_at s r).place) ∙ ap (one (channel_for (request_at s r).place)) (sym z.1))
            (λ z. let l' : i < 8 = omega (arith, l, z.1) in f i l' ∙ sym (channel-others (request_at s r).place i l')) (tested i channel_queue);
      }

  pub of-request-placed : length s.queues ≡ QUEUES → Only s.queues (node r) (channel_for (request_at s r).place) → one s.channel r ≡ one (request_at s r).place OnChannel → request_stands s r ≡ true
  of-request-placed n o c =
      and-of _ _ (eq-eqb _ _ (of-only s.queues n (node r) _ (channel-nine (request_at s r).place) o)) (of-same-ones s.channel r (request_at s r).place OnChannel c)
