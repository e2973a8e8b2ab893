-- What the rules say of a block by where it is found: a member of a queue, a request of the channel queue, the task that runs. By the queue of each
-- place, since no two places share one.
use mathlib.Core.Bool.{Bool, true, false}
use mathlib.Core.Path.{◌≡◌, refl, sym, ap, ◌∙◌}
use mathlib.Core.Logic.{◌≢◌, ⊎_elim}
use mathlib.Core.List.{List}
use Prim.Native.Nat.{ℕ, ◌+◌, ◌-◌, ◌≤◌, ◌<◌}
use native.Mathlib.Omega.{arith}
use Rattle.threads.specs.Threads.{count, BLOCKS, QUEUES}
use Rattle.words.proofs.Truth.{tested}
use Rattle.words.specs.Words.{◌among◌}
use Rattle.words.proofs.Places.{under-or-from}
use Rattle.tables.specs.State.{State, core_queue, channel_queue, task_at, request_at, queue, level_of}
use Rattle.tables.specs.Blocks.{Free, Running, Ready, InCore, InEvent, InTime, HoldsRun, task_blocks}
use Rattle.meaning.specs.Rules.{queue_for}
use Rattle.lawful.specs.Shape.{Hand, place_of, Stands, Shape}
use Rattle.words.proofs.Counting.{one_same, one-other, one-eq, one-le}

-- ---- What the directory says of a used block.
module _ {s : State} {h : List ℕ} {e k : ℕ} (g : Shape s h e) (some : 1 ≤ k) (low : k ≤ task_blocks) (used : place_of s h k ≢ Free) where
  pub level-best : 1 ≤ level_of s k
  level-best = g.directory.best _ ((g.tasks k some low).fields.program used)

  pub level-worst : level_of s k ≤ 3
  level-worst = g.directory.worst _ ((g.tasks k some low).fields.program used)

-- ---- The place of a block, by its queue.
pub by-queue : {C : Type 0} (p level q : ℕ) → queue_for p level ≡ q → q < QUEUES
    → (p ≡ Ready → q ≡ level → C) → (p ≡ InCore → q ≡ level + 3 → C) → (p ≡ InEvent → q ≡ 0 → C) → (p ≡ InTime → q ≡ 7 → C) → C
unfolding queue_for
by-queue p level q e l r w v t =
    ⊎_elim (λ a. r a.1 (sym (rw a.0 at e))) (λ a.
    ⊎_elim (λ b. w b.1 (sym (rw (a.0, b.0) at e))) (λ b.
    ⊎_elim (λ c. v c.1 (sym (rw (a.0, b.0, c.0) at e))) (λ c.
    ⊎_elim (λ d. t d.1 (sym (rw (a.0, b.0, c.0, d.0) at e))) (λ d.
    absurd (omega (arith, l, rw (a.0, b.0, c.0, d.0) at e)))
    (tested p InTime)) (tested p InEvent)) (tested p InCore)) (tested p Ready)

pub queue-place : (p level q : ℕ) → queue_for p level ≡ q → q < QUEUES → (2 ≤ p) × (p ≤ 5)
queue-place p level q e l =
    by-queue p level q e l (λ a b. omega (arith, a)) (λ a b. omega (arith, a)) (λ a b. omega (arith, a)) (λ a b. omega (arith, a))

pub not_in : (s : State) (h : List ℕ) (k : ℕ) → place_of s h k ≢ Hand → k among h ≡ false
unfolding place_of
not_in s h k n = go (k among h) refl
  where
    go : (b : Bool) → k among h ≡ b → k among h ≡ false
    go true e = absurd (n (rw e))
    go false e = e

module _ {s : State} {h : List ℕ} {e : ℕ} (g : Shape s h e) (k q : ℕ) (low : q < 8) (c : 1 ≤ count k (queue s q)) where
  pub member-some : 1 ≤ k
  member-some = ⊎_elim (λ z. let i : k ≡ 0 = omega (arith, z) in absurd (omega (arith, c, g.none q, ap (λ (y : ℕ). count y (queue s q)) i))) (λ z. z) (under-or-from k 1)

  pub member-low : k ≤ task_blocks
  member-low =
      ⊎_elim (λ z.
      ⊎_elim
      (λ y. absurd (omega (arith, c, g.beyond q k y)))
      (λ y.
      let i : k ≡ (k - 24) + 24 = omega (arith, z) in
      absurd (omega (arith, c, (g.requests (k - 24) (omega (arith, z)) (omega (arith, y))).others q low, ap (λ (x : ℕ). count x (queue s q)) i)))
      (under-or-from 40 k))
      (λ z. z)
      (under-or-from 24 k)

  pub member-stands : Stands s (place_of s h k) k
  member-stands = g.tasks k member-some member-low

  pub member-queue : queue_for (place_of s h k) (level_of s k) ≡ q
  member-queue =
      ⊎_elim (λ z. z.1) (λ z. absurd (omega (arith, c, member-stands.queued q (omega arith), one-other _ q z.1))) (tested (queue_for (place_of s h k) (level_of s k)) q)

  pub member-place : (2 ≤ place_of s h k) × (place_of s h k ≤ 5)
  member-place = queue-place (place_of s h k) (level_of s k) q member-queue (omega arith)

  pub member-used : place_of s h k ≢ Free
  member-used z = omega (arith, z, member-place)

  -- what the queue says of the place
  pub member-ready : 1 ≤ q → q ≤ 3 → (place_of s h k ≡ Ready) × (q ≡ level_of s k)
  member-ready a b =
      by-queue (place_of s h k) (level_of s k) q member-queue (omega arith) (λ z y. (z, y))
      (λ z y. absurd (omega (arith, b, y, level-best g member-some member-low member-used))) (λ z y. absurd (omega (arith, a, y))) (λ z y. absurd (omega (arith, b, y)))

  pub member-core : 4 ≤ q → q ≤ 6 → (place_of s h k ≡ InCore) × (q ≡ level_of s k + 3)
  member-core a b =
      by-queue (place_of s h k) (level_of s k) q member-queue (omega arith) (λ z y. absurd (omega (arith, a, y, level-worst g member-some member-low member-used)))
      (λ z y. (z, y)) (λ z y. absurd (omega (arith, a, y))) (λ z y. absurd (omega (arith, b, y)))

  pub member-event : q ≡ 0 → place_of s h k ≡ InEvent
  member-event a =
      by-queue (place_of s h k) (level_of s k) q member-queue (omega arith) (λ z y. absurd (omega (arith, a, y, level-best g member-some member-low member-used)))
      (λ z y. absurd (omega (arith, a, y))) (λ z y. z) (λ z y. absurd (omega (arith, a, y)))

  pub member-time : q ≡ 7 → place_of s h k ≡ InTime
  member-time a =
      by-queue (place_of s h k) (level_of s k) q member-queue (omega arith) (λ z y. absurd (omega (arith, a, y, level-worst g member-some member-low member-used)))
      (λ z y. absurd (omega (arith, a, y, level-worst g member-some member-low member-used))) (λ z y. absurd (omega (arith, a, y))) (λ z y. z)

  pub member-once : count k (queue s q) ≡ 1
  member-once = member-stands.queued q (omega arith) ∙ one_same _ q member-queue

  pub member-out : k among h ≡ false
  member-out = not_in s h k (λ z. omega (arith, z, member-place))

-- ---- Who holds core waits for none, in hand or not
pub not-waiting : {s : State} {h : List ℕ} {e k : ℕ} → Shape s h e → 1 ≤ k → k ≤ task_blocks → (task_at s k).core ≡ HoldsRun
    → (level : ℕ) → 1 ≤ level → level ≤ 3 → count k (queue s (core_queue level)) ≡ 0
not-waiting {s} {h} {e} {k} g some low o level a b =
    ⊎_elim
    (λ z. omega (arith, z))
    (λ z. let c = (member-core g k (core_queue level) (omega arith) z (omega arith) (omega arith)).0 in absurd (omega (arith, ((g.tasks k some low).fields.waits c).1, o)))
    (under-or-from (count k (queue s (core_queue level))) 1)

-- ---- Who is in the channel queue is a request, and its owner is used
module _ {s : State} {h : List ℕ} {e : ℕ} (g : Shape s h e) (y : ℕ) (c : 1 ≤ count y (queue s channel_queue)) where
  channel-some : 1 ≤ y
  channel-some = ⊎_elim (λ z. let i : y ≡ 0 = omega (arith, z) in absurd (omega (arith, c, g.none channel_queue, ap (λ (x : ℕ). count x (queue s channel_queue)) i))) (λ z. z) (under-or-from y 1)

  pub channel-high : 24 < y
  channel-high =
      ⊎_elim
      (λ z. z)
      (λ z.
      let w = g.tasks y channel-some z in
      let i : queue_for (place_of s h y) (level_of s y) ≡ 8 =
      ⊎_elim (λ z. z.1) (λ z. absurd (omega (arith, c, w.queued channel_queue (omega arith), one-other _ 8 z.1))) (tested (queue_for (place_of s h y) (level_of s y)) 8) in
      let p = queue-place _ _ 8 i (omega arith) in
      let b = level-worst g channel-some z (λ j. omega (arith, j, p)) in
      by-queue (place_of s h y) (level_of s y) 8 i (omega arith) (λ a d. absurd (omega (arith, d, b))) (λ a d. absurd (omega (arith, d, b))) (λ a d. absurd (omega (arith, d)))
      (λ a d. absurd (omega (arith, d)))) (under-or-from 24 y)

  pub channel-low : y ≤ BLOCKS
  channel-low = ⊎_elim (λ z. absurd (omega (arith, c, g.beyond channel_queue y z))) (λ z. z) (under-or-from 40 y)

  pub channel-queued : (request_at s (y - 24)).place ≡ 1
  channel-queued =
      let i : y ≡ (y - 24) + 24 = omega (arith, channel-high) in
      one-eq (request_at s (y - 24)).place 1
      (omega (
        arith,
        c,
        (g.requests (y - 24) (omega (arith, channel-high)) (omega (arith, channel-low))).queued,
        one-le (request_at s (y - 24)).place 1,
        ap (λ (x : ℕ). count x (queue s channel_queue)) i,
      ))

-- ---- The task that runs.
module _ {s : State} {h : List ℕ} {e : ℕ} (g : Shape s h e) (n : s.running ≢ 0) where
  pub runs-stands : Stands s (place_of s h s.running) s.running
  runs-stands = g.tasks s.running (omega arith) g.blank.running

  pub runs-place : place_of s h s.running ≡ Running
  runs-place = one-eq _ Running (sym runs-stands.runs ∙ one_same s.running s.running refl)
