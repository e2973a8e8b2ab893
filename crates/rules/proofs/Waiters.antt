-- The rules over the blocks of one queue, told of the task blocks: a task block stands in a queue exactly where its place says so.
use mathlib.Core.Bool.{Bool, true, not, ◌&&◌}
use mathlib.Core.Path.{◌≡◌, refl, sym, ap, ◌∙◌}
use mathlib.Core.Logic.{⊎_elim}
use mathlib.Core.List.{◌++◌}
use Prim.Native.Nat.{ℕ, ◌+◌, ◌≤◌, ◌<◌}
use native.Mathlib.Omega.{arith}
use lib.Bits.{bit_and}
use lib.Dec.{eqb, leb}
use borrow.Author.Tests.{eq-eqb}
use Rattle.words.proofs.Truth.{tested, not-not, and-of, both, implied}
use Rattle.words.specs.Words.{◌implies◌, all_of, standing, size}
use Rattle.tables.specs.declared.Tables.{Tables}
use Rattle.tables.specs.Blocks.{InEvent, task_blocks}
use Rattle.tables.specs.State.{State, task_at, queue, level_of, ready_queue, core_queue, read}
use Rattle.meaning.specs.Conditions.{undefined_in, enough}
use Rattle.meaning.specs.Rules.{queue_for, events_wait, events_pass, of_their_level}
use Rattle.fields.specs.Blocks.{waiter_right}
use Rattle.rules.specs.Orderly.{Orderly}
use Rattle.threads.proofs.Tests.{of-all, all-of, to-all}
use Rattle.lawful.proofs.Blocks.Members.{by-queue}
use Rattle.words.proofs.Lists.{all_append}
use Rattle.pointers.proofs.Marks.{stands_here}
use Rattle.rules.proofs.Places.{stands, in-queue, tasks-of, level-fits}

module _ (t : Tables) (o : Orderly t) where
  abbrev s : State
  s = read t

  -- a test of the blocks of a queue is one of the task blocks that stand in it
  module _ (p : ℕ → Bool) (q : ℕ) (h : q < 8) where
    all_in : ((k : ℕ) → 1 ≤ k → k ≤ task_blocks → standing k s.queues ≡ q → p k ≡ true) → all_of p (queue s q) ≡ true
    all_in f =
        of-all p (queue s q) (λ y c. let i = tasks-of t o q y h c in f y i.0 i.1 (in-queue t o q y (omega arith) c).0)

    all-out : all_of p (queue s q) ≡ true → (k : ℕ) → standing k s.queues ≡ q → p k ≡ true
    all-out e k st = all-of p (queue s q) e k (stands_here t.threads o.sound q (omega arith) k st)

  event-place : (k : ℕ) → 1 ≤ k → k ≤ task_blocks → standing k s.queues ≡ 0 → (task_at s k).place ≡ InEvent
  event-place k l h st =
      by-queue (task_at s k).place (level_of s k) 0 (stands t o k l h ∙ st) (omega arith) (λ a b. absurd (omega (arith, b, level-fits t o k h))) (λ a b. absurd (omega (arith, b)))
      (λ a b. a) (λ a b. absurd (omega (arith, b)))

  place-event : (k : ℕ) → 1 ≤ k → k ≤ task_blocks → (task_at s k).place ≡ InEvent → standing k s.queues ≡ 0
  unfolding queue_for
  place-event k l h e = sym (stands t o k l h) ∙ ap (λ (p : ℕ). queue_for p (level_of s k)) e

  -- ---- event waiters

  waits : ℕ → Bool
  waits k = not (leb (task_at s k).count (size (bit_and (task_at s k).events t.on)))

  defined : ℕ → Bool
  defined k = eqb (bit_and (task_at s k).events t.directory.defined) (task_at s k).events

  within : ℕ → Bool
  within k = leb (task_at s k).count (size (task_at s k).events)

  waits-told : events_wait s ≡ all_of waits (queue s 0)
  unfolding events_wait enough waits
  waits-told = refl

  pass-told : (k : ℕ) → (not (undefined_in s (task_at s k).events) && leb 1 (task_at s k).count && leb (task_at s k).count (size (task_at s k).events))
      ≡ (defined k && leb 1 (task_at s k).count && within k)
  unfolding undefined_in defined within
  pass-told k = rw (not-not (eqb (bit_and (task_at s k).events t.directory.defined) (task_at s k).events))

  waiter-told : (k : ℕ) → waiter_right t.directory.defined t.on (task_at s k)
      ≡ (eqb (task_at s k).place 4 implies (defined k && leb 1 (task_at s k).count && within k && waits k))
  unfolding waiter_right defined within waits
  waiter-told k = refl

  -- every task block is a right waiter, where it is one
  abbrev pub Waiting : Type 0
  Waiting = (k : ℕ) → 1 ≤ k → k ≤ task_blocks → waiter_right t.directory.defined t.on (task_at s k) ≡ true

  pub waiters : events_wait s ≡ true → events_pass s ≡ true → Waiting
  unfolding events_pass
  waiters w e k l h =
      waiter-told k
      ∙ ⊎_elim
      (λ z.
      let st = place-event k l h z.1 in
      rw z.0
      (and-of (defined k && leb 1 (task_at s k).count && within k) (waits k)
      (sym (pass-told k)
      ∙ all-out
      (λ k. not (undefined_in s (task_at s k).events) && leb 1 (task_at s k).count && leb (task_at s k).count (size (task_at s k).events))
      0 (omega arith) e k st)
      (all-out waits 0 (omega arith) (sym waits-told ∙ w) k st)))
      (λ z. rw z.0) (tested (task_at s k).place 4)

  module _ (e : Waiting) where
    four : (k : ℕ) → 1 ≤ k → k ≤ task_blocks → standing k s.queues ≡ 0
        → ((defined k && leb 1 (task_at s k).count && within k) ≡ true) × (waits k ≡ true)
    four k l h st =
        both _ _
        (implied (eqb (task_at s k).place 4) (defined k && leb 1 (task_at s k).count && within k && waits k) (sym (waiter-told k) ∙ e k l h)
        (eq-eqb (task_at s k).place 4 (event-place k l h st)))

    pub events-wait : events_wait s ≡ true
    events-wait = waits-told ∙ all_in waits 0 (omega arith) (λ k l h st. (four k l h st).1)

    pub events-pass : events_pass s ≡ true
    unfolding events_pass
    events-pass =
        all_in
        (λ k. not (undefined_in s (task_at s k).events) && leb 1 (task_at s k).count && leb (task_at s k).count (size (task_at s k).events))
        0 (omega arith) (λ k l h st. pass-told k ∙ (four k l h st).0)

  -- ---- "ready and core queues hold their level's tasks": so do their places

  module _ (level : ℕ) (low : 1 ≤ level) (high : level ≤ 3) (k : ℕ) (l : 1 ≤ k) (h : k ≤ task_blocks) where
    of-ready : standing k s.queues ≡ ready_queue level → level_of s k ≡ level
    of-ready st =
        by-queue (task_at s k).place (level_of s k) level (stands t o k l h ∙ st) (omega arith) (λ a b. sym b) (λ a b. absurd (omega (arith, b, level-fits t o k h)))
        (λ a b. absurd (omega (arith, b))) (λ a b. absurd (omega (arith, b)))

    pub of-core : standing k s.queues ≡ core_queue level → level_of s k ≡ level
    of-core st =
        by-queue (task_at s k).place (level_of s k) (level + 3) (stands t o k l h ∙ st) (omega arith) (λ a b. absurd (omega (arith, b, level-fits t o k h)))
        (λ a b. omega (arith, b)) (λ a b. absurd (omega (arith, b))) (λ a b. absurd (omega (arith, b)))

  pub their-level : of_their_level s ≡ true
  unfolding of_their_level
  their-level =
      to-all (λ level. all_of (λ k. eqb (level_of s k) level) (queue s (ready_queue level) ++ queue s (core_queue level))) 3
      (λ level low high.
      all_append (λ k. eqb (level_of s k) level) (queue s (ready_queue level)) (queue s (core_queue level))
      ∙ and-of _ _
      (all_in (λ k. eqb (level_of s k) level) (ready_queue level) (omega arith) (λ k l h st. eq-eqb _ _ (of-ready level low high k l h st)))
      (all_in (λ k. eqb (level_of s k) level) (core_queue level) (omega arith) (λ k l h st. eq-eqb _ _ (of-core level low high k l h st))))
