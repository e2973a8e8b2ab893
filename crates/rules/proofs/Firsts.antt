-- The rules that ask only for the first of a queue: a queue is empty where its first is no block; and who waits first for core is of the queue's level.
use mathlib.Core.Bool.{Bool, true, false, not, ◌&&◌, ◌||◌}
use mathlib.Core.Path.{◌≡◌, refl, ap, ap₂, ◌∙◌}
use mathlib.Core.List.{List, [], ◌∷◌}
use Prim.Native.Nat.{ℕ, ◌+◌, ◌≤◌, ◌<◌}
use native.Mathlib.Omega.{arith}
use lib.ListN.{get_or}
use lib.Dec.{eqb}
use borrow.Author.Tests.{eq-eqb, ne_eqb}
use Rattle.threads.specs.Threads.{hd, count, QUEUES}
use Rattle.threads.proofs.Lists.{count-hit}
use Rattle.threads.proofs.Read.{first_of}
use Rattle.words.specs.Words.{◌implies◌, is_empty, one_to, all_of}
use Rattle.pools.specs.Pools.{long_enough}
use Rattle.tables.specs.declared.Tables.{Tables}
use Rattle.tables.specs.State.{State, core_queue, task_at, pool_at, queue, level_of, units_of, read}
use Rattle.meaning.specs.Ready.{fits}
use Rattle.meaning.specs.Rules.{idle_only_if_none_ready, channel_busy}
use Rattle.rules.specs.Orderly.{Orderly}
use Rattle.rules.proofs.Places.{in-queue, tasks-of, module-low}
use Rattle.rules.proofs.Waiters.{of-core}
use Rattle.tables.specs.Blocks.{task_blocks}

pub three : (a b c : Bool) → (a && b && c) ≡ (a && (b && (c && true)))
three true true true = refl
three true true false = refl
three true false c = refl
three false b c = refl

-- the first waiters' test, of one level
abbrev pub first_waits : State → ℕ → Bool
first_waits s level = not (is_empty (queue s (core_queue level))) implies not (fits s (hd (queue s (core_queue level))))

module _ (t : Tables) (o : Orderly t) where
  abbrev s : State
  s = read t

  abbrev first : ℕ → ℕ
  first q = get_or t.threads.first q 0

  empty-is : (q : ℕ) (l : List ℕ) → q < QUEUES → queue s q ≡ l → eqb (hd l) 0 ≡ is_empty l
  empty-is q [] h e = refl
  empty-is q (a ∷ l) h e =
      let m = in-queue t o q a h (omega (arith, ap (count a) e, count-hit a a l refl)) in ne_eqb a 0 (omega (arith, m.1))

  empty-told : (q : ℕ) → q < QUEUES → eqb (first q) 0 ≡ is_empty (queue s q)
  empty-told q h = ap (λ (y : ℕ). eqb y 0) (first_of t.threads o.sound q h) ∙ empty-is q (queue s q) h refl

  pub busy-told : (not (eqb t.running 0) || (eqb (first 1) 0 && eqb (first 2) 0 && eqb (first 3) 0)) ≡ idle_only_if_none_ready s
  unfolding idle_only_if_none_ready all_of one_to
  busy-told =
      ap (λ (a : Bool). not (eqb t.running 0) || a)
      (three (eqb (first 1) 0) (eqb (first 2) 0) (eqb (first 3) 0)
      ∙ ap₂ (λ (a b : Bool). a && b) (empty-told 1 (omega arith))
      (ap₂ (λ (a b : Bool). a && (b && true)) (empty-told 2 (omega arith)) (empty-told 3 (omega arith))))

  pub channel-told : (not (eqb t.channel 0) || eqb (first 8) 0) ≡ channel_busy s
  unfolding channel_busy
  channel-told = ap (λ (a : Bool). not (eqb t.channel 0) || a) (empty-told 8 (omega arith))

  -- ---- who waits first for core

  first-low : (q : ℕ) (l : List ℕ) → q < 8 → queue s q ≡ l → hd l ≤ task_blocks
  first-low q [] h e = omega arith
  first-low q (a ∷ l) h e = (tasks-of t o q a h (omega (arith, ap (count a) e, count-hit a a l refl))).1

  pub waiter-low : (level : ℕ) → level ≤ 3 → first (level + 3) ≤ task_blocks
  waiter-low level h =
      omega (arith, first_of t.threads o.sound (level + 3) (omega arith), first-low (level + 3) (queue s (level + 3)) (omega arith) refl)

  -- the test of the code, of who waits first
  abbrev waits : ℕ → ℕ → Bool
  waits level k = eqb k 0 || not (long_enough (pool_at s level) (units_of s k))

  turn : (level k : ℕ) (l : List ℕ) → 1 ≤ level → level ≤ 3 → queue s (level + 3) ≡ l → k ≡ hd l
      → waits level k ≡ (not (is_empty l) implies not (fits s (hd l)))
  unfolding fits
  turn level k [] l h e f = rw (eq-eqb k 0 f)
  turn level k (a ∷ m) l h e f =
      let c : 1 ≤ count a (queue s (level + 3)) = omega (arith, ap (count a) e, count-hit a a m refl) in
      let i = in-queue t o (level + 3) a (omega arith) c in
      let n = tasks-of t o (level + 3) a (omega arith) c in
      let z : level_of s a ≡ level = of-core t o level l h a n.0 n.1 i.0 in
      rw (ne_eqb k 0 (omega (arith, n.0)), z, ← f)

  pub first-turn : {level k : ℕ} {b : Bool} → 1 ≤ level → level ≤ 3 → k ≡ first (level + 3) → b ≡ waits level k → b ≡ first_waits s level
  first-turn {level} {k} {b} l h f g =
      g ∙ turn level k (queue s (level + 3)) l h refl (f ∙ first_of t.threads o.sound (level + 3) (omega arith))

  pub waiter-module : (level : ℕ) → level ≤ 3 → (task_at s (first (level + 3))).program < 32
  waiter-module level h = module-low t o (first (level + 3)) (waiter-low level h)
