-- What the rules give in demand 3's own words: each block stands in at most one queue, and there once; each unit of a level is in one run or free, and
-- two runs of a level do not meet. The first by counting over the nine queues, the others since two terms are at most the sum.
use mathlib.Core.Bool.{Bool, true, ◌&&◌}
use mathlib.Core.Path.{◌≡◌, refl, sym, ap, ◌∙◌}
use mathlib.Core.Logic.{◌⊎◌, inl, inr, ⊎_elim}
use mathlib.Core.List.{List, [], ◌∷◌}
use Prim.Native.Nat.{ℕ, zero, suc, ◌+◌, ◌-◌, ◌≤◌, ◌<◌}
use native.Mathlib.Omega.{arith}
use native.Mathlib.Nat.{le_of_suc-le-suc, not-suc-le-zero}
use lib.ListN.{length, get_or}
use lib.Dec.{eqb}
use borrow.Author.Tests.{eqb-true}
use Rattle.threads.specs.Threads.{count, counts, Apart, BLOCKS}
use Rattle.words.specs.Words.{if◌then◌else◌, one_to, how_many, has}
use Rattle.words.proofs.Places.{under-or-from}
use Rattle.tables.specs.declared.Task.{Task}
use Rattle.tables.specs.State.{State, node, task_at, request_at, pool_at, queue, level_of}
use Rattle.tables.specs.Blocks.{no_task, task_blocks}
use Rattle.meaning.specs.Rules.{queue_for, holds_unit}
use Rattle.lawful.specs.Shape.{place_of, Shape, holding}
use Rattle.words.specs.Counting.{sum, one}
use Rattle.lawful.proofs.Tested.PlaceRules.{channel_for, only-channel}
use Rattle.lawful.proofs.Tested.CoreRules.{holding-number, units-held}
use Rattle.lawful.proofs.Blocks.Cored.{used-holder}
use Rattle.lawful.proofs.Blocks.Members.{level-best, level-worst}
use Rattle.lawful.proofs.Blocks.Sums.{sum-le}
use Rattle.words.proofs.Counting.{one-other, one-le, one-suc}
use Rattle.words.proofs.Bits.{bit_le, bit-of}
use Rattle.words.proofs.Truth.{both}
use Rattle.threads.proofs.Queues.{counts-none}

-- ---- A block stands in at most one queue, and there once.
counts-one : (y a : ℕ) (ls : List (List ℕ)) → ((q : ℕ) → q < length ls → count y (get_or ls q []) ≡ one a q) → counts y ls ≤ 1
unfolding counts
counts-one y a [] f = omega arith
counts-one y zero (l ∷ ls) f =
    omega (arith, f 0 (omega arith), one-le 0 0, counts-none y ls (λ q h. f (suc q) (omega (arith, h)) ∙ one-other 0 (suc q) (λ z. omega (arith, z))))
counts-one y (suc a) (l ∷ ls) f =
    omega (arith, f 0 (omega arith), one-other (suc a) 0 (λ z. omega (arith, z)), counts-one y a ls (λ q h. f (suc q) (omega (arith, h)) ∙ one-suc a q))

-- block 0, and a number above 40, stand nowhere
outside : {s : State} {h : List ℕ} {e : ℕ} → Shape s h e → (y : ℕ) → (y ≡ 0) ⊎ (40 < y) → counts y s.queues ≡ 0
outside {s} g y z =
    counts-none y s.queues (λ q l. ⊎_elim (λ i. ap (λ (x : ℕ). count x (queue s q)) i ∙ g.none q) (λ i. g.beyond q y i) z)

-- a task block stands in the queue of its place, a request block in the channel queue or in none
inside-once : {s : State} {h : List ℕ} {e : ℕ} → Shape s h e → (y : ℕ) → 1 ≤ y → y ≤ BLOCKS → counts y s.queues ≤ 1
inside-once {s} {h} g y a b =
    ⊎_elim
    (λ c.
    let w = g.requests (y - 24) (omega (arith, c)) (omega (arith, b)) in
    let n : node (y - 24) ≡ y = omega (arith, c) in
    counts-one y (channel_for (request_at s (y - 24)).place) s.queues
    (λ q l. ap (λ (x : ℕ). count x (queue s q)) (sym n) ∙ (only-channel s (y - 24) w.others w.queued).only q (omega (arith, l, g.sizes.queues))))
    (λ c. counts-one y (queue_for (place_of s h y) (level_of s y)) s.queues (λ q l. (g.tasks y a c).queued q (omega (arith, l, g.sizes.queues)))) (under-or-from 24 y)

pub shape-apart : {s : State} {h : List ℕ} {e : ℕ} → Shape s h e → Apart s.queues
shape-apart {s} g =
    record {
      nine = g.sizes.queues;
      once = λ y.
          ⊎_elim (λ a. omega (arith, outside g y (inl (omega (arith, a))))) (λ a. ⊎_elim (λ b. omega (arith, outside g y (inr b))) (λ b. inside-once g y a b) (under-or-from 40 y))
          (under-or-from y 1);
      inside = λ y c. (
        ⊎_elim (λ a. absurd (omega (arith, c, outside g y (inl (omega (arith, a)))))) (λ a. a) (under-or-from y 1),
        ⊎_elim (λ a. absurd (omega (arith, c, outside g y (inr a)))) (λ a. a) (under-or-from 40 y),
      );
    }

-- ---- Each unit of a level is in one run or free, and two runs of a level do not meet.
sum-two : (f : Task → ℕ) (l : List Task) (i j : ℕ) → i < j → j < length l → f (get_or l i no_task) + f (get_or l j no_task) ≤ sum f l
unfolding sum
sum-two f [] i j a b = absurd (not-suc-le-zero b)
sum-two f (t ∷ l) zero (suc j) a b = omega (arith, sum-le f l j no_task (le_of_suc-le-suc b))
sum-two f (t ∷ l) zero zero a b = absurd (not-suc-le-zero a)
sum-two f (t ∷ l) (suc i) zero a b = absurd (not-suc-le-zero a)
sum-two f (t ∷ l) (suc i) (suc j) a b = omega (arith, sum-two f l i j (le_of_suc-le-suc a) (le_of_suc-le-suc b))

module _ {s : State} {h : List ℕ} {e : ℕ} (g : Shape s h e) where
  -- each unit of a level is in one run where it is granted, and in none where it is free
  pub units-make : (level u : ℕ) → 1 ≤ level → level ≤ 3 → how_many (holds_unit s level u) (one_to task_blocks) ≡ (if has (pool_at s level) u then 1 else 0)
  units-make level u lo hi =
      sym (units-held s g.sizes.tasks g.blank.block level u) ∙ g.core.units level u lo hi ∙ bit-of (pool_at s level) u refl

  -- who holds a unit of a level is a task of it
  of-level : (level u k : ℕ) → 1 ≤ k → k ≤ task_blocks → holds_unit s level u k ≡ true → (1 ≤ level) × (level ≤ 3)
  unfolding holds_unit
  of-level level u k a b o =
      let c = (both (eqb (task_at s k).core 1 && eqb (level_of s k) level) _ o).0 in
      let own = both (eqb (task_at s k).core 1) (eqb (level_of s k) level) c in
      let used = used-holder g a b (eqb-true (task_at s k).core 1 own.0) in
      let z = eqb-true (level_of s k) level own.1 in
      (omega (arith, z, level-best g a b used), omega (arith, z, level-worst g a b used))

  one_holds : (i j level u : ℕ) → 1 ≤ i → i < j → j ≤ task_blocks → holds_unit s level u i ≡ true → holds_unit s level u j ≡ true → ⊥
  one_holds i j level u some l low a b =
      let v = of-level level u i some (omega arith) a in
      omega (
        arith,
        sum-two (holding s.directory level u) s.tasks i j l (omega (arith, low, g.sizes.tasks)),
        holding-number s level u i ∙ ap (λ (x : Bool). if x then 1 else 0) a,
        holding-number s level u j ∙ ap (λ (x : Bool). if x then 1 else 0) b,
        g.core.units level u v.0 v.1,
        bit_le (pool_at s level) u,
      )

  pub runs-apart : (i j level u : ℕ) → 1 ≤ i → i ≤ task_blocks → 1 ≤ j → j ≤ task_blocks → holds_unit s level u i ≡ true → holds_unit s level u j ≡ true → i ≡ j
  runs-apart i j level u a b c d p q =
      ⊎_elim (λ (l : i < j). absurd (one_holds i j level u a l d p q))
      (λ (l : j ≤ i). ⊎_elim (λ (m : j < i). absurd (one_holds j i level u c m b q p)) (λ (m : i ≤ j). omega arith) (under-or-from j i))
      (under-or-from i j)
