-- "LINK parents never form a ring, so an abort takes at most 24 tasks, each once." A parent is of lower rank than its child: it has fewer blocks below it,
-- and none has 24, so a chain ends in 24 steps, and meets no block twice. And back: where all chains end, the depth of each block is a rank.
use mathlib.Core.Bool.{true, cond}
use mathlib.Core.Path.{◌≡◌, refl, sym, ap, ◌∙◌}
use mathlib.Core.Logic.{◌≢◌, ◌⊎◌, ⊎_elim}
use mathlib.Core.List.{List}
use Prim.Native.Nat.{ℕ, zero, suc, ◌≤◌, ◌<◌}
use native.Mathlib.Omega.{arith}
use lib.Dec.{eqb, ltb}
use borrow.Author.Tests.{ne_eqb, lt-ltb, le-ltb, eqb-true, eq-eqb}
use Rattle.words.proofs.Truth.{tested}
use Rattle.words.proofs.Places.{under-or-from}
use Rattle.tables.specs.declared.Task.{Task}
use Rattle.tables.specs.State.{State, task_at}
use Rattle.tables.specs.Blocks.{no_task, task_blocks}
use Rattle.meaning.specs.Rules.{upward, chains_end}
use Rattle.lawful.specs.Shape.{Shape, Ranked}
use Rattle.threads.proofs.Tests.{all-to, to-all}
use Rattle.words.proofs.Counted.{total, total-lt}

-- ---- Chains of parents end: a parent has fewer lower it, by rank, than its child, and nobody has 24.
-- 1 where a is lower than b
lower : ℕ → ℕ → ℕ
lower a b = cond (ltb a b) 1 0

lower-lt : (a b : ℕ) → a < b → lower a b ≡ 1
unfolding lower
lower-lt a b h = rw (lt-ltb a b h)

lower-ge : (a b : ℕ) → b ≤ a → lower a b ≡ 0
unfolding lower
lower-ge a b h = rw (le-ltb a b h)

lower-one : (a b : ℕ) → lower a b ≤ 1
lower-one a b = ⊎_elim (λ z. omega (arith, lower-lt a b z)) (λ z. omega (arith, lower-ge a b z)) (under-or-from a b)

lower_mono : (y a b : ℕ) → a < b → lower y a ≤ lower y b
lower_mono y a b h =
    ⊎_elim (λ z. omega (arith, lower-lt y a z, lower-lt y b (omega (arith, z, h)))) (λ z. omega (arith, lower-ge y a z)) (under-or-from y a)

pub upward-none : {s : State} {h : List ℕ} {e : ℕ} → Shape s h e → (n : ℕ) → upward s n 0 ≡ 0
unfolding upward
upward-none g zero = refl
upward-none {s} g (suc n) = ap (upward s n) (ap (λ (t : Task). t.parent) g.blank.block) ∙ upward-none g n

module _ {s : State} {h : List ℕ} {e : ℕ} (g : Shape s h e) where
  under : ℕ → ℕ
  under k = total (λ y. lower (g.ranked.rank y) (g.ranked.rank k)) 24

  under-lt : (k : ℕ) → 1 ≤ k → k ≤ task_blocks → under k < 24
  unfolding under total
  under-lt k a b =
      total-lt (λ y. lower (g.ranked.rank y) (g.ranked.rank k)) (λ y. 1) 24 k (λ y. lower-one _ _) a b
      (omega (arith, lower-ge (g.ranked.rank k) (g.ranked.rank k) (omega arith)))

  under_parent : (k : ℕ) → k ≤ task_blocks → (task_at s k).parent ≢ 0 → (task_at s k).parent ≤ task_blocks → under (task_at s k).parent < under k
  unfolding under
  under_parent k b n c =
      let l = g.ranked.above k b n in
      total-lt _ _ 24 (task_at s k).parent (λ y. lower_mono (g.ranked.rank y) _ _ l) (omega arith) c
      (omega (arith, lower-ge (g.ranked.rank (task_at s k).parent) (g.ranked.rank (task_at s k).parent) (omega arith), lower-lt _ _ l))

  upward-ends : (n k : ℕ) → 1 ≤ k → k ≤ task_blocks → under k < n → upward s n k ≡ 0
  unfolding upward
  upward-ends zero k a b l = absurd (omega (arith, l))
  upward-ends (suc n) k a b l =
      let c = (g.tasks k a b).fields.parent in
      ⊎_elim (λ z. ap (upward s n) z.1 ∙ upward-none g n)
      (λ z. upward-ends n (task_at s k).parent (omega (arith, z.1)) c (omega (arith, under_parent k b z.1 c, l))) (tested (task_at s k).parent 0)

  pub chain-ends : (k : ℕ) → 1 ≤ k → k ≤ task_blocks → upward s 24 k ≡ 0
  chain-ends k a b = upward-ends 24 k a b (under-lt k a b)

-- where parents stay or are lost, chains end no later
pub upward-shorter : (s : State) {s' : State} {h : List ℕ} {e : ℕ} → Shape s' h e → ((y : ℕ) → ((task_at s' y).parent ≡ (task_at s y).parent) ⊎ ((task_at s' y).parent ≡ 0))
    → (n k : ℕ) → upward s n k ≡ 0 → upward s' n k ≡ 0
unfolding upward
upward-shorter s g f zero k e = e
upward-shorter s {s'} g f (suc n) k e =
    ⊎_elim (λ z. ap (upward s' n) z ∙ upward-shorter s g f n (task_at s k).parent e) (λ z. ap (upward s' n) z ∙ upward-none g n) (f k)

-- ---- Each once.
module _ {s : State} {h : List ℕ} {e : ℕ} (g : Shape s h e) where
  parent-low : (k : ℕ) → k ≤ task_blocks → (task_at s k).parent ≤ task_blocks
  parent-low k b =
      ⊎_elim (λ z. let i : k ≡ 0 = omega (arith, z) in omega (arith, ap (λ (x : ℕ). (task_at s x).parent) i, ap (λ (t : Task). t.parent) g.blank.block))
      (λ z. (g.tasks k z b).fields.parent) (under-or-from k 1)

  climbs : (n k : ℕ) → k ≤ task_blocks → upward s (suc n) k ≢ 0 → g.ranked.rank (upward s (suc n) k) < g.ranked.rank k
  unfolding upward
  climbs zero k b d = g.ranked.above k b d
  climbs (suc n) k b d =
      let c = parent-low k b in
      let p : (task_at s k).parent ≢ 0 = λ z. d (ap (upward s (suc n)) z ∙ upward-none g (suc n)) in
      omega (arith, climbs n (task_at s k).parent c d, g.ranked.above k b p)

  pub each-once : (i j k : ℕ) → k ≤ task_blocks → i < j → upward s j k ≢ 0 → upward s j k ≢ upward s i k
  unfolding upward
  each-once i zero k b l d = absurd (omega (arith, l))
  each-once zero (suc j) k b l d = λ z. omega (arith, climbs j k b d, ap g.ranked.rank z)
  each-once (suc i) (suc j) k b l d = each-once i j (task_at s k).parent (parent-low k b) (omega (arith, l)) d

  -- so one does not come back
  pub no_return : (k n : ℕ) → 1 ≤ k → k ≤ task_blocks → 1 ≤ n → upward s n k ≢ k
  unfolding upward
  no_return k n a b l z = each-once 0 n k b l (λ i. omega (arith, sym z ∙ i, a)) z

-- ---- As a test.
module _ (s : State) where
  depth : ℕ → ℕ → ℕ
  depth zero k = 0
  depth (suc n) k = let further = suc (depth n (task_at s k).parent) in cond (eqb k 0) 0 further

  depth-none : (n k : ℕ) → k ≡ 0 → depth n k ≡ 0
  unfolding depth
  depth-none zero k e = refl
  depth-none (suc n) k e = rw (eq-eqb k 0 e)

  depth-some : (n k : ℕ) → k ≢ 0 → depth (suc n) k ≡ suc (depth n (task_at s k).parent)
  unfolding depth
  depth-some n k d = rw (ne_eqb k 0 d)

  depth-ends : (n k : ℕ) → upward s n k ≡ 0 → depth (suc n) k ≡ depth n k
  unfolding upward
  depth-ends zero k e = depth-none 1 k e ∙ sym (depth-none 0 k e)
  depth-ends (suc n) k e =
      ⊎_elim (λ z. depth-none (suc (suc n)) k z.1 ∙ sym (depth-none (suc n) k z.1))
      (λ z. depth-some (suc n) k z.1 ∙ ap suc (depth-ends n (task_at s k).parent e) ∙ sym (depth-some n k z.1)) (tested k 0)

  pub ranked-of : chains_end s ≡ true → task_at s 0 ≡ no_task → Ranked s.tasks
  unfolding chains_end upward
  ranked-of e z =
      record {
        rank = depth 24;
        above = λ y b n.
            let d : y ≢ 0 = λ i. n (ap (λ (x : ℕ). (task_at s x).parent) i ∙ ap (λ (t : Task). t.parent) z) in
            let c : upward s 23 (task_at s y).parent ≡ 0 = eqb-true _ 0 (all-to (λ k. eqb (upward s 24 k) 0) task_blocks e y (omega (arith, d)) b) in
            omega (arith, depth-some 23 y d, depth-ends 23 (task_at s y).parent c);
      }

  pub of-ranked : {h : List ℕ} {e : ℕ} → Shape s h e → chains_end s ≡ true
  unfolding chains_end
  of-ranked g = to-all (λ k. eqb (upward s 24 k) 0) task_blocks (λ k a b. eq-eqb _ 0 (chain-ends g k a b))
