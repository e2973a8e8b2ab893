-- Core and links as tests: a unit is granted where one run has it, and a parent in LINK has one child. The sums over the blocks are how many of them
-- pass the test of one block.
use mathlib.Core.Bool.{Bool, true, false, cond, ◌&&◌}
use mathlib.Core.Path.{◌≡◌, refl, sym, ap, ◌∙◌}
use mathlib.Core.Logic.{⊎_elim}
use mathlib.Core.List.{List, [], ◌∷◌}
use Prim.Native.Nat.{ℕ, suc, ◌+◌, ◌^◌, ◌≤◌, ◌<◌}
use native.Mathlib.Omega.{arith}
use lib.ListN.{length, get_or}
use lib.Dec.{eqb}
use borrow.Author.Tests.{eqb-true, eq-eqb}
use Rattle.words.proofs.Truth.{tested}
use Rattle.words.specs.Words.{if◌then◌else◌, one_to, below, all_of, how_many, has}
use Rattle.words.proofs.Lists.{all-at, all_shown}
use Rattle.words.proofs.Masks.{has-run}
use Rattle.words.proofs.Places.{under-or-from}
use Rattle.image.specs.declared.Directory.{Directory}
use Rattle.tables.specs.declared.Task.{Task}
use Rattle.tables.specs.Blocks.{InLink, no_task, task_blocks}
use Rattle.tables.specs.State.{State, task_at, pool_at, level_of, units_of}
use Rattle.pools.specs.Pools.{in_run, run}
use Rattle.pools.proofs.Runs.{run-low}
use Rattle.meaning.specs.Rules.{holds_unit, core_held, linked}
use Rattle.lawful.specs.Shape.{module_of, holding, Core, children}
use Rattle.words.specs.Counting.{one, bit, sum}
use Rattle.words.proofs.Counting.{one-other}
use Rattle.threads.proofs.Tests.{all-to, to-all}
use Rattle.words.proofs.Bits.{bit-of, bit_high}
use Rattle.lawful.proofs.Blocks.Cored.{holding-own, holding-none, holding-other}
use Rattle.words.proofs.Counted.{sum-many}

-- ---- One task and one unit.

pub holding-number : (s : State) (level u k : ℕ) → holding s.directory level u (task_at s k) ≡ (if holds_unit s level u k then 1 else 0)
unfolding holding holds_unit
holding-number s level u k = go (eqb (task_at s k).core 1) (eqb (level_of s k) level)
  where
    go : (a b : Bool) → cond (a && b) (bit (run (task_at s k).start (units_of s k)) u) 0 ≡ (if a && b && in_run (task_at s k).start (units_of s k) u then 1 else 0)
    go true true = bit-of (run (task_at s k).start (units_of s k)) u (has-run (task_at s k).start (units_of s k) u)
    go true false = refl
    go false b = refl

one_number : (a b : ℕ) → one a b ≡ (if eqb a b then 1 else 0)
unfolding one
one_number a b = refl

sum-none : (f : Task → ℕ) (l : List Task) → ((k : ℕ) → k < length l → f (get_or l k no_task) ≡ 0) → sum f l ≡ 0
unfolding sum
sum-none f [] h = refl
sum-none f (t ∷ l) h = omega (arith, h 0 (omega arith), sum-none f l (λ k b. h (suc k) (omega (arith, b))))

-- a task whose run lies in the 64 units holds none above them
holding-high : (d : Directory) (level u : ℕ) (t : Task) → 64 ≤ u → (t.core ≡ 1 → t.start + (module_of d t).units ≤ 64) → holding d level u t ≡ 0
holding-high d level u t b f =
    ⊎_elim
    (λ c. ⊎_elim
    (λ e. holding-own d level u t c.1 e.1 ∙ bit_high 64 (run t.start (module_of d t).units) u (run-low t.start (module_of d t).units (f c.1)) b)
    (λ e. holding-other d level u t e.1) (tested (module_of d t).level level))
    (λ c. holding-none d level u t c.1) (tested t.core 1)

-- ---- All of them.
module _ (s : State) (long : length s.tasks ≡ suc task_blocks) (no-task : task_at s 0 ≡ no_task) where
  pub units-held : (level u : ℕ) → sum (holding s.directory level u) s.tasks ≡ how_many (holds_unit s level u) (one_to task_blocks)
  units-held level u =
      sum-many (holding s.directory level u) s.tasks no_task (holds_unit s level u) 24 long
      (holding-none s.directory level u (task_at s 0) (λ z. omega (arith, z, ap (λ (t : Task). t.core) no-task))) (λ k a b. holding-number s level u k)

  -- "Core runs of a level are disjoint and with its free units make 64"
  pub of-core : Core s.directory s.tasks s.pools → core_held s ≡ true
  unfolding core_held
  of-core g =
      to-all (λ level. all_of (λ u. eqb (how_many (holds_unit s level u) (one_to task_blocks)) (if has (pool_at s level) u then 1 else 0)) (below 64)) 3
      (λ level a b. all_shown (λ u. eqb (how_many (holds_unit s level u) (one_to task_blocks)) (if has (pool_at s level) u then 1 else 0)) 64
      (λ u c. eq-eqb _ _ (sym (units-held level u) ∙ g.units level u a b ∙ bit-of (pool_at s level) u refl)))

  pub core-of : ((level : ℕ) → pool_at s level < 2 ^ 64) → ((k : ℕ) → k < length s.tasks → (task_at s k).core ≡ 1 → (task_at s k).start + units_of s k ≤ 64)
      → core_held s ≡ true → Core s.directory s.tasks s.pools
  unfolding core_held
  core-of low inside e =
      record {
        low = low;
        units = λ level u a b.
            ⊎_elim
            (λ c. units-held level u
            ∙ eqb-true _ _ (all-at (λ u. eqb (how_many (holds_unit s level u) (one_to task_blocks)) (if has (pool_at s level) u then 1 else 0)) 64 u
            (all-to (λ level. all_of (λ u. eqb (how_many (holds_unit s level u) (one_to task_blocks)) (if has (pool_at s level) u then 1 else 0)) (below 64)) 3 e level a b) c)
            ∙ sym (bit-of (pool_at s level) u refl))
            (λ c. sum-none (holding s.directory level u) s.tasks (λ k l. holding-high s.directory level u (task_at s k) c (inside k l)) ∙ sym (bit_high 64 (pool_at s level) u (low level) c))
            (under-or-from u 64);
      }

  -- "a LINK waiter has exactly one child, a parent is in LINK"
  children-many : (p : ℕ) → 1 ≤ p → children s.tasks p ≡ how_many (λ c. eqb (task_at s c).parent p) (one_to task_blocks)
  children-many p some =
      sum-many (λ t. one t.parent p) s.tasks no_task (λ c. eqb (task_at s c).parent p) 24 long
      (one-other (task_at s 0).parent p (λ z. omega (arith, z, some, ap (λ (t : Task). t.parent) no-task))) (λ k a b. one_number (task_at s k).parent p)

  pub of-links : ((p : ℕ) → 1 ≤ p → p ≤ task_blocks → children s.tasks p ≡ one (task_at s p).place InLink) → linked s ≡ true
  unfolding linked
  of-links f =
      to-all (λ k. eqb (how_many (λ c. eqb (task_at s c).parent k) (one_to task_blocks)) (if eqb (task_at s k).place InLink then 1 else 0)) 24
      (λ k a b. eq-eqb _ _ (sym (children-many k a) ∙ f k a b ∙ one_number (task_at s k).place InLink))

  pub links-of : linked s ≡ true → (p : ℕ) → 1 ≤ p → p ≤ task_blocks → children s.tasks p ≡ one (task_at s p).place InLink
  unfolding linked
  links-of e p a b =
      children-many p a
      ∙ eqb-true _ _ (all-to (λ k. eqb (how_many (λ c. eqb (task_at s c).parent k) (one_to task_blocks)) (if eqb (task_at s k).place InLink then 1 else 0)) 24 e p a b)
      ∙ sym (one_number (task_at s p).place InLink)
