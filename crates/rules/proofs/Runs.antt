-- Core, level by level: as a task is looked at, the units of its run are counted into the two sets of its level; at the end they are the level's pool.
use mathlib.Core.Bool.{Bool, false, ◌&&◌}
use mathlib.Core.Path.{◌≡◌, refl, sym, ap, ap₂, ◌∙◌}
use mathlib.Core.Logic.{◌≢◌, ⊎_elim}
use mathlib.Core.List.{List}
use Prim.Native.Nat.{ℕ, ◌+◌, ◌-◌, ◌≤◌, ◌<◌}
use native.Mathlib.Omega.{arith}
use lib.Dec.{eqb, leb}
use lib.ListN.{set, get_or, replicate, length-set, get_or-replicate}
use lib.Seq.{get_or-set_same, get_or-set_other}
use borrow.Author.Tests.{eq-eqb, ne_eqb, le-ltb}
use Rattle.words.proofs.Truth.{tested, fails-right}
use Rattle.words.specs.Words.{below, one_to, all_of, has}
use Rattle.words.proofs.Masks.{has-run}
use Rattle.words.proofs.Members.{has_above}
use Rattle.words.proofs.Lists.{all-at, all_shown}
use Rattle.words.proofs.Places.{under-or-from}
use Rattle.pools.specs.Pools.{in_run, run}
use Rattle.tables.specs.declared.Tables.{Tables}
use Rattle.tables.specs.State.{State, task_at, pool_at, level_of, units_of, read}
use Rattle.meaning.specs.Rules.{holds_unit, core_held}
use Rattle.rules.specs.Orderly.{Orderly}
use Rattle.rules.specs.declared.links.Met.{Met}
use Rattle.rules.specs.Links.{Tally, Exact, Counted, with_set, none_met}
use Rattle.rules.proofs.Firsts.{three}
use Rattle.rules.proofs.Places.{run_fits, level-fits}
use Rattle.rules.proofs.Tally.{met, met-none, tally-start, tally-next, tally-past, tally-end}
use Rattle.tables.specs.Blocks.{task_blocks}

none : (level : ℕ) → level < 4 → get_or (replicate 4 none_met) level none_met ≡ none_met
none level h = get_or-replicate 4 level none_met none_met h

module _ (s : State) where
  pub counted_start : Counted s 0 (replicate 4 none_met)
  counted_start = record { many = refl; tally = λ level h. rw (none level h) tally-start }

  holds_not : (level u k : ℕ) → (task_at s k).core ≢ 1 → holds_unit s level u k ≡ false
  unfolding holds_unit
  holds_not level u k n = rw (ne_eqb (task_at s k).core 1 n)

  holds-else : (level u k : ℕ) → (task_at s k).core ≡ 1 → level_of s k ≢ level → holds_unit s level u k ≡ false
  unfolding holds_unit
  holds-else level u k e n = rw (eq-eqb (task_at s k).core 1 e, ne_eqb (level_of s k) level n)

  holds_has : (level u k : ℕ) → (task_at s k).core ≡ 1 → level_of s k ≡ level → has (run (task_at s k).start (units_of s k)) u ≡ holds_unit s level u k
  unfolding holds_unit
  holds_has level u k e n = rw (eq-eqb (task_at s k).core 1 e, eq-eqb (level_of s k) level n) (has-run (task_at s k).start (units_of s k) u)

  module _ {k : ℕ} {runs : List Met} (c : Counted s k runs) where
    -- a task that holds no run
    counted-past : (task_at s (k + 1)).core ≢ 1 → Counted s (k + 1) runs
    counted-past n =
        record { many = c.many; tally = λ level h. tally-past (c.tally level h) (λ u. holds_not level u (k + 1) n) }

    -- a task that holds the run m, of the level l
    counted_next : {l : ℕ} {x : Met} (m : ℕ) → (task_at s (k + 1)).core ≡ 1 → l ≡ level_of s (k + 1) → l < 4
        → m ≡ run (task_at s (k + 1)).start (units_of s (k + 1)) → x ≡ with_set (get_or runs l none_met) m
        → Counted s (k + 1) (set runs l x)
    counted_next {l} {x} m e f low g w =
        record {
          many = length-set runs l x ∙ c.many;
          tally = λ level h.
              ⊎_elim
              (λ z.
              rw (← z.1, get_or-set_same runs l x none_met (omega (arith, c.many)), w)
              (tally-next (c.tally l low) m (λ u. ap (λ (w : ℕ). has w u) g ∙ holds_has l u (k + 1) e (sym f))))
              (λ z.
              rw (get_or-set_other runs l level x none_met (λ w. z.1 (sym w)))
              (tally-past (c.tally level h) (λ u. holds-else level u (k + 1) e (λ w. z.1 (f ∙ w)))))
              (tested l level);
        }

  -- the same of the task k, after those below it
  module _ (k : ℕ) (h : 1 ≤ k) {runs : List Met} (c : Counted s (k - 1) runs) where
    again : k - 1 + 1 ≡ k
    again = omega arith

    pub run-past : (task_at s k).core ≢ 1 → Counted s k runs
    run-past n = rw again at (counted-past c (rw again n))

    pub run_next : {l : ℕ} {x : Met} (m : ℕ) → (task_at s k).core ≡ 1 → l ≡ level_of s k → l < 4 → m ≡ run (task_at s k).start (units_of s k)
        → x ≡ with_set (get_or runs l none_met) m → Counted s k (set runs l x)
    run_next m e f low g w = rw again at (counted_next c m (rw again e) (rw again f) low (rw again g) w)

-- what a level met
abbrev pub met_of : List Met → ℕ → Met
met_of runs level = get_or runs level none_met

module _ (t : Tables) (o : Orderly t) where
  abbrev s : State
  s = read t

  pub level-low : (k : ℕ) → k ≤ task_blocks → level_of s k < 4
  level-low k h = omega (arith, level-fits t o k h)

  high : (level u : ℕ) → 64 ≤ u → (k : ℕ) → 1 ≤ k → k ≤ task_blocks → holds_unit s level u k ≡ false
  unfolding holds_unit
  high level u l k a b =
      ⊎_elim
      (λ z.
      fails-right (eqb (task_at s k).core 1 && eqb (level_of s k) level) (in_run (task_at s k).start (units_of s k) u)
      (fails-right (leb (task_at s k).start u) _ (le-ltb u ((task_at s k).start + units_of s k) (omega (arith, run_fits t o k a b z.1)))))
      (λ z. rw z.0) (tested (task_at s k).core 1)

  -- each unit of a level is met as its pool wants it
  abbrev held_at : ℕ → ℕ → Bool
  held_at level = met (holds_unit s level) 24 (pool_at s level)

  level-end : {one two : ℕ} {r : Bool} (level : ℕ) → Tally (holds_unit s level) 24 one two → Exact one two (pool_at s level) r
      → r ≡ all_of (held_at level) (below 64)
  level-end level n x =
      x.right
      ∙ tally-end (pool_at s level) n
      (λ e u.
      ⊎_elim (λ l. all-at (held_at level) 64 u e l)
      (λ l. met-none (holds_unit s level) 24 (pool_at s level) u (high level u l) (has_above 64 (pool_at s level) u x.low l)) (under-or-from u 64))
      (λ f. all_shown (held_at level) 64 (λ u l. f u))

  pub counted-end : {runs : List Met} {a b c : Bool} → Counted s 24 runs → Exact (met_of runs 1).once (met_of runs 1).twice (pool_at s 1) a
      → Exact (met_of runs 2).once (met_of runs 2).twice (pool_at s 2) b → Exact (met_of runs 3).once (met_of runs 3).twice (pool_at s 3) c → (a && b && c) ≡ core_held s
  unfolding core_held all_of one_to
  counted-end n x y z =
      let p : ℕ → Bool = λ level. all_of (held_at level) (below 64) in
      ap₂ (λ (a b : Bool). a && b)
      (ap₂ (λ (a b : Bool). a && b) (level-end 1 (n.tally 1 (omega arith)) x) (level-end 2 (n.tally 2 (omega arith)) y))
      (level-end 3 (n.tally 3 (omega arith)) z)
      ∙ three (p 1) (p 2) (p 3)
