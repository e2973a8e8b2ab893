-- Laws of granting core and of getting ready, case by case.
use Rattle.std.specs.Prelude.{Some, None, ◌≡◌, ℕ, ◌+◌, ◌<◌, Bool, true, false, cond, ◌&&◌, eqb, ltb}
use mathlib.Core.Path.{refl, sym, ap, ap₂, ◌∙◌}
use native.Mathlib.Omega.{arith}
use Rattle.threads.specs.Threads.{counts}
use Rattle.words.specs.Words.{is_empty}
use Rattle.pools.specs.Pools.{run, start_of}
use Rattle.pools.specs.Runs.{FreeRun}
use Rattle.pools.specs.Find.{found_of}
use Rattle.pools.proofs.Starts.{at-start, at_long, nowhere-long, start-run}
use Rattle.image.specs.declared.Entry.{Entry}
use Rattle.tables.specs.Blocks.{Ready, InCore, NotGranted, HoldsRun, with_core}
use Rattle.tables.specs.State.{State, core_queue, with_pool, with_task, task_at, pool_at, queue, entry_for, level_of, units_of, joining}
use Rattle.meaning.specs.Ready.{placed, start_for, fits, needs_core, given_run, readied, awaits_core, made_ready}
use Rattle.scheduler.specs.Core.{seat_of, Granting}
use Rattle.lawful.proofs.Chained.Framed.{given-level}

-- ---- Getting ready, by the entry that the code has in hand
module _ (s : State) (k : ℕ) {e : Entry} (h : e ≡ entry_for s k) where
  -- the code's test is the meaning's
  pub needs-as : {b : Bool} → b ≡ (ltb 0 e.units && eqb (task_at s k).core NotGranted) → needs_core s k ≡ b
  unfolding needs_core
  needs-as f = sym (f ∙ ap (λ (x : Entry). ltb 0 x.units && eqb (task_at s k).core NotGranted) h)

  -- a seat is the start that the meaning gives
  pub seat-start : {a : ℕ} → seat_of s e.level e.units ≡ Some a → (a ≡ start_for s k) × (a < 64)
  unfolding start_for seat_of
  seat-start {a} f = go (is_empty (queue s (core_queue (level_of s k)))) (rw h at f)
    where
      go : (b : Bool) → cond b (found_of s.holes (pool_at s (level_of s k)) (units_of s k)) None ≡ Some a
          → (a ≡ start_of s.holes (pool_at s (level_of s k)) (units_of s k)) × (a < 64)
      go true g = let f = at-start s.holes (pool_at s (level_of s k)) (units_of s k) a g in (sym f.0, f.1)
      go false g = let y : ◌≡◌ {A = ℕ} 0 1 = cc in absurd (omega arith)

  pub ready-now : needs_core s k ≡ false → made_ready s k ≡ joining (placed s k Ready) e.level k
  unfolding made_ready readied
  ready-now n = rw (n, h)

  pub ready-later : needs_core s k ≡ true → seat_of s e.level e.units ≡ None → made_ready s k ≡ joining (placed s k InCore) (core_queue e.level) k
  unfolding made_ready awaits_core seat_of fits
  ready-later n f = rw h (go (is_empty (queue s (core_queue (level_of s k)))) refl (rw h at f))
    where
      go : (b : Bool) → is_empty (queue s (core_queue (level_of s k))) ≡ b → cond b (found_of s.holes (pool_at s (level_of s k)) (units_of s k)) None ≡ None
          → made_ready s k ≡ joining (placed s k InCore) (core_queue (level_of s k)) k
      go true q g = rw (n, q, nowhere-long s.holes (pool_at s (level_of s k)) (units_of s k) g)
      go false q g = rw (n, q)

  pub ready-seated : {a : ℕ} → needs_core s k ≡ true → seat_of s e.level e.units ≡ Some a → made_ready s k ≡ joining (placed (given_run s k) k Ready) e.level k
  unfolding made_ready readied seat_of fits
  ready-seated {a} n f = rw h (go (is_empty (queue s (core_queue (level_of s k)))) refl (rw h at f))
    where
      go : (b : Bool) → is_empty (queue s (core_queue (level_of s k))) ≡ b → cond b (found_of s.holes (pool_at s (level_of s k)) (units_of s k)) None ≡ Some a
          → made_ready s k ≡ joining (placed (given_run s k) k Ready) (level_of s k) k
      go true q g = rw (n, q, at_long s.holes (pool_at s (level_of s k)) (units_of s k) a g, given-level s k)
      go false q g = let y : ◌≡◌ {A = ℕ} 0 1 = cc in absurd (omega arith)

-- ---- Granting.
module _ (s : State) {k level n a : ℕ} (g : Granting s k level n a) where
  -- where the task can be given a run, the run is free
  pub grant-free : FreeRun (pool_at s level) a n
  unfolding start_for
  grant-free =
      start-run s.holes (pool_at s level) n a (ap₂ (λ (x y : ℕ). start_of s.holes (pool_at s x) y) g.own-level g.own-units ∙ sym g.own-start) g.start

  -- the state after a grant, by the numbers that the code has in hand
  pub granted-as : with_pool (with_task s k (with_core (task_at s k) HoldsRun a)) level (pool_at s level + run a n) ≡ given_run s k
  unfolding given_run
  granted-as = rw (g.own-start, g.own-level, g.own-units)

-- a grant moves no block
pub granted-out : (s : State) (k y : ℕ) → counts y s.queues ≡ 0 → counts y (given_run s k).queues ≡ 0
unfolding given_run
granted-out s k y e = e
