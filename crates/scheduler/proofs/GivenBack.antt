-- Laws of giving core back: the stores are the meaning's, and the level's core queue stays one of waiters.
use Rattle.std.specs.Prelude.{◌≡◌, ℕ, ◌-◌, ◌≢◌}
use mathlib.Core.Path.{refl}
use borrow.Author.Tests.{eq-eqb, ne_eqb}
use Rattle.image.specs.declared.Entry.{Entry}
use Rattle.pools.specs.Pools.{run}
use Rattle.pools.specs.Runs.{HeldRun}
use Rattle.tables.specs.declared.Task.{Task}
use Rattle.tables.specs.Blocks.{HoldsRun, GaveBack, no_task, with_core}
use Rattle.tables.specs.State.{State, with_pool, with_task, task_at, pool_at, entry_for}
use Rattle.meaning.specs.Ready.{served}
use Rattle.meaning.specs.Finish.{unseated, given_back}
use Rattle.lawful.proofs.Blocks.Sums.{field-kept}
use Rattle.scheduler.specs.Core.{Waiters, Holder}
use Rattle.scheduler.proofs.Served.{waiters-kept}

pub keeps-core : (s : State) (k : ℕ) → (task_at s k).core ≢ HoldsRun → given_back s k ≡ s
unfolding given_back
keeps-core s k n = rw (ne_eqb _ _ n)

-- by the entry that the code has in hand
module _ (s : State) (k : ℕ) {e : Entry} (h : e ≡ entry_for s k) where
  pub held-run : Holder s k → (task_at s k).core ≡ HoldsRun → HeldRun (pool_at s e.level) (task_at s k).start e.units
  held-run g c = rw h (g.granted c)

  pub unseated-as : {p : ℕ} → p ≡ pool_at s e.level - run (task_at s k).start e.units
      → with_pool (with_task s k (with_core (task_at s k) GaveBack 0)) e.level p ≡ unseated s k
  unseated-as f = rw (f, h)

  pub gives-core : (task_at s k).core ≡ HoldsRun → given_back s k ≡ served (unseated s k) e.level
  unfolding given_back
  gives-core c = rw (eq-eqb _ _ c, h)

  pub unseated-waiters : Holder s k → Waiters (unseated s k) e.level
  unseated-waiters g =
      waiters-kept s (unseated s k) e.level refl (λ y. field-kept (λ (x : Task). x.program) s.tasks k y _ no_task refl) (λ y c. c) (rw h g.waiters)
