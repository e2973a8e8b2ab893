-- Document 02, E8, of one call that is checked by hand: an operator start of a module with units, where nobody waits for core of its level and a free run is long enough. The
-- new task has its run from the start that the rule gives in the pool as it was before the call. By the definitions of the call, of making ready and of a grant.
use mathlib.Core.Bool.{true}
use mathlib.Core.Path.{◌≡◌, refl, ap, ◌∙◌}
use mathlib.Core.Logic.{⊎_elim}
use mathlib.Core.List.{List, []}
use Prim.Native.Nat.{ℕ, ◌≤◌, ◌<◌}
use native.Mathlib.Omega.{arith}
use lib.ListN.{length, set, get_or, length-set}
use lib.Seq.{get_or-set_same}
use borrow.Author.Tests.{lt-ltb}
use Rattle.words.specs.Words.{least, ◌among◌}
use Rattle.words.proofs.Free.{least-low}
use Rattle.answers.specs.Answer.{Accepted}
use Rattle.image.specs.declared.Entry.{Entry}
use Rattle.image.specs.Directory.{no_entry}
use Rattle.pools.specs.Pools.{long_enough, start_of}
use Rattle.tables.specs.declared.Task.{Task}
use Rattle.tables.specs.declared.Tables.{Tables}
use Rattle.tables.specs.Blocks.{Ready, NotGranted, HoldsRun, no_task, new_task, with_core, moving}
use Rattle.tables.specs.State.{State, core_queue, task_at, pool_at, queue, entry_for, level_of, units_of, read}
use Rattle.calls.specs.declared.Call.{Call}
use Rattle.calls.specs.Calls.{OPERATOR-START, call_of}
use Rattle.meaning.specs.Ready.{fits, start_for, needs_core, given_run, readied, made_ready, dispatched}
use Rattle.meaning.specs.Services.{created, operator_start, deeds, deed_of, effect}
use Rattle.meaning.specs.Step.{accepted, step_of}
use Rattle.meaning.proofs.Deeds.{deed-at}
use Rattle.lawful.specs.Tables.{LawfulTables}
use Rattle.lawful.proofs.Blocks.Sums.{field-kept}
use Rattle.lawful.proofs.Tested.Accepted.{accepts, rows_left}
use Rattle.lawful.proofs.Told.Ends.{step-ends, step-outcome, accepted-where}
use Rattle.lawful.proofs.Told.Pages.{dispatched-same}

-- ---- A task that needs core is made ready where nobody waits and it fits: it has its run.
module _ (s : State) (k : ℕ) where
  needing : 1 ≤ units_of s k → (task_at s k).core ≡ NotGranted → needs_core s k ≡ true
  unfolding needs_core
  needing l e = rw (lt-ltb 0 (units_of s k) l, e)

  seats : needs_core s k ≡ true → queue s (core_queue (level_of s k)) ≡ [] → fits s k ≡ true → made_ready s k ≡ readied (given_run s k) k
  unfolding made_ready
  seats n q f = rw (n, q, f)

  seated : k < length s.tasks → ((task_at (readied (given_run s k) k) k).core ≡ HoldsRun) × ((task_at (readied (given_run s k) k) k).start ≡ start_for s k)
  unfolding readied given_run
  seated l = (kept (λ t. t.core) refl ∙ ap (λ (t : Task). t.core) has, kept (λ t. t.start) refl ∙ ap (λ (t : Task). t.start) has)
    where
      given : List Task
      given = set s.tasks k (with_core (task_at s k) HoldsRun (start_for s k))

      has : get_or given k no_task ≡ with_core (task_at s k) HoldsRun (start_for s k)
      has = get_or-set_same s.tasks k _ no_task l

      kept : (f : Task → ℕ) → f (moving s.clock (get_or given k no_task) Ready) ≡ f (get_or given k no_task)
          → f (get_or (set given k (moving s.clock (get_or given k no_task) Ready)) k no_task) ≡ f (get_or given k no_task)
      kept f e = field-kept f given k k (moving s.clock (get_or given k no_task) Ready) no_task e

-- ---- The task that an operator start makes.
module _ (s : State) (m : ℕ) (room : least s.free_tasks < length s.tasks) where
  abbrev k : ℕ
  k = least s.free_tasks

  abbrev made : State
  made = created s k m 0

  abbrev entry : Entry
  entry = get_or s.directory.entries m no_entry

  own : task_at made k ≡ new_task m 0
  unfolding created
  own = get_or-set_same s.tasks k (new_task m 0) no_task room

  own-entry : entry_for made k ≡ entry
  unfolding created
  own-entry = ap (λ (t : Task). get_or s.directory.entries t.program no_entry) own

  own-start : start_for made k ≡ start_of s.holes (pool_at s entry.level) entry.units
  unfolding start_for created
  own-start = ap (λ (e : Entry). start_of s.holes (pool_at s e.level) e.units) own-entry

  starts-at : 1 ≤ entry.units → queue s (core_queue entry.level) ≡ [] → long_enough (pool_at s entry.level) entry.units ≡ true
      → ((task_at (made_ready made k) k).core ≡ HoldsRun) × ((task_at (made_ready made k) k).start ≡ start_of s.holes (pool_at s entry.level) entry.units)
  unfolding fits created
  starts-at units alone long =
      let n = needing made k (omega (arith, units, ap (λ (e : Entry). e.units) own-entry)) (ap (λ (t : Task). t.core) own) in
      let q = ap (λ (e : Entry). queue s (core_queue e.level)) own-entry ∙ alone in
      let f = ap (λ (e : Entry). long_enough (pool_at s e.level) e.units) own-entry ∙ long in
      let r = seated made k (omega (arith, room, length-set s.tasks k (new_task m 0))) in
      rw (seats made k n q f) (r.0, r.1 ∙ own-start)

-- ---- The call, and its dispatch.
start-does : (s : State) (c : Call) → c.code ≡ OPERATOR-START → effect s c ≡ operator_start s c
unfolding deeds deed_of
start-does s c e = deed-at s c OPERATOR-START e

started : (s : State) (c : Call) → c.code ≡ OPERATOR-START → (room : least s.free_tasks < length s.tasks)
    → 1 ≤ (entry s c.number room).units → queue s (core_queue (entry s c.number room).level) ≡ []
    → long_enough (pool_at s (entry s c.number room).level) (entry s c.number room).units ≡ true
    → ((task_at (dispatched (effect s c).state) (effect s c).result).core ≡ HoldsRun)
    × ((task_at (dispatched (effect s c).state) (effect s c).result).start ≡ start_of s.holes (pool_at s (entry s c.number room).level) (entry s c.number room).units)
unfolding operator_start
started s c e room units alone long =
    let r = starts-at s c.number room units alone long in
    let d = (dispatched-same {y = least s.free_tasks} (made_ready (made s c.number room) (least s.free_tasks))).same in
    rw (start-does s c e) (ap (λ (t : Task). t.core) d ∙ r.0, ap (λ (t : Task). t.start) d ∙ r.1)

module _ (t : Tables) (bytes : List ℕ) (g : LawfulTables t) where
  abbrev module-of : Entry
  module-of = get_or t.directory.entries (call_of bytes).number no_entry

  pub step-starts : (call_of bytes).code ≡ OPERATOR-START → (r : ℕ) → (step_of t bytes).outcome ≡ Accepted r
      → 1 ≤ module-of.units → queue (read t) (core_queue module-of.level) ≡ [] → long_enough (pool_at (read t) module-of.level) module-of.units ≡ true
      → ((task_at (read (step_of t bytes).tables) r).core ≡ HoldsRun)
      × ((task_at (read (step_of t bytes).tables) r).start ≡ start_of t.holes (pool_at (read t) module-of.level) module-of.units)
  unfolding accepted ◌among◌
  step-starts code r e units alone long =
      let w = (accepted-where (step-outcome t bytes) r).0 e in
      ⊎_elim (λ z. absurd (z.0 w.0))
      (λ z.
      let a = accepts (read t) (call_of bytes) (rows_left t bytes z.0).rows g.state in
      let b = g.state.shape.blank in
      let low = least-low t.free_tasks 25 (omega arith) b.free_tasks (a.block (rw code)) b.free_tasks-none in
      rw (z.1, ← w.1)
      (started (read t) (call_of bytes) code (omega (arith, low, g.state.shape.sizes.tasks)) units alone long))
      (step-ends t bytes)
