-- Where the blocks of orderly tables are: each task block has a module of the directory, and stands in the queue of its place and in no other.
use mathlib.Core.Bool.{not}
use mathlib.Core.Path.{◌≡◌, sym, ap, ◌∙◌}
use mathlib.Core.Logic.{◌≢◌, ⊎_elim}
use Prim.Native.Nat.{ℕ, zero, suc, ◌+◌, ◌-◌, ◌≤◌, ◌<◌}
use native.Mathlib.Omega.{arith}
use lib.Dec.{eqb, leb, ltb}
use borrow.Author.Tests.{eq-eqb, eqb-true, leb-true, ltb-true}
use Rattle.threads.specs.Threads.{count, BLOCKS, QUEUES}
use Rattle.words.proofs.Truth.{tested, both, implied, not-eq}
use Rattle.threads.proofs.Laws.{member}
use Rattle.words.specs.Words.{standing}
use Rattle.words.proofs.Places.{under-or-from}
use Rattle.tables.specs.declared.Tables.{Tables}
use Rattle.tables.specs.declared.Task.{Task}
use Rattle.tables.specs.Blocks.{Free, HoldsRun, no_task, task_blocks, request_blocks}
use Rattle.tables.specs.State.{State, node, task_at, request_at, queue, level_of, units_of, read}
use Rattle.meaning.specs.Rules.{queue_for, blank_task, tasks_in_place, requests_in_place}
use Rattle.meaning.proofs.Parts.{task_range, request_range, task_stands, request_stands, task_clear, ranges, clears, TaskRange, task-range, task-clear, request-range}
use Rattle.threads.proofs.Tests.{all-to}
use Rattle.meaning.proofs.Blanks.{task-blank}
use Rattle.lawful.proofs.Tested.Directory.{passing}
use Rattle.lawful.proofs.Blocks.Members.{by-queue}
use Rattle.lawful.proofs.Tested.PlaceRules.{channel-others, request-placed}
use Rattle.pointers.proofs.Marks.{standing-in}
use Rattle.rules.specs.Orderly.{Orderly}
use Rattle.rules.proofs.Modules.{some-module}

module _ (t : Tables) (o : Orderly t) where
  abbrev s : State
  s = read t

  -- ---- the fields

  module _ (k : ℕ) (low : 1 ≤ k) (high : k ≤ task_blocks) where
    range : TaskRange t.directory.modules (units_of s k) (task_at s k)
    range = task-range t.directory.modules (units_of s k) (task_at s k) (all-to (task_range s) task_blocks (ranges s o.range).tasks k low high)

    free-blank : (task_at s k).place ≡ Free → task_at s k ≡ no_task
    free-blank e =
        let clear = task-clear (units_of s k) (task_at s k) (all-to (task_clear s) task_blocks (clears s o.clear).tasks k low high) in
        task-blank (task_at s k) (implied (eqb (task_at s k).place Free) (blank_task (task_at s k)) clear.free (eq-eqb _ _ e))

    used-program : (task_at s k).place ≢ Free → (task_at s k).program < t.directory.modules
    used-program n =
        ltb-true _ _ (implied (not (eqb (task_at s k).place Free)) (ltb (task_at s k).program t.directory.modules) range.program (not-eq _ _ n))

    pub run_fits : (task_at s k).core ≡ HoldsRun → (task_at s k).start + units_of s k ≤ 64
    run_fits e = leb-true _ _ (implied (eqb (task_at s k).core HoldsRun) (leb ((task_at s k).start + units_of s k) 64) range.run (eq-eqb _ _ e))

  slot-zero : task_at s 0 ≡ no_task
  slot-zero = task-blank (task_at s 0) (clears s o.clear).task

  -- every slot, and slot 0, has a module of the directory and a parent that is a block or none
  blank-program : (k : ℕ) → task_at s k ≡ no_task → (task_at s k).program < t.directory.modules
  blank-program k e = omega (arith, some-module t.directory o.directory, ap (λ (x : Task). x.program) e)

  pub program-low : (k : ℕ) → k ≤ task_blocks → (task_at s k).program < t.directory.modules
  program-low zero h = blank-program 0 slot-zero
  program-low (suc k) h =
      ⊎_elim (λ e. blank-program (suc k) (free-blank (suc k) (omega arith) h e.1)) (λ e. used-program (suc k) (omega arith) h e.1)
      (tested (task_at s (suc k)).place Free)

  pub none_above : (task_at s 0).parent ≡ 0
  none_above = ap (λ (x : Task). x.parent) slot-zero

  pub parent-low : (k : ℕ) → k ≤ task_blocks → (task_at s k).parent ≤ task_blocks
  parent-low zero h = omega (arith, none_above)
  parent-low (suc k) h = leb-true _ _ (range (suc k) (omega arith) h).parent

  pub module-low : (k : ℕ) → k ≤ task_blocks → (task_at s k).program < 32
  module-low k h = omega (arith, program-low k h, (passing t.directory o.directory).modules)

  pub level-fits : (k : ℕ) → k ≤ task_blocks → (1 ≤ level_of s k) × (level_of s k ≤ 3) × (units_of s k ≤ 64)
  level-fits k h =
      let d = passing t.directory o.directory in
      let m = (task_at s k).program in
      let low = program-low k h in
      (d.best m low, d.worst m low, d.units m low)

  pub owner-low : (r : ℕ) → 1 ≤ r → r ≤ request_blocks → (request_at s r).owner ≤ task_blocks
  owner-low r l h = leb-true _ _ (request-range (request_at s r) (all-to (request_range s) request_blocks (ranges s o.range).requests r l h)).owner

  -- ---- the queues

  -- the queue in which a task block stands is that of its place
  pub stands : (k : ℕ) → 1 ≤ k → k ≤ task_blocks → queue_for (task_at s k).place (level_of s k) ≡ standing k s.queues
  unfolding tasks_in_place
  stands k l h = sym (eqb-true _ _ (both (eqb (standing k s.queues) (queue_for (task_at s k).place (level_of s k))) _ (all-to (task_stands s) task_blocks o.tasks k l h)).0)

  pub in-queue : (q y : ℕ) → q < QUEUES → 1 ≤ count y (queue s q) → (standing y s.queues ≡ q) × (1 ≤ y) × (y ≤ BLOCKS)
  in-queue q y h c =
      let m = member s.queues o.sound.apart q h y c in
      (standing-in y s.queues q (omega (arith, o.sound.apart.nine)) (o.sound.apart.once y) c, m.0, m.1)

  -- a request block is in no queue but the last, and no task block is in that
  request-out : (q r : ℕ) → q < 8 → 1 ≤ r → r ≤ request_blocks → count (node r) (queue s q) ≡ 0
  unfolding requests_in_place
  request-out q r h a b =
      (request-placed s r o.sound.apart (all-to (request_stands s) request_blocks o.requests r a b)).0.only q (omega arith) ∙ channel-others (request_at s r).place q h

  pub tasks-of : (q y : ℕ) → q < 8 → 1 ≤ count y (queue s q) → (1 ≤ y) × (y ≤ task_blocks)
  tasks-of q y h c =
      let i = in-queue q y (omega arith) c in
      ⊎_elim (λ l. (i.1, omega arith))
      (λ l.
      let n : y ≡ node (y - 24) = omega arith in
      absurd (omega (arith, c, ap (λ (x : ℕ). count x (queue s q)) n, request-out q (y - 24) h (omega arith) (omega (arith, i.2)))))
      (under-or-from y 25)

  no-task : (y : ℕ) → 1 ≤ y → y ≤ task_blocks → standing y s.queues ≢ 8
  no-task y l h e =
      by-queue (task_at s y).place (level_of s y) 8 (stands y l h ∙ e) (omega arith) (λ a b. omega (arith, b, level-fits y h)) (λ a b. omega (arith, b, level-fits y h))
      (λ a b. omega (arith, b)) (λ a b. omega (arith, b))

  pub requests-of : (y : ℕ) → 1 ≤ count y (queue s 8) → (25 ≤ y) × (y ≤ BLOCKS)
  requests-of y c =
      let i = in-queue 8 y (omega arith) c in
      ⊎_elim (λ l. absurd (no-task y i.1 (omega arith) i.0)) (λ l. (l, i.2)) (under-or-from y 25)
