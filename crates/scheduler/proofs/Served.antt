-- Laws of serving a core queue: what seating the first of it leaves, and the loop's invariant, `Turn`.
use Rattle.std.specs.Prelude.{Some, None, ◌≡◌, ℕ, ◌<◌, ◌≤◌, true, false, ◌≢◌, List, [], ◌∷◌, length}
use mathlib.Core.Path.{refl, sym, ap, ap₂, ◌∙◌}
use mathlib.Core.List.{tail}
use native.Mathlib.Omega.{arith}
use lib.Seq.{get_or-set_same, get_or-set_other}
use Rattle.threads.specs.Threads.{hd, count, without, Sound, Member, QUEUES}
use Rattle.threads.proofs.Lists.{count-nil, count-append, count-hit, without_at}
use Rattle.tables.proofs.Held.{first-split, first-empty, first_member, queues-nine}
use Rattle.image.specs.declared.Directory.{Directory}
use Rattle.image.specs.Directory.{entry_at}
use Rattle.tables.specs.declared.Task.{Task}
use Rattle.tables.specs.declared.Tables.{Tables}
use Rattle.tables.specs.Blocks.{Ready, no_task}
use Rattle.tables.specs.State.{State, core_queue, task_at, pool_at, queue, level_of, units_of, joining, leaving, read}
use Rattle.tables.specs.Held.{Shows}
use Rattle.meaning.specs.Ready.{placed, start_for, fits, given_run, readied, seated, serving, served}
use Rattle.pools.specs.Pools.{long_enough, start_of}
use Rattle.pools.specs.Find.{found_of}
use Rattle.pools.proofs.Starts.{at-start, at_long, nowhere-long}
use Rattle.lawful.proofs.Blocks.Sums.{field-kept}
use Rattle.scheduler.specs.Core.{Waiter, Waiters}
use Rattle.lawful.proofs.Chained.Framed.{given-level}

pub seated-as : (s : State) (q k : ℕ) → joining (placed (given_run (leaving s q k) k) k Ready) (level_of s k) k ≡ seated s q k
unfolding seated readied
seated-as s q k = rw (given-level (leaving s q k) k)

-- a block that leaves a queue has the same start
pub moved-start : (s : State) (q k : ℕ) {a : ℕ} → a ≡ start_for s k → a ≡ start_for (leaving s q k) k
unfolding start_for
moved-start s q k e = e

-- where directory and modules stay, and no other block comes to wait, the waiters are waiters
pub waiters-kept : (s u : State) (level : ℕ) → u.directory ≡ s.directory → ((y : ℕ) → (task_at u y).program ≡ (task_at s y).program)
    → ((y : ℕ) → 1 ≤ count y (queue u (core_queue level)) → 1 ≤ count y (queue s (core_queue level)))
    → Waiters s level → Waiters u level
waiters-kept s u level d p c w =
    record {
      best = w.best;
      worst = w.worst;
      each = λ y h.
          let v = w.each y (c y h) in
          record {
            some = v.some;
            low = v.low;
            program = rw (p y) v.program;
            own = ap₂ (λ (x : Directory) (m : ℕ). (entry_at x m).level) d (p y) ∙ v.own;
          };
    }

module _ (s : State) (q k : ℕ) where
  program-kept : (y : ℕ) → (task_at (seated s q k) y).program ≡ (task_at s y).program
  unfolding seated readied given_run
  program-kept y =
      field-kept (λ (x : Task). x.program) (given_run (leaving s q k) k).tasks k y _ no_task refl ∙ field-kept (λ (x : Task). x.program) s.tasks k y _ no_task refl

  directory-kept : (seated s q k).directory ≡ s.directory
  unfolding seated readied given_run
  directory-kept = refl

module _ (s : State) (level k : ℕ) (l : List ℕ) (nine : length s.queues ≡ QUEUES) (w : Waiters s level) (e : queue s (core_queue level) ≡ k ∷ l) where
  front : Waiter s level k
  front = w.each k (rw e (omega (arith, count-hit k k l refl)))

  pub seated-queue : queue (seated s (core_queue level) k) (core_queue level) ≡ l
  unfolding given_run
  seated-queue =
      let o = front.own in
      let d : core_queue level ≢ level_of s k = λ z. (omega (arith, z, o)) in
      ap (λ (x : State). queue x (core_queue level)) (sym (seated-as s (core_queue level) k))
      ∙ get_or-set_other (given_run (leaving s (core_queue level) k) k).queues (level_of s k) (core_queue level) _ [] d
      ∙ get_or-set_same s.queues (core_queue level) _ [] (omega (arith, nine, w.worst))
      ∙ ap (without k) e ∙ without_at k [] l (count-nil k)

  pub seated-waiters : Waiters (seated s (core_queue level) k) level
  seated-waiters =
      waiters-kept s (seated s (core_queue level) k) level (directory-kept s (core_queue level) k) (program-kept s (core_queue level) k)
      (λ y h. let c = rw seated-queue at h in rw e (omega (arith, c, count-append y (k ∷ []) l))) w

  pub serves : fits s k ≡ true → served s level ≡ served (seated s (core_queue level) k) level
  unfolding served serving
  serves f =
      ap (λ (m : List ℕ). serving (core_queue level) m s) e
      ∙ rw f (ap (λ (m : List ℕ). serving (core_queue level) m (seated s (core_queue level) k)) (sym seated-queue))

  pub stops : fits s k ≡ false → served s level ≡ s
  unfolding served serving
  stops f = ap (λ (m : List ℕ). serving (core_queue level) m s) e ∙ rw f

pub serves-none : (s : State) (level : ℕ) → queue s (core_queue level) ≡ [] → served s level ≡ s
unfolding served serving
serves-none s level e = ap (λ (m : List ℕ). serving (core_queue level) m s) e

-- ---- The loop: u is what t has become, k the first that still waits.
pub record Turn (t : Tables) (level : ℕ) (u : Tables) (k : ℕ) : Type 0 where
  pub sound : Sound u.threads
  pub waiters : Waiters (read u) level
  pub first : k ≡ hd (queue (read u) (core_queue level))
  pub same : served (read u) level ≡ served (read t) level

pub turn-start : {t : Tables} {level k : ℕ} → Sound t.threads × Waiters (read t) level → k ≡ hd (queue (read t) (core_queue level)) → Turn t level t k
turn-start p e = record { sound = p.0; waiters = p.1; first = e; same = refl }

module _ {t : Tables} {level : ℕ} {u : Tables} {k : ℕ} (i : Turn t level u k) where
  pub turn_end : k ≡ 0 → Shows u (served (read t) level)
  turn_end z =
      let e = first-empty i.sound (omega (arith, i.waiters.worst)) (sym i.first ∙ z) in
      record { sound = i.sound; reads = sym (serves-none (read u) level e) ∙ i.same }

  module _ (n : k ≢ 0) where
    split : queue (read u) (core_queue level) ≡ k ∷ tail (queue (read u) (core_queue level))
    split = first-split _ i.first n

    nine : length (read u).queues ≡ QUEUES
    nine = queues-nine i.sound

    pub turn-waiter : Waiter (read u) level k
    turn-waiter = front (read u) level k _ nine i.waiters split

    pub turn-member : Member u.threads (core_queue level) k
    turn-member = first_member i.sound (omega (arith, i.waiters.worst)) i.first n

    -- what the search gives is the start of the first
    pub turn_at : {m a : ℕ} → m ≡ units_of (read u) k → found_of u.holes (pool_at (read u) level) m ≡ Some a → (a ≡ start_for (read u) k) × (a < 64)
    unfolding start_for
    turn_at {m} {a} e f =
        let h = at-start u.holes (pool_at (read u) level) m a f in
        (sym h.0 ∙ ap₂ (λ (x y : ℕ). start_of u.holes (pool_at (read u) x) y) (sym turn-waiter.own) e, h.1)

    -- and a free run is long enough for the first, or none is
    turn-long : {m : ℕ} → m ≡ units_of (read u) k → fits (read u) k ≡ long_enough (pool_at (read u) level) m
    unfolding fits
    turn-long {m} e = ap₂ (λ (x y : ℕ). long_enough (pool_at (read u) x) y) turn-waiter.own (sym e)

    pub turn-fits : {m a : ℕ} → m ≡ units_of (read u) k → found_of u.holes (pool_at (read u) level) m ≡ Some a → fits (read u) k ≡ true
    turn-fits {m} {a} e f = turn-long e ∙ at_long u.holes (pool_at (read u) level) m a f

    turn-full : {m : ℕ} → m ≡ units_of (read u) k → found_of u.holes (pool_at (read u) level) m ≡ None → fits (read u) k ≡ false
    turn-full {m} e f = turn-long e ∙ nowhere-long u.holes (pool_at (read u) level) m f

    pub turn-stop : {m : ℕ} → m ≡ units_of (read u) k → found_of u.holes (pool_at (read u) level) m ≡ None → Shows u (served (read t) level)
    turn-stop e f = record { sound = i.sound; reads = sym (stops (read u) level k _ nine i.waiters split (turn-full e f)) ∙ i.same }

    module _ {v : Tables} (h : Shows v (seated (read u) (core_queue level) k)) where
      pub turn-next : {j : ℕ} → fits (read u) k ≡ true → j ≡ hd (queue (read v) (core_queue level)) → Turn t level v j
      turn-next f e =
          record {
            sound = h.sound;
            waiters = rw h.reads (seated-waiters (read u) level k _ nine i.waiters split);
            first = e;
            same = rw h.reads (sym (serves (read u) level k _ nine i.waiters split f) ∙ i.same);
          }

      pub turn-less : length (queue (read v) (core_queue level)) < length (queue (read u) (core_queue level))
      turn-less =
          omega (
            arith,
            ap length (ap (λ (s : State). queue s (core_queue level)) h.reads ∙ seated-queue (read u) level k _ nine i.waiters split),
            ap length split,
          )
