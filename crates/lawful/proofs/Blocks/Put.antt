-- A task block goes from the hand to a place, as any block x that is the same task. The law of one changed block, where core and link stay.
use mathlib.Core.Bool.{true, false, cond}
use mathlib.Core.Path.{◌≡◌, refl, sym, ap, ap₂, ◌∙◌}
use mathlib.Core.Logic.{◌≢◌, inl, ⊎_elim}
use mathlib.Core.List.{List, [], ◌∷◌}
use Prim.Native.Nat.{ℕ, ◌+◌, ◌≤◌, ◌<◌}
use native.Mathlib.Omega.{arith}
use lib.ListN.{length, set, get_or, length-set}
use lib.Seq.{get_or-set_same, get_or-set_other}
use Rattle.threads.specs.Threads.{count, QUEUES}
use Rattle.words.proofs.Truth.{tested}
use Rattle.words.specs.Words.{◌among◌, up_by}
use Rattle.image.specs.Directory.{no_entry}
use Rattle.tables.specs.declared.Task.{Task}
use Rattle.tables.specs.State.{State, time_queue, channel_queue, with_running, with_task, with_queues, task_at, queue, level_of}
use Rattle.tables.specs.Blocks.{Free, Running, InLink, InCheck, Ending, no_task, since_in, task_blocks}
use Rattle.tables.proofs.Readings.{since-low}
use Rattle.meaning.specs.Rules.{queue_for}
use Rattle.lawful.specs.Shape.{Hand, place_of, Fields, Pending, Stands, holding, children, Shape}
use Rattle.words.specs.Counting.{one}
use Rattle.lawful.proofs.Blocks.Change.{change, past-hand, core-kept, ranked-kept}
use Rattle.lawful.proofs.Blocks.Fields.{SameTask}
use Rattle.lawful.proofs.Blocks.Sums.{field-kept, sum_kept}
use Rattle.lawful.proofs.Blocks.Shape.{held_place, other_place, out-place}
use Rattle.words.proofs.Counting.{one-other}

-- ---- A task block put into a place.
module _ (s : State) (k : ℕ) (x : Task) where
  abbrev pub putting : List (List ℕ) → ℕ → State
  putting l r = with_queues (with_running (with_task s k x) r) l

  -- what is asked of the block x, of the queues l that come of it, and of the number r of the task that runs
  pub record Puts (l : List (List ℕ)) (r : ℕ) (h : List ℕ) (e e' : ℕ) : Type 0 where
    pub some : 1 ≤ k
    pub low : k ≤ task_blocks
    pub out : k among h ≡ false
    pub same : SameTask (task_at s k) x
    pub used : 1 ≤ x.place
    pub fields : Fields s.directory x.place x
    pub nine : length l ≡ QUEUES
    pub others : (q y : ℕ) → y ≢ k → count y (get_or l q []) ≡ count y (queue s q)
    pub own : (q : ℕ) → q < QUEUES → count k (get_or l q []) ≡ one (queue_for x.place (level_of s k)) q
    pub bound : r ≤ task_blocks
    pub runs : one r k ≡ one x.place Running
    pub run-others : (y : ℕ) → 1 ≤ y → y ≢ k → one r y ≡ one s.running y
    pub checks : x.place ≡ InCheck → Pending s.requests k x.request
    pub ends : x.place ≡ Ending → (i : ℕ) × Pending s.requests k i
    pub since : x.since ≡ since_in s.clock x.place
    pub links : one x.place InLink + one k e' ≡ one k e
    pub link-others : (y : ℕ) → 1 ≤ y → y ≢ k → one y e' ≡ one y e
    pub timed : up_by (λ a. (task_at (putting l r) a).time) (get_or l time_queue []) ≡ true
    pub channel : get_or l channel_queue [] ≡ queue s channel_queue

  module _ {l : List (List ℕ)} {r : ℕ} {h : List ℕ} {e e' : ℕ} (g : Shape s (k ∷ h) e) (u : Puts l r h e e') where
    pub put_same : task_at (putting l r) k ≡ x
    put_same = get_or-set_same s.tasks k x no_task (omega (arith, g.sizes.tasks, u.low))

    pub put_other : (y : ℕ) → y ≢ k → task_at (putting l r) y ≡ task_at s y
    put_other y d = get_or-set_other s.tasks k y x no_task d

    place_same : place_of (putting l r) h k ≡ x.place
    place_same = out-place (putting l r) h k u.out ∙ ap (λ (t : Task). t.place) put_same

    place_other : (y : ℕ) → y ≢ k → place_of (putting l r) h y ≡ place_of s (k ∷ h) y
    unfolding place_of
    place_other y d = ap (λ (t : Task). cond (y among h) Hand t.place) (put_other y d) ∙ sym (other_place s h k y d)

    kept : (f : Task → ℕ) → f x ≡ f (task_at s k) → (y : ℕ) → f (task_at (putting l r) y) ≡ f (task_at s y)
    kept f c y = field-kept f s.tasks k y x no_task c

    pub put-level : (y : ℕ) → level_of (putting l r) y ≡ level_of s y
    put-level y = ap (λ (i : ℕ). (get_or s.directory.entries i no_entry).level) (kept (λ t. t.program) (ap (λ (t : Task). t.program) u.same) y)

    -- the block stands in its place
    put-own : Stands (putting l r) (place_of (putting l r) h k) k
    put-own =
        rw place_same (record {
          fields = rw put_same u.fields;
          queued = λ q z. u.own q z ∙ sym (ap (λ (i : ℕ). one (queue_for x.place i) q) (put-level k));
          runs = u.runs;
          free_tasks =
              (g.tasks k u.some u.low).free_tasks ∙ ap (λ (i : ℕ). one i Free) (held_place s h k)
              ∙ one-other Hand Free (λ z. omega (arith, z)) ∙ sym (one-other x.place Free (λ z. omega (arith, z, u.used)));
          checks = λ z. rw put_same (u.checks z);
          ends = u.ends;
          since = rw (put_same, u.since) (since-low s.clock x.place);
        })

    put-links : (y : ℕ) → 1 ≤ y → y ≤ task_blocks → children (set s.tasks k x) y ≡ one (place_of (putting l r) h y) InLink + one y e'
    put-links y a b =
        sum_kept (λ (t : Task). one t.parent y) s.tasks k x no_task (ap (λ (t : Task). one t.parent y) u.same)
        ∙ ⊎_elim
        (λ c. ap (children s.tasks) c.1 ∙ g.links k u.some u.low
        ∙ rw (c.1, place_same, held_place s h k) (omega (arith, u.links, one-other Hand InLink (λ z. omega (arith, z)))))
        (λ c. g.links y a b ∙ sym (ap₂ (λ (i j : ℕ). one i InLink + j) (place_other y c.1) (u.link-others y a c.1)))
        (tested y k)

    -- the law
    pub put : Shape (putting l r) h e'
    unfolding holding
    put =
        change s k (set s.tasks k x) r s.free_tasks s.pools l g (record {
          some = u.some;
          low = u.low;
          own = put-own;
          owner = λ j a b m z. (λ w. omega (arith, u.used, sym place_same ∙ w), put-level k);
          blocks = put_other;
          hands = λ y d. sym (past-hand k y h d);
          queues = u.others;
          runs = u.run-others;
          free_tasks = λ y d. refl;
          long = length-set s.tasks k x ∙ g.sizes.tasks;
          nine = u.nine;
          four = g.sizes.pools;
          running = u.bound;
          tasks_free = g.blank.free_tasks;
          pool = g.blank.pool;
          core = core-kept k x g.core (λ level i. ap (holding s.directory level i) u.same);
          links = put-links;
          ranked = ranked-kept g.ranked (λ y b. inl (kept (λ t. t.parent) (ap (λ (t : Task). t.parent) u.same) y));
          timed = u.timed;
          channel = u.channel;
        })
