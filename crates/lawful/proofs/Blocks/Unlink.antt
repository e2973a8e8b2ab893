-- A task loses its link: its parent, excused for having a child while it is not in LINK, has none any more. The law of one changed block.
use mathlib.Core.Bool.{cond}
use mathlib.Core.Path.{◌≡◌, refl, sym, ap, ◌∙◌}
use mathlib.Core.Logic.{◌≢◌, inl, inr, ⊎_elim}
use mathlib.Core.List.{List}
use Prim.Native.Nat.{ℕ, ◌+◌, ◌≤◌}
use native.Mathlib.Omega.{arith}
use lib.ListN.{set, get_or, length-set}
use lib.Seq.{get_or-set_same, get_or-set_other}
use Rattle.words.proofs.Truth.{tested}
use Rattle.words.specs.Words.{◌among◌}
use Rattle.image.specs.Directory.{no_entry}
use Rattle.tables.specs.declared.Task.{Task}
use Rattle.tables.specs.State.{State, time_queue, task_at, queue, level_of}
use Rattle.tables.specs.Blocks.{InLink, no_task, with_parent, task_blocks}
use Rattle.meaning.specs.Conditions.{enough}
use Rattle.meaning.specs.Rules.{queue_for}
use Rattle.meaning.specs.Finish.{unlinked}
use Rattle.lawful.specs.Shape.{Hand, place_of, Stands, holding, children, Shape}
use Rattle.words.specs.Counting.{one}
use Rattle.lawful.specs.Resting.{Rest}
use Rattle.lawful.proofs.Blocks.Change.{change, core-kept, ranked-kept}
use Rattle.lawful.proofs.Blocks.Fields.{lone-fields}
use Rattle.threads.proofs.Queues.{up_same}
use Rattle.lawful.proofs.Blocks.Sums.{field-kept, sum-set}
use Rattle.words.proofs.Counting.{one-other, one-sym}
use Rattle.lawful.proofs.Ready.Made.{stuck-same}

module _ {s : State} {h : List ℕ} {e : ℕ} (g : Shape s h e) (k : ℕ) (some : 1 ≤ k) (low : k ≤ task_blocks) (l : (task_at s k).parent ≡ e) where
  abbrev lone : Task
  lone = with_parent (task_at s k) 0

  kept : (f : Task → ℕ) → f lone ≡ f (task_at s k) → (y : ℕ) → f (task_at (unlinked s k) y) ≡ f (task_at s y)
  unfolding unlinked
  kept f c y = field-kept f s.tasks k y lone no_task c

  lone-place : (y : ℕ) → place_of (unlinked s k) h y ≡ place_of s h y
  unfolding place_of
  lone-place y = ap (λ (i : ℕ). cond (y among h) Hand i) (kept (λ t. t.place) refl y)

  lone-level : (y : ℕ) → level_of (unlinked s k) y ≡ level_of s y
  unfolding unlinked
  lone-level y = ap (λ (i : ℕ). (get_or s.directory.entries i no_entry).level) (kept (λ t. t.program) refl y)

  lone_same : task_at (unlinked s k) k ≡ lone
  unfolding unlinked
  lone_same = get_or-set_same s.tasks k lone no_task (omega (arith, g.sizes.tasks))

  pub lone-other : (y : ℕ) → y ≢ k → task_at (unlinked s k) y ≡ task_at s y
  unfolding unlinked
  lone-other y d = get_or-set_other s.tasks k y lone no_task d

  lone-own : Stands (unlinked s k) (place_of (unlinked s k) h k) k
  unfolding unlinked
  lone-own =
      let w = g.tasks k some low in
      rw (lone-place k) (record {
        fields = rw lone_same (lone-fields w.fields);
        queued = λ q n. w.queued q n ∙ sym (ap (λ (b : ℕ). one (queue_for (place_of s h k) b) q) (lone-level k));
        runs = w.runs;
        free_tasks = w.free_tasks;
        checks = λ p. rw (kept (λ t. t.request) refl k) (w.checks p);
        ends = w.ends;
        since = rw (kept (λ t. t.since) refl k) w.since;
      })

  lone-links : (y : ℕ) → 1 ≤ y → y ≤ task_blocks → children (unlinked s k).tasks y ≡ one (place_of (unlinked s k) h y) InLink + one y 0
  unfolding unlinked
  lone-links y a b =
      omega (
        arith,
        sum-set (λ t. one t.parent y) s.tasks k lone no_task (omega (arith, g.sizes.tasks)),
        one-other 0 y (λ z. omega (arith, z, a)),
        one-other y 0 (λ z. omega (arith, z, a)),
        one-sym (task_at s k).parent y ∙ ap (one y) l,
        g.links y a b,
        ap (λ (x : ℕ). one x InLink) (lone-place y),
      )

  pub unlink : Shape (unlinked s k) h 0
  unfolding unlinked holding
  unlink =
      change s k (set s.tasks k lone) s.running s.free_tasks s.pools s.queues g (record {
        some = some;
        low = low;
        own = lone-own;
        owner = λ j a b m z. (λ w. (g.requests j a b).owned m (ap (place_of s h) z ∙ sym (lone-place k) ∙ w), lone-level k);
        blocks = lone-other;
        hands = λ y d. refl;
        queues = λ q y d. refl;
        runs = λ y a d. refl;
        free_tasks = λ y d. refl;
        long = length-set s.tasks k lone ∙ g.sizes.tasks;
        nine = g.sizes.queues;
        four = g.sizes.pools;
        running = g.blank.running;
        tasks_free = g.blank.free_tasks;
        pool = g.blank.pool;
        core = core-kept k lone g.core (λ level u. refl);
        links = lone-links;
        ranked =
            ranked-kept g.ranked (λ y b.
            ⊎_elim (λ z. inr (ap (λ (x : ℕ). (task_at (unlinked s k) x).parent) z.1 ∙ ap (λ (t : Task). t.parent) lone_same))
            (λ z. inl (ap (λ (t : Task). t.parent) (lone-other y z.1))) (tested y k));
        timed = up_same _ (λ a. (task_at s a).time) (queue s time_queue) (λ y c. kept (λ t. t.time) refl y) ∙ g.timed;
        channel = refl;
      })

  -- the rules of rest do not ask for parents
  pub unlink-rest : {m : List ℕ} → Rest s m → Rest (unlinked s k) m
  unfolding unlinked enough
  unlink-rest r =
      record {
        asleep = record { asleep = λ y c n. rw (kept (λ t. t.count) refl y, kept (λ t. t.events) refl y) (r.asleep.asleep y c n) };
        stuck = λ level lo hi. stuck-same {s = s} refl refl (λ y. ap (λ (i : ℕ). (get_or s.directory.entries i no_entry).units) (kept (λ t. t.program) refl y)) (r.stuck level lo hi);
        flowing = record { flowing = r.flowing.flowing };
      }
