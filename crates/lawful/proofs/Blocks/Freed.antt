-- A task block in hand is freed, where it has no core and no request; its parent, excused until then, has no child any more. The law of one changed block.
use mathlib.Core.Bool.{cond}
use mathlib.Core.Path.{◌≡◌, refl, sym, ap, ◌∙◌}
use mathlib.Core.Logic.{◌≢◌, inl, inr, ⊎_elim}
use mathlib.Core.List.{List, ◌∷◌}
use Prim.Native.Nat.{ℕ, ◌+◌, ◌≤◌}
use native.Mathlib.Omega.{arith}
use lib.ListN.{set, length-set}
use lib.Seq.{get_or-set_same, get_or-set_other}
use Rattle.words.proofs.Truth.{tested}
use Rattle.words.specs.Words.{◌among◌, adding}
use Rattle.words.proofs.Changes.{adding-low}
use Rattle.tables.specs.declared.Task.{Task}
use Rattle.tables.specs.State.{State, with_free_tasks, with_task, task_at, request_at}
use Rattle.tables.specs.Blocks.{Free, Running, InLink, no_task, task_blocks, request_blocks}
use Rattle.meaning.specs.Finish.{freed_task}
use Rattle.meaning.specs.Rules.{queue_for}
use Rattle.lawful.specs.Shape.{Hand, place_of, Stands, children, Shape, InHand}
use Rattle.words.specs.Counting.{one}
use Rattle.lawful.specs.Resting.{Rest}
use Rattle.lawful.proofs.Blocks.Change.{change, past-hand, core-kept, ranked-kept}
use Rattle.lawful.proofs.Blocks.Fields.{free-fields}
use Rattle.lawful.proofs.Blocks.Sums.{sum-set}
use Rattle.lawful.proofs.Blocks.Shape.{held_place, other_place, out-place}
use Rattle.words.proofs.Counting.{one_same, one-other, one-sym}
use Rattle.lawful.proofs.Blocks.Cored.{holding-none}
use Rattle.words.proofs.Free.{added-same, added-other}
use Rattle.lawful.proofs.Blocks.Enter.{hand-count, hand-runs, hand-timed}
use Rattle.lawful.proofs.Ready.Resting.{rest-alone}

module _ {s : State} {k : ℕ} {h : List ℕ} {e : ℕ} (i : InHand s k h e) (coreless : (task_at s k).core ≢ 1)
    (ownerless : (r : ℕ) → 1 ≤ r → r ≤ request_blocks → 1 ≤ (request_at s r).place → (request_at s r).owner ≢ k) (link : (task_at s k).parent ≡ e) where
  abbrev freed : State
  freed = with_task (with_free_tasks s (adding s.free_tasks k)) k no_task

  g : Shape s (k ∷ h) e
  g = i.shape

  same : task_at freed k ≡ no_task
  same = get_or-set_same s.tasks k no_task no_task (omega (arith, g.sizes.tasks, i.low))

  other : (y : ℕ) → y ≢ k → task_at freed y ≡ task_at s y
  other y d = get_or-set_other s.tasks k y no_task no_task d

  place_same : place_of freed h k ≡ Free
  place_same = out-place freed h k i.out ∙ ap (λ (t : Task). t.place) same

  place_other : (y : ℕ) → y ≢ k → place_of freed h y ≡ place_of s (k ∷ h) y
  unfolding place_of
  place_other y d = ap (λ (t : Task). cond (y among h) Hand t.place) (other y d) ∙ sym (other_place s h k y d)

  own : Stands freed (place_of freed h k) k
  unfolding queue_for
  own =
      rw place_same (record {
        fields = rw same (free-fields s.directory);
        queued = λ q l. hand-count i q l ∙ sym (one-other 9 q (λ z. omega (arith, z, l)));
        runs = hand-runs i ∙ sym (one-other Free Running (λ z. omega (arith, z)));
        free_tasks = added-same s.free_tasks k ∙ sym (one_same Free Free refl);
        checks = λ z. absurd (omega (arith, z));
        ends = λ z. absurd (omega (arith, z));
        since = omega (arith, ap (λ (t : Task). t.since) same);
      })

  links : (y : ℕ) → 1 ≤ y → y ≤ task_blocks → children (set s.tasks k no_task) y ≡ one (place_of freed h y) InLink + one y 0
  links y a b =
      let c = sum-set (λ t. one t.parent y) s.tasks k no_task no_task (omega (arith, g.sizes.tasks, i.low)) in
      let d = one-other 0 y (λ z. omega (arith, z, a)) in
      let d' = one-other y 0 (λ z. omega (arith, z, a)) in
      let f = one-sym (task_at s k).parent y ∙ ap (one y) link in
      let l = g.links y a b in
      ⊎_elim
      (λ z. omega (arith, c, d, d', f, l, ap (λ (x : ℕ). one x InLink) (ap (place_of s (k ∷ h)) z.1 ∙ held_place s h k), one-other Hand InLink (λ z. omega (arith, z)), ap (λ (x : ℕ). one x InLink) (ap (place_of freed h) z.1 ∙ place_same), one-other Free InLink (λ z. omega (arith, z))))
      (λ z. omega (arith, c, d, d', f, l, ap (λ (x : ℕ). one x InLink) (place_other y z.1)))
      (tested y k)

  make : Shape freed h 0
  make =
      change s k (set s.tasks k no_task) s.running (adding s.free_tasks k) s.pools s.queues g (record {
        some = i.some;
        low = i.low;
        own = own;
        owner = λ j a b m z. absurd (ownerless j a b m z);
        blocks = other;
        hands = λ y d. sym (past-hand k y h d);
        queues = λ q y d. refl;
        runs = λ y a d. refl;
        free_tasks = λ y d. added-other s.free_tasks k y d;
        long = length-set s.tasks k no_task ∙ g.sizes.tasks;
        nine = g.sizes.queues;
        four = g.sizes.pools;
        running = g.blank.running;
        tasks_free = adding-low 25 s.free_tasks k g.blank.free_tasks (omega (arith, i.low));
        pool = g.blank.pool;
        core =
            core-kept k no_task g.core (λ level u.
            holding-none s.directory level u no_task (λ z. omega (arith, z)) ∙ sym (holding-none s.directory level u (task_at s k) coreless));
        links = links;
        ranked =
            ranked-kept g.ranked (λ y b.
            ⊎_elim (λ z. inr (ap (λ (x : ℕ). (task_at freed x).parent) z.1 ∙ ap (λ (t : Task). t.parent) same))
            (λ z. inl (ap (λ (t : Task). t.parent) (other y z.1))) (tested y k));
        timed = hand-timed i no_task;
        channel = refl;
      })

  pub free-task : Shape (freed_task s k) h 0
  unfolding freed_task
  free-task = make

  pub free-rest : {m : List ℕ} → Rest s m → Rest (freed_task s k) m
  unfolding freed_task
  free-rest r =
      rest-alone {s = s} {k = k} refl refl refl refl refl other (hand-count i) r
