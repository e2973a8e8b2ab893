-- A task is made in a free block, which is then in hand; its parent is excused for having a child while it is not in LINK. The law of one changed block;
-- the child's rank is one above its parent's.
use mathlib.Core.Bool.{cond}
use mathlib.Core.Path.{◌≡◌, refl, sym, ap, ◌∙◌}
use mathlib.Core.Logic.{◌≢◌, inr, ⊎_elim}
use mathlib.Core.List.{List, ◌∷◌}
use Prim.Native.Nat.{ℕ, suc, ◌+◌, ◌≤◌, ◌<◌}
use native.Mathlib.Omega.{arith}
use lib.ListN.{set, length-set}
use lib.Seq.{get_or-set_same, get_or-set_other}
use lib.Dec.{eqb}
use borrow.Author.Tests.{eq-eqb, ne_eqb}
use Rattle.threads.specs.Threads.{count, QUEUES}
use Rattle.words.proofs.Truth.{tested}
use Rattle.words.specs.Words.{◌among◌, dropping}
use Rattle.words.proofs.Changes.{dropping-low}
use Rattle.tables.specs.declared.Task.{Task}
use Rattle.tables.specs.State.{State, time_queue, with_free_tasks, with_task, task_at, queue, level_of}
use Rattle.tables.specs.Blocks.{Free, Running, InLink, no_task, new_task, task_blocks}
use Rattle.meaning.specs.Services.{created}
use Rattle.meaning.specs.Rules.{queue_for}
use Rattle.lawful.specs.Shape.{Hand, place_of, Stands, children, Shape, InHand}
use Rattle.words.specs.Counting.{one, bit}
use Rattle.lawful.proofs.Blocks.Change.{change, past-hand, core-kept}
use Rattle.lawful.proofs.Blocks.Fields.{new-fields}
use Rattle.lawful.proofs.Blocks.Sums.{sum-set, sum-le}
use Rattle.lawful.proofs.Blocks.Shape.{held_place, other_place}
use Rattle.words.proofs.Counting.{one-sym, one_same, one-other, one-eq}
use Rattle.threads.proofs.Queues.{up_same}
use Rattle.lawful.proofs.Blocks.Cored.{holding-none}
use Rattle.lawful.proofs.Blocks.Members.{not_in}
use Rattle.words.proofs.Free.{dropped-same, dropped-other}

module _ {s : State} {h : List ℕ} (g : Shape s h 0) (k m p : ℕ) (some : 1 ≤ k) (low : k ≤ task_blocks) (free_tasks : bit s.free_tasks k ≡ 1)
    (known : m < s.directory.modules) (parent : p ≤ task_blocks) (apart : p ≢ k) where
  abbrev fresh : Task
  fresh = new_task m p

  abbrev made : State
  made = with_task (with_free_tasks s (dropping s.free_tasks k)) k fresh

  was : Stands s (place_of s h k) k
  was = g.tasks k some low

  was_free : place_of s h k ≡ Free
  was_free = one-eq _ Free (sym was.free_tasks ∙ free_tasks)

  zero : task_at s k ≡ no_task
  zero = was.fields.free was_free

  no-queue : (q : ℕ) → q < QUEUES → count k (queue s q) ≡ 0
  unfolding queue_for
  no-queue q l = was.queued q l ∙ ap (λ (x : ℕ). one (queue_for x (level_of s k)) q) was_free ∙ one-other 9 q (λ z. omega (arith, z, l))

  other : (y : ℕ) → y ≢ k → task_at made y ≡ task_at s y
  other y d = get_or-set_other s.tasks k y fresh no_task d

  same : task_at made k ≡ fresh
  same = get_or-set_same s.tasks k fresh no_task (omega (arith, g.sizes.tasks))

  place_other : (y : ℕ) → y ≢ k → place_of made (k ∷ h) y ≡ place_of s h y
  unfolding place_of
  place_other y d = other_place made h k y d ∙ ap (λ (t : Task). cond (y among h) Hand t.place) (other y d)

  childless : children s.tasks k ≡ 0
  childless = g.links k some low ∙ omega (arith, ap (λ (x : ℕ). one x InLink) was_free, one-other Free InLink (λ z. omega (arith, z)), one-other k 0 (λ z. omega (arith, z)))

  not-parent : (y : ℕ) → y ≤ task_blocks → (task_at s y).parent ≢ k
  not-parent y b z =
      omega (arith, childless, sum-le (λ t. one t.parent k) s.tasks y no_task (omega (arith, g.sizes.tasks)), one_same (task_at s y).parent k z)

  made-own : Stands made (place_of made (k ∷ h) k) k
  unfolding queue_for
  made-own =
      rw (held_place made h k) (record {
        fields = rw same (new-fields s.directory (inr refl) (λ z. absurd (omega (arith, z))) (λ z. known) parent);
        queued = λ q l. no-queue q l ∙ sym (one-other 9 q (λ z. omega (arith, z, l)));
        runs = was.runs ∙ ap (λ (x : ℕ). one x Running) was_free ∙ one-other Free Running (λ z. omega (arith, z)) ∙ sym (one-other Hand Running (λ z. omega (arith, z)));
        free_tasks = dropped-same s.free_tasks k ∙ sym (one-other Hand Free (λ z. omega (arith, z)));
        checks = λ z. absurd (omega (arith, z));
        ends = λ z. absurd (omega (arith, z));
        since = omega (arith, ap (λ (t : Task). t.since) same);
      })

  rank : ℕ → ℕ
  rank y = cond (eqb y k) (suc (g.ranked.rank p)) (g.ranked.rank y)

  rank-other : (y : ℕ) → y ≢ k → rank y ≡ g.ranked.rank y
  unfolding rank
  rank-other y d = rw (ne_eqb y k d)

  rank_same : rank k ≡ suc (g.ranked.rank p)
  unfolding rank
  rank_same = rw (eq-eqb k k refl)

  above : (y : ℕ) → y ≤ task_blocks → (task_at made y).parent ≢ 0 → rank (task_at made y).parent < rank y
  above y b n =
      ⊎_elim
      (λ c. rw (c.1, same) (omega (arith, rank_same, rank-other p apart)))
      (λ c. let z = other y c.1 in
      rw z (omega (arith, g.ranked.above y b (λ i. n (ap (λ (t : Task). t.parent) z ∙ i)), rank-other y c.1, rank-other (task_at s y).parent (not-parent y b))))
      (tested y k)

  links : (y : ℕ) → 1 ≤ y → y ≤ task_blocks → children (set s.tasks k fresh) y ≡ one (place_of made (k ∷ h) y) InLink + one y p
  links y a b =
      let c = sum-set (λ t. one t.parent y) s.tasks k fresh no_task (omega (arith, g.sizes.tasks)) in
      let d = one-other (task_at s k).parent y (λ z. omega (arith, z, ap (λ (t : Task). t.parent) zero, a)) in
      let e = one-other y 0 (λ z. omega (arith, z, a)) in
      let f = one-sym p y in
      ⊎_elim
      (λ z. rw (z.1, held_place made h k) (omega (arith, rw z.1 at c, rw z.1 at d, rw z.1 at f, childless, one-other Hand InLink (λ z. omega (arith, z)))))
      (λ z. rw (place_other y z.1) (omega (arith, c, d, e, f, g.links y a b)))
      (tested y k)

  make : Shape made (k ∷ h) p
  make =
      change s k (set s.tasks k fresh) s.running (dropping s.free_tasks k) s.pools s.queues g (record {
        some = some;
        low = low;
        own = made-own;
        owner = λ j a b m z. absurd ((g.requests j a b).owned m (ap (place_of s h) z ∙ was_free));
        blocks = other;
        hands = λ y d. past-hand k y h d;
        queues = λ q y d. refl;
        runs = λ y a d. refl;
        free_tasks = λ y d. dropped-other s.free_tasks k y d;
        long = length-set s.tasks k fresh ∙ g.sizes.tasks;
        nine = g.sizes.queues;
        four = g.sizes.pools;
        running = g.blank.running;
        tasks_free = omega (arith, g.blank.free_tasks, dropping-low s.free_tasks k);
        pool = g.blank.pool;
        core =
            core-kept k fresh g.core (λ level u.
            holding-none s.directory level u fresh (λ z. omega (arith, z)) ∙ sym (holding-none s.directory level u (task_at s k) (λ z. omega (arith, z, ap (λ (t : Task). t.core) zero))));
        links = links;
        ranked = record { rank = rank; above = above };
        timed =
            up_same _ (λ a. (task_at s a).time) (queue s time_queue)
            (λ y c. ap (λ (t : Task). t.time) (other y (λ z. omega (arith, c, no-queue time_queue (omega arith), ap (λ (x : ℕ). count x (queue s time_queue)) z))))
            ∙ g.timed;
        channel = refl;
      })

  pub create : InHand (created s k m p) k h p
  unfolding created
  create = record { some = some; low = low; out = not_in s h k (λ z. omega (arith, z, was_free)); shape = make }
