-- The rules as tests give the rules as records: a state that keeps each rule, and whose queues are apart, is lawful.
-- Each test is one that a file before this one reads: this file puts the parts together, block by block.
use mathlib.Core.Bool.{true}
use mathlib.Core.Path.{◌≡◌, refl, sym, ap, ◌∙◌}
use mathlib.Core.Logic.{⊎_elim}
use mathlib.Core.List.{[]}
use Prim.Native.Nat.{ℕ, ◌+◌, ◌^◌, ◌≤◌, ◌<◌}
use native.Mathlib.Omega.{arith}
use lib.ListN.{length}
use lib.Dec.{eqb, leb}
use borrow.Author.Tests.{eqb-true, eq-eqb, leb-true, ltb-true, not-true, not-false}
use Rattle.threads.specs.Threads.{count, Apart, BLOCKS, QUEUES}
use Rattle.words.proofs.Truth.{tested, both, implied}
use Rattle.words.specs.Words.{◌implies◌, up_by}
use Rattle.words.proofs.Places.{under-or-from}
use Rattle.tables.specs.declared.Request.{Request}
use Rattle.tables.specs.declared.Task.{Task}
use Rattle.tables.specs.Blocks.{Free, InLink, InCheck, Ending, no_task, no_request, task_blocks, request_blocks}
use Rattle.tables.specs.State.{State, event_queue, time_queue, channel_queue, task_at, request_at, pool_at, queue, level_of, units_of}
use Rattle.meaning.specs.Conditions.{undefined_in}
use Rattle.meaning.specs.Finish.{pending_of, pending}
use Rattle.meaning.specs.Channel.{channel_level}
use Rattle.meaning.specs.Rules.{on_signalled, signalled_defined, tasks_in_place, requests_in_place, queues_in_order, core_needed, owned, checks_pending, ending_pending, never_past, queue_for}
use Rattle.meaning.proofs.Rules.{Keeps}
use Rattle.meaning.proofs.Parts.{task_range, request_range, task_stands, request_stands, task_free, request_free, task_clear, request_clear, Ranges, ranges, Sets, sets, Clears, clears, task-range}
use Rattle.lawful.specs.Shape.{place_of, Fields, Stands, Carried, Sizes, Blank, Shape}
use Rattle.words.specs.Counting.{one}
use Rattle.lawful.specs.Resting.{Lawful}
use Rattle.lawful.proofs.Blocks.Shape.{rest-place}
use Rattle.words.proofs.Counting.{one_same, one-other}
use Rattle.threads.proofs.Tests.{all-to, set-of}
use Rattle.threads.proofs.Standing.{in_some}
use Rattle.lawful.proofs.Tested.Directory.{passing}
use Rattle.meaning.proofs.Blanks.{task-blank, request-blank}
use Rattle.lawful.proofs.Tested.PlaceRules.{task-placed}
use Rattle.lawful.proofs.Tested.TaskRules.{needed_at, fields-of}
use Rattle.lawful.proofs.Tested.RequestRules.{owned_at, carried_of}
use Rattle.lawful.proofs.Tested.CoreRules.{core-of, links-of}
use Rattle.lawful.proofs.Each.Chains.{ranked-of}
use Rattle.lawful.proofs.Tested.RestRules.{busy-of, asleep-of, flowing-of, stuck-of, passes_of}
use Rattle.lawful.proofs.Tested.Pendings.{pending-at, pending-of, pending-some}
use Rattle.words.proofs.Bits.{bit-of, and-within}

module _ (s : State) (z : Sizes s) (low : (level : ℕ) → pool_at s level < 2 ^ 64) (u : Apart s.queues) (r : Keeps s) where
  range : Ranges s
  range = ranges s r.each.in_range

  free : Sets s
  free = sets s r.each.free_sets

  clear : Clears s
  clear = clears s r.each.fields_clear

  orders : (up_by (λ k. (task_at s k).time) (queue s time_queue) ≡ true) × (up_by (channel_level s) (queue s channel_queue) ≡ true)
  unfolding queues_in_order
  orders = both _ _ r.queues_in_order

  no-task : task_at s 0 ≡ no_task
  no-task = task-blank (task_at s 0) clear.task

  no-request : request_at s 0 ≡ no_request
  no-request = request-blank (request_at s 0) clear.request

  blank : Blank s
  unfolding on_signalled signalled_defined undefined_in
  blank =
      record {
        block = no-task;
        request = no-request;
        pool = eqb-true _ 0 clear.pool;
        free_tasks = ltb-true _ _ free.free_tasks;
        free_tasks-none = bit-of s.free_tasks 0 (not-true _ free.free_tasks-none);
        free_requests = ltb-true _ _ free.free_requests;
        free_requests-none = bit-of s.free_requests 0 (not-true _ free.free_requests-none);
        running = leb-true _ _ range.running;
        channel = leb-true _ _ range.channel;
        holes = leb-true _ _ range.holes;
        events =
            record {
              on = λ v. and-within v s.on s.signalled (eqb-true _ _ r.each.on_signalled);
              signalled = λ v. and-within v s.signalled s.directory.defined (eqb-true _ _ (not-false _ (not-true _ r.each.signalled_defined)));
            };
      }

  -- ---- One task block.
  module _ (k : ℕ) (a : 1 ≤ k) (b : k ≤ task_blocks) where
    placed : task_stands s k ≡ true
    unfolding tasks_in_place
    placed = all-to (task_stands s) task_blocks r.each.tasks_in_place k a b

    in-queue : (q : ℕ) → q < QUEUES → count k (queue s q) ≡ one (queue_for (task_at s k).place (level_of s k)) q
    in-queue = (task-placed s k u placed).0.only

    fields : Fields s.directory (task_at s k).place (task_at s k)
    unfolding core_needed queue_for
    fields =
        fields-of s k (all-to (task_range s) task_blocks range.tasks k a b) (all-to (task_clear s) task_blocks clear.tasks k a b) (all-to (needed_at s) task_blocks r.each.core_needed k a b)
        (λ i. passes_of s r.events_pass k
        (let w = rw i at (in-queue event_queue (omega arith)) in omega (arith, w, one_same 0 0 refl)))

    request-low : (task_at s k).request ≤ request_blocks
    request-low = leb-true _ _ (task-range s.directory.modules (units_of s k) (task_at s k) (all-to (task_range s) task_blocks range.tasks k a b)).request

    -- "CHECK waits for an own pending request", which is no block 0
    checked : (task_at s k).place ≡ InCheck → pending_of s k (task_at s k).request ≡ true
    unfolding checks_pending
    checked i =
        implied (eqb (task_at s k).place InCheck) (pending_of s k (task_at s k).request)
        (all-to (λ k. eqb (task_at s k).place InCheck implies pending_of s k (task_at s k).request) task_blocks r.each.checks_pending k a b) (eq-eqb _ _ i)

    request-some : (task_at s k).place ≡ InCheck → 1 ≤ (task_at s k).request
    request-some i =
        ⊎_elim (λ y. absurd (omega (arith, (pending-at s k (task_at s k).request (checked i)).1, ap (λ (r : ℕ). (request_at s r).place) y.1, ap (λ (q : Request). q.place) no-request)))
        (λ y. omega (arith, y.1)) (tested (task_at s k).request 0)

    stands : Stands s (place_of s [] k) k
    unfolding ending_pending never_past
    stands =
        rw (rest-place s k) (record {
          fields = fields;
          queued = in-queue;
          runs = (task-placed s k u placed).1;
          free_tasks = set-of s.free_tasks (task_at s k).place Free k (all-to (task_free s) task_blocks free.tasks k a b);
          checks = λ i. pending-of s k (task_at s k).request (request-some i) request-low (checked i);
          ends = λ i. pending-some s k (implied (eqb (task_at s k).place Ending) (pending s k)
              (all-to (λ k. eqb (task_at s k).place Ending implies pending s k) task_blocks r.each.ending_pending k a b) (eq-eqb _ _ i));
          since = leb-true _ _ (all-to (λ k. leb (task_at s k).since s.clock) task_blocks r.each.never_past k a b);
        })

  -- ---- One request block.
  carried : (q : ℕ) → 1 ≤ q → q ≤ request_blocks → Carried s [] q
  unfolding requests_in_place owned
  carried q a b =
      carried_of s q no-task u (all-to (request_range s) request_blocks range.requests q a b) (all-to (request_clear s) request_blocks clear.requests q a b)
      (all-to (request_stands s) request_blocks r.each.requests_in_place q a b) (all-to (request_free s) request_blocks free.requests q a b) (all-to (owned_at s) request_blocks r.each.owned q a b)

  inside : (k : ℕ) → k < length s.tasks → (task_at s k).core ≡ 1 → (task_at s k).start + units_of s k ≤ 64
  inside k l c =
      ⊎_elim (λ a. let i : k ≡ 0 = omega (arith, a) in absurd (omega (arith, c, ap (λ (x : ℕ). (task_at s x).core) i, ap (λ (t : Task). t.core) no-task)))
      (λ a. (fields k a (omega (arith, l, z.tasks))).inside c) (under-or-from k 1)

  nowhere : (y : ℕ) → ((1 ≤ y) × (y ≤ BLOCKS) → ⊥) → (q : ℕ) → count y (queue s q) ≡ 0
  nowhere y f q = ⊎_elim (λ i. omega (arith, i)) (λ i. absurd (f (u.inside y (omega (arith, i, in_some y s.queues q))))) (under-or-from (count y (queue s q)) 1)

  shape : Shape s [] 0
  shape =
      record {
        sizes = z;
        directory = passing s.directory r.each.directory_passes;
        blank = blank;
        tasks = stands;
        requests = carried;
        none = λ q. nowhere 0 (λ i. omega (arith, i)) q;
        beyond = λ q y l. nowhere y (λ i. omega (arith, i, l)) q;
        core = core-of s z.tasks no-task low inside r.core_held;
        links = λ p a b.
            links-of s z.tasks no-task r.linked p a b ∙ ap (λ (x : ℕ). one x InLink) (sym (rest-place s p))
            ∙ (let w : one (place_of s [] p) InLink ≡ one (place_of s [] p) InLink + one p 0 = omega (arith, one-other p 0 (λ i. omega (arith, i, a))) in w);
        ranked = ranked-of s r.chains_end no-task;
        timed = orders.0;
        levelled = orders.1;
      }

  pub rules-lawful : Lawful s
  rules-lawful =
      record {
        shape = shape;
        rest = record { asleep = asleep-of s r.events_wait; stuck = stuck-of shape r.core_waits; flowing = flowing-of s r.channel_busy };
        busy = busy-of s r.idle_only_if_none_ready;
      }
