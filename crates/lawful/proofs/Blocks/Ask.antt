-- One law for every change of one request block: it is made, moved or freed. The task blocks do not see it but by what they wait for; the other requests
-- do not see it at all.
use mathlib.Core.Bool.{true}
use mathlib.Core.Path.{◌≡◌, refl, sym, ap, ◌∙◌}
use mathlib.Core.Logic.{◌≢◌, ⊎_elim}
use mathlib.Core.List.{List, []}
use Prim.Native.Nat.{ℕ, ◌-◌, ◌^◌, ◌≤◌, ◌<◌, ◌+◌}
use native.Mathlib.Omega.{arith}
use lib.ListN.{length, set, get_or, length-set}
use lib.Seq.{get_or-set_same, get_or-set_other}
use Rattle.threads.specs.Threads.{count, QUEUES}
use Rattle.words.proofs.Truth.{tested}
use Rattle.words.specs.Words.{up_by}
use Rattle.words.proofs.Changes.{adding-low}
use Rattle.tables.specs.declared.Request.{Request}
use Rattle.tables.specs.State.{State, channel_queue, time_queue, node, with_channel, with_free_requests, with_request, with_queues, task_at, request_at, queue, level_of}
use Rattle.tables.specs.Blocks.{Free, InCheck, Ending, Queued, OnChannel, Done, no_request, task_blocks, request_blocks}
use Rattle.meaning.specs.Channel.{channel_level}
use Rattle.meaning.specs.Finish.{freed_request}
use Rattle.lawful.specs.Shape.{place_of, Pending, Carried, Shape}
use Rattle.words.specs.Counting.{one, bit}
use Rattle.words.proofs.Counting.{one_same, one-other}
use Rattle.threads.proofs.Queues.{up_same}
use Rattle.lawful.proofs.Blocks.Members.{channel-queued}
use Rattle.words.proofs.Free.{added-same, added-other}

module _ (s : State) (r : ℕ) (x : Request) where
  abbrev pub asking : ℕ → ℕ → List (List ℕ) → State
  asking c f l = with_queues (with_free_requests (with_channel (with_request s r x) c) f) l

  -- what is asked of the new block x, of the number c on the channel, of the spare blocks f and of the queues l
  pub record Asks (c f : ℕ) (l : List (List ℕ)) (h : List ℕ) : Type 0 where
    pub some : 1 ≤ r
    pub low : r ≤ request_blocks
    pub nine : length l ≡ QUEUES
    pub same : (q : ℕ) → q ≢ channel_queue → get_or l q [] ≡ queue s q
    pub others : (y : ℕ) → y ≢ node r → count y (get_or l channel_queue []) ≡ count y (queue s channel_queue)
    pub own : count (node r) (get_or l channel_queue []) ≡ one x.place Queued
    pub kind : x.place ≤ 3
    pub free : x.place ≡ 0 → x ≡ no_request
    pub used : 1 ≤ x.place → (1 ≤ x.owner) × (x.owner ≤ task_blocks) × (x.device ≤ 249) × (13 ≤ x.command) × (x.command ≤ 14) × (1 ≤ x.bytes)
    pub owned : 1 ≤ x.place → place_of s h x.owner ≢ Free
    pub bound : c ≤ request_blocks
    pub runs : one c r ≡ one x.place OnChannel
    pub run-others : (y : ℕ) → 1 ≤ y → y ≢ r → one c y ≡ one s.channel y
    pub requests_free : f < 2 ^ (request_blocks + 1)
    pub free_requests : bit f r ≡ one x.place 0
    pub free_requests-others : (y : ℕ) → y ≢ r → bit f y ≡ bit s.free_requests y
    pub checks : (y : ℕ) → 1 ≤ y → y ≤ task_blocks → place_of s h y ≡ InCheck → Pending (set s.requests r x) y (task_at s y).request
    pub ends : (y : ℕ) → 1 ≤ y → y ≤ task_blocks → place_of s h y ≡ Ending → (i : ℕ) × Pending (set s.requests r x) y i
    pub levelled : up_by (channel_level (asking c f l)) (get_or l channel_queue []) ≡ true

  module _ {c f : ℕ} {l : List (List ℕ)} {h : List ℕ} {e : ℕ} (g : Shape s h e) (u : Asks c f l h) where
    pub ask-same : request_at (asking c f l) r ≡ x
    ask-same = get_or-set_same s.requests r x no_request (omega (arith, g.sizes.requests, u.low))

    pub ask-other : (y : ℕ) → y ≢ r → request_at (asking c f l) y ≡ request_at s y
    ask-other y d = get_or-set_other s.requests r y x no_request d

    counted : (q y : ℕ) → y ≢ node r → count y (get_or l q []) ≡ count y (queue s q)
    counted q y d = ⊎_elim (λ z. rw z.1 (u.others y d)) (λ z. ap (count y) (u.same q z.1)) (tested q channel_queue)

    ask-carried : (y : ℕ) → 1 ≤ y → y ≤ request_blocks → Carried (asking c f l) h y
    unfolding place_of
    ask-carried y a b =
        ⊎_elim
        (λ z. rw z.1 (record {
          kind = rw ask-same u.kind;
          free = rw ask-same u.free;
          used = rw ask-same u.used;
          owned = rw ask-same u.owned;
          others = λ q n. ap (count (node r)) (u.same q (λ i. omega (arith, i, n))) ∙ (g.requests r u.some u.low).others q n;
          queued = rw ask-same u.own;
          runs = rw ask-same u.runs;
          free_requests = rw ask-same u.free_requests;
        }))
        (λ z. let o = ask-other y z.1 in let w = g.requests y a b in let d : node y ≢ node r = λ i. z.1 (omega (arith, i)) in record {
          kind = rw o w.kind;
          free = rw o w.free;
          used = rw o w.used;
          owned = rw o w.owned;
          others = λ q n. counted q (node y) d ∙ w.others q n;
          queued = rw o (u.others (node y) d ∙ w.queued);
          runs = rw o (u.run-others y a z.1 ∙ w.runs);
          free_requests = rw o (u.free_requests-others y z.1 ∙ w.free_requests);
        })
        (tested y r)

    pub ask : Shape (asking c f l) h e
    unfolding place_of
    ask =
        record {
          sizes = record { tasks = g.sizes.tasks; requests = length-set s.requests r x ∙ g.sizes.requests; pools = g.sizes.pools; queues = u.nine };
          directory = g.directory;
          blank = let b = g.blank in record {
            block = b.block;
            request = ask-other 0 (λ z. omega (arith, z, u.some)) ∙ b.request;
            pool = b.pool;
            free_tasks = b.free_tasks;
            free_tasks-none = b.free_tasks-none;
            free_requests = u.requests_free;
            free_requests-none = u.free_requests-others 0 (λ z. omega (arith, z, u.some)) ∙ b.free_requests-none;
            running = b.running;
            channel = u.bound;
            holes = b.holes;
            events = b.events;
          };
          tasks = λ y a b. let w = g.tasks y a b in record {
            fields = w.fields;
            queued = λ q n. counted q y (λ z. omega (arith, z, b, u.some)) ∙ w.queued q n;
            runs = w.runs;
            free_tasks = w.free_tasks;
            checks = u.checks y a b;
            ends = u.ends y a b;
            since = w.since;
          };
          requests = ask-carried;
          none = λ q. counted q 0 (λ z. omega (arith, z)) ∙ g.none q;
          beyond = λ q y n. counted q y (λ z. omega (arith, z, n, u.low)) ∙ g.beyond q y n;
          core = g.core;
          links = g.links;
          ranked = g.ranked;
          timed = rw (u.same time_queue (λ z. omega (arith, z))) g.timed;
          levelled = u.levelled;
        }

-- a request that is pending and is not the block r is still pending
pub pending-kept : {l : List Request} {y i : ℕ} (r : ℕ) (x : Request) → i ≢ r → Pending l y i → Pending (set l r x) y i
pending-kept {l} {y} {i} r x d p =
    let o = get_or-set_other l r i x no_request d in
    record { some = p.some; low = p.low; own = rw o p.own; first = rw o p.first; last = rw o p.last }

-- ---- A done request is freed.
module _ {s : State} {h : List ℕ} {e : ℕ} (g : Shape s h e) (r : ℕ) (some : 1 ≤ r) (low : r ≤ request_blocks) (d : (request_at s r).place ≡ Done) where
  not-r : {y i : ℕ} → Pending s.requests y i → i ≢ r
  not-r p z = omega (arith, p.last, ap (λ (j : ℕ). (request_at s j).place) z, d)

  pub free-request : Shape (freed_request s r) h e
  unfolding freed_request channel_level
  free-request =
      let w = g.requests r some low in
      ask s r no_request g (record {
        some = some;
        low = low;
        nine = g.sizes.queues;
        same = λ q n. refl;
        others = λ y n. refl;
        own = w.queued ∙ one-other _ Queued (λ z. omega (arith, z, d)) ∙ sym (one-other 0 Queued (λ z. omega (arith, z)));
        kind = omega arith;
        free = λ z. refl;
        used = λ z. absurd (omega (arith, z));
        owned = λ z. absurd (omega (arith, z));
        bound = g.blank.channel;
        runs = w.runs ∙ one-other _ OnChannel (λ z. omega (arith, z, d)) ∙ sym (one-other 0 OnChannel (λ z. omega (arith, z)));
        run-others = λ y a n. refl;
        requests_free = adding-low 17 s.free_requests r g.blank.free_requests (omega arith);
        free_requests = added-same s.free_requests r ∙ sym (one_same 0 0 refl);
        free_requests-others = λ y n. added-other s.free_requests r y n;
        checks = λ y a b z. let p = (g.tasks y a b).checks z in pending-kept r no_request (not-r p) p;
        ends = λ y a b z. let p = (g.tasks y a b).ends z in (p.0, pending-kept r no_request (not-r p.1) p.1);
        levelled =
            up_same _ (channel_level s) (queue s channel_queue)
            (λ y c. ap (λ (q : Request). level_of s q.owner) (get_or-set_other s.requests r (y - 24) no_request no_request
            (λ z. omega (arith, channel-queued g y c, ap (λ (j : ℕ). (request_at s j).place) z, d))))
            ∙ g.levelled;
      })
