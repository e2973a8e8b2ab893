-- One law for every change of one task block: it is put into a place or taken into the hand, given core or made to give it back, made, freed, or loses its
-- link. The other blocks do not see the change; what is asked of the block itself is that it stands where it now is.
use mathlib.Core.Bool.{true, cond}
use mathlib.Core.Path.{◌≡◌, refl, sym, ap, ap₂, ◌∙◌}
use mathlib.Core.Logic.{◌≢◌, ◌⊎◌, ⊎_elim}
use mathlib.Core.List.{List, [], ◌∷◌}
use Prim.Native.Nat.{ℕ, ◌+◌, ◌^◌, ◌≤◌, ◌<◌}
use native.Mathlib.Omega.{arith}
use lib.ListN.{length, set, get_or}
use borrow.Author.Tests.{ne_eqb}
use Rattle.threads.specs.Threads.{count, QUEUES}
use Rattle.words.proofs.Truth.{tested}
use Rattle.words.specs.Words.{◌among◌, up_by}
use Rattle.image.specs.declared.Directory.{Directory}
use Rattle.tables.specs.declared.Task.{Task}
use Rattle.tables.specs.Blocks.{Free, InLink, no_task, task_blocks, request_blocks}
use Rattle.tables.specs.State.{State, time_queue, channel_queue, node, request_of, with_running, with_free_tasks, with_pools, with_tasks, with_queues, task_at, request_at, queue, level_of}
use Rattle.meaning.specs.Channel.{channel_level}
use Rattle.meaning.specs.Rules.{queue_for}
use Rattle.lawful.specs.Shape.{Hand, place_of, module_of, Stands, Core, children, holding, Ranked, Shape}
use Rattle.words.specs.Counting.{one, bit}
use Rattle.lawful.proofs.Blocks.Sums.{sum_kept}
use Rattle.threads.proofs.Queues.{up_same}
use Rattle.lawful.proofs.Blocks.Members.{channel-high, channel-low, channel-queued}

-- ---- What a block does not see of a change.
pub record Same (s s' : State) (y : ℕ) : Type 0 where
  pub directory : s'.directory ≡ s.directory
  pub block : task_at s' y ≡ task_at s y
  pub queues : (q : ℕ) → q < QUEUES → count y (queue s' q) ≡ count y (queue s q)
  pub runs : one s'.running y ≡ one s.running y
  pub free_tasks : bit s'.free_tasks y ≡ bit s.free_tasks y
  pub requests : s'.requests ≡ s.requests
  pub clock : s.clock ≤ s'.clock

pub stands_same : {s s' : State} {p p' y : ℕ} → Same s s' y → p' ≡ p → Stands s p y → Stands s' p' y
stands_same {s} {s'} {p} {p'} {y} c e w =
    record {
      fields = rw (c.directory, c.block, e) w.fields;
      queued = λ q l.
          c.queues q l ∙ w.queued q l
          ∙ sym (ap₂ (λ (a b : ℕ). one (queue_for a b) q) e (ap₂ (λ (d : Directory) (t : Task). (module_of d t).level) c.directory c.block));
      runs = rw e (c.runs ∙ w.runs);
      free_tasks = rw e (c.free_tasks ∙ w.free_tasks);
      checks = λ z. rw (c.requests, c.block) (w.checks (sym e ∙ z));
      ends = λ z. rw c.requests (w.ends (sym e ∙ z));
      since = omega (arith, w.since, c.clock, ap (λ (t : Task). t.since) c.block);
    }

-- ---- The law. The task blocks ts are those of s but for the block k; r runs, i are idle, p are the pools, l the queues.
module _ (s : State) (k : ℕ) (ts : List Task) (r i : ℕ) (p : List ℕ) (l : List (List ℕ)) where
  abbrev pub changed : State
  changed = with_queues (with_pools (with_free_tasks (with_running (with_tasks s ts) r) i) p) l

  pub record Changes (h h' : List ℕ) (e' : ℕ) : Type 0 where
    pub some : 1 ≤ k
    pub low : k ≤ task_blocks
    -- the block itself, where it now is; it is used and of its level if it owns a used request
    pub own : Stands changed (place_of changed h' k) k
    pub owner : (j : ℕ) → 1 ≤ j → j ≤ request_blocks → 1 ≤ (request_at s j).place → (request_at s j).owner ≡ k → (place_of changed h' k ≢ Free) × (level_of changed k ≡ level_of s k)
    -- the others do not see it
    pub blocks : (y : ℕ) → y ≢ k → get_or ts y no_task ≡ task_at s y
    pub hands : (y : ℕ) → y ≢ k → (y among h') ≡ (y among h)
    pub queues : (q y : ℕ) → y ≢ k → count y (get_or l q []) ≡ count y (queue s q)
    pub runs : (y : ℕ) → 1 ≤ y → y ≢ k → one r y ≡ one s.running y
    pub free_tasks : (y : ℕ) → y ≢ k → bit i y ≡ bit s.free_tasks y
    -- the whole
    pub long : length ts ≡ 25
    pub nine : length l ≡ QUEUES
    pub four : length p ≡ 4
    pub running : r ≤ task_blocks
    pub tasks_free : i < 2 ^ (task_blocks + 1)
    pub pool : get_or p 0 0 ≡ 0
    pub core : Core s.directory ts p
    pub links : (y : ℕ) → 1 ≤ y → y ≤ task_blocks → children ts y ≡ one (place_of changed h' y) InLink + one y e'
    pub ranked : Ranked ts
    pub timed : up_by (λ a. (task_at changed a).time) (get_or l time_queue []) ≡ true
    pub channel : get_or l channel_queue [] ≡ queue s channel_queue

  module _ {h h' : List ℕ} {e e' : ℕ} (g : Shape s h e) (u : Changes h h' e') where
    pub place_kept : (y : ℕ) → y ≢ k → place_of changed h' y ≡ place_of s h y
    unfolding place_of
    place_kept y d = ap₂ (λ b (t : Task). cond b Hand t.place) (u.hands y d) (u.blocks y d)

    -- the channel queue's levels: an owner is another, or of its level
    level-kept : (n : ℕ) → 1 ≤ count n (queue s channel_queue) → channel_level changed n ≡ channel_level s n
    unfolding channel_level
    level-kept n c =
        let j = request_of n in
        ⊎_elim
        (λ z. ap (level_of changed) z.1
        ∙ (u.owner j (omega (arith, channel-high g n c)) (omega (arith, channel-low g n c)) (omega (arith, channel-queued g n c)) z.1).1 ∙ sym (ap (level_of s) z.1))
        (λ z. ap (λ (t : Task). (module_of s.directory t).level) (u.blocks (request_at s j).owner z.1)) (tested (request_at s j).owner k)

    pub change : Shape changed h' e'
    change =
        record {
          sizes = record { tasks = u.long; requests = g.sizes.requests; pools = u.four; queues = u.nine };
          directory = g.directory;
          blank = let b = g.blank in record {
            block = u.blocks 0 (λ z. omega (arith, z, u.some)) ∙ b.block;
            request = b.request;
            pool = u.pool;
            free_tasks = u.tasks_free;
            free_tasks-none = u.free_tasks 0 (λ z. omega (arith, z, u.some)) ∙ b.free_tasks-none;
            free_requests = b.free_requests;
            free_requests-none = b.free_requests-none;
            running = u.running;
            channel = b.channel;
            holes = b.holes;
            events = b.events;
          };
          tasks = λ y a b.
              ⊎_elim (λ z. rw z.1 u.own)
              (λ z. stands_same {s = s} (record {
                directory = refl;
                block = u.blocks y z.1;
                queues = λ q n. u.queues q y z.1;
                runs = u.runs y a z.1;
                free_tasks = u.free_tasks y z.1;
                requests = refl;
                clock = omega arith;
              }) (place_kept y z.1) (g.tasks y a b)) (tested y k);
          requests = λ j a b. let w = g.requests j a b in let d : node j ≢ k = λ z. omega (arith, z, u.low) in record {
            kind = w.kind;
            free = w.free;
            used = w.used;
            owned = λ m z.
                ⊎_elim (λ y. (u.owner j a b m y.1).0 (ap (place_of changed h') (sym y.1) ∙ z))
                (λ y. w.owned m (sym (place_kept (request_at s j).owner y.1) ∙ z)) (tested (request_at s j).owner k);
            others = λ q n. u.queues q (node j) d ∙ w.others q n;
            queued = u.queues channel_queue (node j) d ∙ w.queued;
            runs = w.runs;
            free_requests = w.free_requests;
          };
          none = λ q. u.queues q 0 (λ z. omega (arith, z, u.some)) ∙ g.none q;
          beyond = λ q y n. u.queues q y (λ z. omega (arith, z, n, u.low)) ∙ g.beyond q y n;
          core = u.core;
          links = u.links;
          ranked = u.ranked;
          timed = u.timed;
          levelled = ap (up_by (channel_level changed)) u.channel ∙ up_same _ (channel_level s) (queue s channel_queue) level-kept ∙ g.levelled;
        }

-- ---- Parts that most changes share.

-- a block that is taken into the hand, or put down, is the only one that the two lists of hands differ in
pub past-hand : (k y : ℕ) (h : List ℕ) → y ≢ k → (y among (k ∷ h)) ≡ (y among h)
unfolding ◌among◌
past-hand k y h d = rw (ne_eqb k y (λ z. d (sym z)))

-- the core of a block that holds as before
pub core-kept : {d : Directory} {l : List Task} {pools : List ℕ} (k : ℕ) (x : Task) → Core d l pools → ((level u : ℕ) → holding d level u x ≡ holding d level u (get_or l k no_task))
    → Core d (set l k x) pools
core-kept {d} {l} k x g f =
    record { low = g.low; units = λ level u a b. sum_kept (holding d level u) l k x no_task (f level u) ∙ g.units level u a b }

-- ranks where parents stay, or are lost
pub ranked-kept : {l m : List Task} → Ranked l → ((y : ℕ) → y ≤ task_blocks → ((get_or m y no_task).parent ≡ (get_or l y no_task).parent) ⊎ ((get_or m y no_task).parent ≡ 0)) → Ranked m
ranked-kept g f =
    record {
      rank = g.rank;
      above = λ y b n. ⊎_elim (λ z. rw z (g.above y b (λ j. n (z ∙ j)))) (λ z. absurd (n z)) (f y b);
    }
