-- A task block is taken out of its place into the hand: out of a queue, or from the processor, or from LINK, CHECK or ending, where nothing changes. The law of
-- one changed block, where the block stays as it is.
use mathlib.Core.Bool.{true}
use mathlib.Core.Path.{◌≡◌, refl, sym, ap₂, ◌∙◌}
use mathlib.Core.Logic.{◌≢◌, ⊎_elim}
use mathlib.Core.List.{List, [], ◌∷◌}
use Prim.Native.Nat.{ℕ, ◌+◌, ◌≤◌, ◌<◌}
use native.Mathlib.Omega.{arith}
use lib.ListN.{length, get_or}
use Rattle.threads.specs.Threads.{count, QUEUES}
use Rattle.words.proofs.Truth.{tested}
use Rattle.words.specs.Words.{up_by}
use Rattle.tables.specs.State.{State, time_queue, channel_queue, with_running, with_queues, task_at, queue}
use Rattle.tables.specs.Blocks.{Free, Running, InLink, task_blocks}
use Rattle.meaning.specs.Rules.{queue_for}
use Rattle.lawful.specs.Shape.{Hand, place_of, Stands, Shape}
use Rattle.words.specs.Counting.{one}
use Rattle.lawful.proofs.Blocks.Change.{change, past-hand}
use Rattle.lawful.proofs.Blocks.Fields.{held-fields}
use Rattle.lawful.proofs.Blocks.Shape.{held_place, other_place}
use Rattle.words.proofs.Counting.{one-other}

module _ (s : State) (k : ℕ) where
  abbrev pub taking : List (List ℕ) → ℕ → State
  taking l r = with_queues (with_running s r) l

  pub record Takes (l : List (List ℕ)) (r : ℕ) (h : List ℕ) (e e' : ℕ) : Type 0 where
    pub some : 1 ≤ k
    pub low : k ≤ task_blocks
    pub used : place_of s h k ≢ Free
    pub nine : length l ≡ QUEUES
    pub others : (q y : ℕ) → y ≢ k → count y (get_or l q []) ≡ count y (queue s q)
    pub own : (q : ℕ) → q < QUEUES → count k (get_or l q []) ≡ 0
    pub bound : r ≤ task_blocks
    pub runs : r ≢ k
    pub run-others : (y : ℕ) → 1 ≤ y → y ≢ k → one r y ≡ one s.running y
    pub links : one (place_of s h k) InLink + one k e ≡ one k e'
    pub link-others : (y : ℕ) → 1 ≤ y → y ≢ k → one y e' ≡ one y e
    pub timed : up_by (λ a. (task_at s a).time) (get_or l time_queue []) ≡ true
    pub channel : get_or l channel_queue [] ≡ queue s channel_queue

  module _ {l : List (List ℕ)} {r : ℕ} {h : List ℕ} {e e' : ℕ} (g : Shape s h e) (u : Takes l r h e e') where
    place_other : (y : ℕ) → y ≢ k → place_of (taking l r) (k ∷ h) y ≡ place_of s h y
    unfolding place_of
    place_other y d = other_place (taking l r) h k y d

    none-queued : (level q : ℕ) → q < QUEUES → one (queue_for Hand level) q ≡ 0
    unfolding queue_for
    none-queued level q z = one-other 9 q (λ i. omega (arith, i, z))

    taken : Stands (taking l r) (place_of (taking l r) (k ∷ h) k) k
    taken =
        let w = g.tasks k u.some u.low in
        rw (held_place (taking l r) h k) (record {
          fields = held-fields w.fields u.used;
          queued = λ q z. u.own q z ∙ sym (none-queued _ q z);
          runs = one-other r k u.runs ∙ sym (one-other Hand Running (λ z. omega (arith, z)));
          free_tasks = w.free_tasks ∙ one-other _ Free u.used ∙ sym (one-other Hand Free (λ z. omega (arith, z)));
          checks = λ z. absurd (omega (arith, z));
          ends = λ z. absurd (omega (arith, z));
          since = w.since;
        })

    pub take : Shape (taking l r) (k ∷ h) e'
    take =
        change s k s.tasks r s.free_tasks s.pools l g (record {
          some = u.some;
          low = u.low;
          own = taken;
          owner = λ j a b m z. (λ w. let i : Hand ≡ Free = sym (held_place (taking l r) h k) ∙ w in omega (arith, i), refl);
          blocks = λ y d. refl;
          hands = λ y d. past-hand k y h d;
          queues = u.others;
          runs = u.run-others;
          free_tasks = λ y d. refl;
          long = g.sizes.tasks;
          nine = u.nine;
          four = g.sizes.pools;
          running = u.bound;
          tasks_free = g.blank.free_tasks;
          pool = g.blank.pool;
          core = g.core;
          links = λ y a b.
              ⊎_elim
              (λ c. rw (c.1, held_place (taking l r) h k) (omega (arith, g.links k u.some u.low, u.links, one-other Hand InLink (λ z. omega (arith, z)))))
              (λ c. g.links y a b ∙ sym (ap₂ (λ (i j : ℕ). one i InLink + j) (place_other y c.1) (u.link-others y a c.1)))
              (tested y k);
          ranked = g.ranked;
          timed = u.timed;
          channel = u.channel;
        })
