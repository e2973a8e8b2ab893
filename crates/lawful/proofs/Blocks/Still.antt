-- A later clock, other events on or signalled, or the blocks in hand in another order: no block sees it.
use mathlib.Core.Bool.{Bool, true, false, cond, ◌||◌}
use mathlib.Core.Path.{◌≡◌, refl, sym, ap, ◌∙◌}
use mathlib.Core.List.{List, ◌∷◌}
use Prim.Native.Nat.{ℕ, ◌+◌, ◌≤◌}
use native.Mathlib.Omega.{arith}
use Rattle.words.specs.Words.{◌among◌}
use Rattle.tables.specs.State.{State, with_clock, with_on, with_signalled, task_at, request_at}
use Rattle.meaning.specs.Channel.{channel_level}
use Rattle.tables.specs.Blocks.{InLink}
use Rattle.lawful.specs.Shape.{place_of, Events, Shape, Hand}
use Rattle.words.specs.Counting.{one}
use Rattle.lawful.proofs.Blocks.Change.{stands_same}
use lib.Dec.{eqb}

abbrev pub timed-on : State → ℕ → ℕ → ℕ → State
timed-on s c o m = with_on (with_signalled (with_clock s c) m) o

still : {s : State} {h h' : List ℕ} {e : ℕ} (c o m : ℕ) → s.clock ≤ c → Shape s h e → ((y : ℕ) → place_of s h' y ≡ place_of s h y) → Events s.directory.defined o m
    → Shape (timed-on s c o m) h' e
unfolding place_of channel_level
still {s} {h} {h'} {e} c o m later g p f =
    record {
      sizes = record { tasks = g.sizes.tasks; requests = g.sizes.requests; pools = g.sizes.pools; queues = g.sizes.queues };
      directory = g.directory;
      blank = let b = g.blank in record {
        block = b.block;
        request = b.request;
        pool = b.pool;
        free_tasks = b.free_tasks;
        free_tasks-none = b.free_tasks-none;
        free_requests = b.free_requests;
        free_requests-none = b.free_requests-none;
        running = b.running;
        channel = b.channel;
        holes = b.holes;
        events = f;
      };
      tasks = λ y a b. stands_same {s = s} (record { directory = refl; block = refl; queues = λ q z. refl; runs = refl; free_tasks = refl; requests = refl; clock = later }) (p y) (g.tasks y a b);
      requests = λ i a b. let c = g.requests i a b in record {
        kind = c.kind;
        free = c.free;
        used = c.used;
        owned = λ z w. c.owned z (sym (p (request_at s i).owner) ∙ w);
        others = c.others;
        queued = c.queued;
        runs = c.runs;
        free_requests = c.free_requests;
      };
      none = g.none;
      beyond = g.beyond;
      core = g.core;
      links = λ y a b. g.links y a b ∙ sym (ap (λ (x : ℕ). one x InLink + one y e) (p y));
      ranked = g.ranked;
      timed = g.timed;
      levelled = g.levelled;
    }

pub shape_on : {s : State} {h : List ℕ} {e : ℕ} (c o m : ℕ) → s.clock ≤ c → Shape s h e → Events s.directory.defined o m → Shape (timed-on s c o m) h e
shape_on c o m later g f = still c o m later g (λ y. refl) f

pub shape-hands : {s : State} {h h' : List ℕ} {e : ℕ} → ((y : ℕ) → place_of s h' y ≡ place_of s h y) → Shape s h e → Shape s h' e
shape-hands {s} p g = still s.clock s.on s.signalled (omega arith) g p g.blank.events

pub swapped : (s : State) (a b : ℕ) (h : List ℕ) (y : ℕ) → place_of s (b ∷ a ∷ h) y ≡ place_of s (a ∷ b ∷ h) y
unfolding place_of ◌among◌
swapped s a b h y = go (eqb a y) (eqb b y)
  where
    go : (u v : Bool) → cond (v || (u || (y among h))) Hand (task_at s y).place ≡ cond (u || (v || (y among h))) Hand (task_at s y).place
    go true true = refl
    go true false = refl
    go false true = refl
    go false false = refl
