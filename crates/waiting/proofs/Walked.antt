-- Laws of walking a queue front to back, where each of it stays or is woken. `Walk` is the loop's invariant, over either of the two queues.
use mathlib.Core.Bool.{Bool, true, false}
use mathlib.Core.Path.{◌≡◌, refl, sym, ap, ◌∙◌}
use mathlib.Core.Logic.{◌≢◌, ◌⊎◌, inl, inr, ⊎_elim}
use mathlib.Core.List.{List, [], ◌∷◌, ◌++◌, tail, append_assoc}
use Prim.Native.Nat.{ℕ, ◌≤◌, ◌<◌}
use native.Mathlib.Omega.{arith}
use lib.ListN.{length, get_or}
use lib.Dec.{leb}
use Rattle.threads.specs.Threads.{hd, count, without, walk, Sound, QUEUES}
use Rattle.threads.proofs.Lists.{count-append, count-hit, without_at}
use Rattle.words.proofs.Truth.{tested}
use Rattle.words.specs.Words.{if◌then◌else◌, each}
use Rattle.tables.specs.declared.Tables.{Tables}
use Rattle.tables.specs.State.{State, event_queue, time_queue, task_at, queue, leaving, read}
use Rattle.tables.specs.Held.{Shows}
use Rattle.tables.proofs.Held.{first-split, next-is, walk_is}
use Rattle.meaning.specs.Conditions.{enough}
use Rattle.meaning.specs.Ready.{made_ready}
use Rattle.meaning.specs.Services.{woken, timely}
use Rattle.lawful.specs.Shape.{Shape}
use Rattle.threads.proofs.Queues.{set-queue}
use Rattle.lawful.proofs.Blocks.Members.{member-once}
use Rattle.lawful.proofs.Blocks.Leave.{leave}
use Rattle.lawful.proofs.Ready.Made.{Frame, made-ready}
use Rattle.waiting.specs.Wake.{Waiting, Watched, woken_in}

-- f makes a task of the queue q ready or leaves all as it is, and getting ready does not touch the queue
pub record Wakes (f : ℕ → State → State) (q : ℕ) : Type 0 where
  pub low : q < 8
  pub either : (k : ℕ) (s : State) → (f k s ≡ made_ready (leaving s q k) k) ⊎ (f k s ≡ s)
  pub stays : (s s' : State) (k : ℕ) → Frame s s' k → queue s' q ≡ queue s q

either-of : (b : Bool) (x y : State) → ((if b then x else y) ≡ x) ⊎ ((if b then x else y) ≡ y)
either-of true x y = inl refl
either-of false x y = inr refl

wakes-events : Wakes woken event_queue
unfolding woken
wakes-events =
    record {
      low = omega arith;
      either = λ k s. either-of (enough s (task_at s k).count (task_at s k).events) (made_ready (leaving s event_queue k) k) s;
      stays = λ s s' k f. f.queues event_queue (λ z. omega (arith, z));
    }

wakes-time : Wakes timely time_queue
unfolding timely
wakes-time =
    record {
      low = omega arith;
      either = λ k s. either-of (leb (task_at s k).time s.clock) (made_ready (leaving s time_queue k) k) s;
      stays = λ s s' k f. f.queues time_queue (λ z. omega (arith, z));
    }

-- of either queue
pub watched-low : {q : ℕ} → Watched q → q < QUEUES
watched-low {q} w = ⊎_elim (λ z. omega (arith, z.1)) (λ z. omega (arith, w.either z.1)) (tested q event_queue)

pub wakes-in : (q : ℕ) → Watched q → Wakes (woken_in q) q
unfolding woken_in
wakes-in q w = ⊎_elim (λ z. rw z.1 wakes-events) (λ z. rw (w.either z.1) wakes-time) (tested q event_queue)

pub in-events : (l : List ℕ) (s : State) → each (woken_in event_queue) l s ≡ each woken l s
unfolding woken_in
in-events l s = refl

pub in-time : (l : List ℕ) (s : State) → each (woken_in time_queue) l s ≡ each timely l s
unfolding woken_in
in-time l s = refl

-- ---- Lists.

no-first : (A B : List ℕ) → count 0 (A ++ B) ≡ 0 → hd B ≡ 0 → B ≡ []
no-first A [] c e = refl
no-first A (a ∷ B) c e = absurd (omega (arith, c, count-append 0 A (a ∷ B), count-hit a 0 B e))

-- ---- One turn: the shape is kept, and what stands behind k stays.
module _ {f : ℕ → State → State} {q : ℕ} (w : Wakes f q) {s : State} (g : Shape s [] 0) (k : ℕ) (A B : List ℕ) (e : queue s q ≡ A ++ k ∷ B) where
  here : 1 ≤ count k (queue s q)
  here = rw e (omega (arith, count-append k A (k ∷ B), count-hit k k B refl))

  gone : queue (leaving s q k) q ≡ A ++ B
  gone =
      let once = ap (count k) (sym e) ∙ member-once g k q w.low here in
      set-queue s.queues q _ g.sizes.queues (omega (arith, w.low)) ∙ ap (without k) e
      ∙ without_at k A B (omega (arith, once, count-append k A (k ∷ B), count-hit k k B refl))

  turned : Shape (f k s) [] 0 × ((D : List ℕ) × (queue (f k s) q ≡ D ++ B))
  turned =
      ⊎_elim
      (λ z. let m = made-ready (leave g k q w.low here) in rw z (m.shape, (A, w.stays (leaving s q k) (made_ready (leaving s q k) k) k m.frame ∙ gone)))
      (λ z. rw z (g, (A ++ k ∷ [], e ∙ sym (append_assoc A (k ∷ []) B)))) (w.either k s)

-- ---- The loop: u is what t has become, and k is the first of those that are still ahead.
pub record Walk (f : ℕ → State → State) (q : ℕ) (t u : Tables) (k : ℕ) : Type 0 where
  pub sound : Sound u.threads
  pub shape : Shape (read u) [] 0
  pub passed : List ℕ
  pub ahead : List ℕ
  pub split : queue (read u) q ≡ passed ++ ahead
  pub first : k ≡ hd ahead
  pub same : each f ahead (read u) ≡ each f (queue (read t) q) (read t)

pub walk_start : {f : ℕ → State → State} {q : ℕ} {t : Tables} {k : ℕ} → Sound t.threads × Shape (read t) [] 0 → k ≡ hd (queue (read t) q) → Walk f q t t k
walk_start {f} {q} {t} p e =
    record { sound = p.0; shape = p.1; passed = []; ahead = queue (read t) q; split = refl; first = e; same = refl }

each_more : (f : ℕ → State → State) (k : ℕ) (l : List ℕ) (s : State) → each f (k ∷ l) s ≡ each f l (f k s)
unfolding each
each_more f k l s = refl

each_over : (f : ℕ → State → State) (s : State) → each f [] s ≡ s
unfolding each
each_over f s = refl

module _ {f : ℕ → State → State} {q : ℕ} {t u : Tables} {k : ℕ} (w : Wakes f q) (i : Walk f q t u k) where
  pub walk_end : k ≡ 0 → Shows u (each f (queue (read t) q) (read t))
  walk_end z =
      let n = no-first i.passed i.ahead (sym (ap (count 0) i.split) ∙ i.shape.none q) (sym i.first ∙ z) in
      record { sound = i.sound; reads = sym (each_over f (read u)) ∙ ap (λ (l : List ℕ). each f l (read u)) (sym n) ∙ i.same }

  module _ (n : k ≢ 0) where
    split-here : queue (read u) q ≡ i.passed ++ k ∷ tail i.ahead
    split-here = i.split ∙ ap (λ (l : List ℕ). i.passed ++ l) (first-split i.ahead i.first n)

    pub walk-waiting : Waiting u q k
    walk-waiting =
        record { sound = i.sound; shape = i.shape; low = w.low; here = here w i.shape k i.passed (tail i.ahead) split-here }

    first_next : get_or u.threads.fwd k 0 ≡ hd (tail i.ahead)
    first_next = next-is i.sound (omega (arith, w.low)) i.passed (tail i.ahead) k split-here

    module _ {v : Tables} (h : Shows v (f k (read u))) where
      left : Shape (read v) [] 0 × ((D : List ℕ) × (queue (read v) q ≡ D ++ tail i.ahead))
      left =
          let d = turned w i.shape k i.passed (tail i.ahead) split-here in
          (rw h.reads d.0, (d.1.0, ap (λ (x : State). queue x q) h.reads ∙ d.1.1))

      pub walk-next : Walk f q t v (get_or u.threads.fwd k 0)
      walk-next =
          record {
            sound = h.sound;
            shape = left.0;
            passed = left.1.0;
            ahead = tail i.ahead;
            split = left.1.1;
            first = first_next;
            same =
                ap (each f (tail i.ahead)) h.reads ∙ sym (each_more f k (tail i.ahead) (read u))
                ∙ ap (λ (l : List ℕ). each f l (read u)) (sym (first-split i.ahead i.first n)) ∙ i.same;
          }

      pub walk-less : length (walk v.threads.fwd 41 (get_or u.threads.fwd k 0)) < length (walk u.threads.fwd 41 k)
      walk-less =
          let a = walk_is i.sound (omega (arith, w.low)) i.passed i.ahead i.split in
          let b = walk_is h.sound (omega (arith, w.low)) left.1.0 (tail i.ahead) left.1.1 in
          omega (
            arith,
            ap (λ (y : ℕ). length (walk u.threads.fwd 41 y)) i.first ∙ ap length a,
            ap (λ (y : ℕ). length (walk v.threads.fwd 41 y)) first_next ∙ ap length b,
            ap length (first-split i.ahead i.first n),
          )
