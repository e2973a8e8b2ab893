-- Finishing, and ending: END. Core is given back, the done requests are freed, a parent in LINK is taken in hand and made ready, and the block is freed.
use mathlib.Core.Bool.{Bool, true, false}
use mathlib.Core.Path.{◌≡◌, refl, sym, ap, ◌∙◌}
use mathlib.Core.Logic.{◌≢◌, ⊎_elim}
use mathlib.Core.List.{List, ◌∷◌}
use Prim.Native.Nat.{ℕ, ◌≤◌}
use native.Mathlib.Omega.{arith}
use lib.Seq.{get_or-set_same, get_or-set_other}
use Rattle.threads.specs.Threads.{count}
use Rattle.words.proofs.Truth.{tested}
use Rattle.words.specs.Words.{if◌then◌else◌, one_to}
use Rattle.tables.specs.declared.Task.{Task}
use Rattle.tables.specs.State.{State, core_queue, task_at, request_at, queue, level_of, units_of, with_free_tasks}
use Rattle.tables.specs.Blocks.{Running, InLink, Ending, no_task, moving, task_blocks, request_blocks}
use Rattle.calls.specs.declared.Call.{Call}
use Rattle.meaning.specs.Ready.{placed}
use Rattle.meaning.specs.Finish.{freed_task, given_back, pending, freed_done, parent_ready, finished, ended}
use Rattle.meaning.specs.Services.{end}
use Rattle.meaning.specs.Rules.{queue_for}
use Rattle.lawful.specs.Shape.{place_of, Pending, Shape, InHand}
use Rattle.words.specs.Counting.{one}
use Rattle.lawful.specs.Resting.{Rest, Lawful, Settled}
use Rattle.lawful.proofs.Each.Clearing.{unasked, ClearsAll, done-cleared}
use Rattle.lawful.proofs.Tested.Pendings.{quiet_of, pending-some}
use Rattle.threads.proofs.Tests.{one-to}
use Rattle.lawful.proofs.Blocks.Sums.{field-kept, sum-le}
use Rattle.lawful.proofs.Blocks.Shape.{held_place}
use Rattle.words.proofs.Counting.{one_same, one-other, one-eq, one-le}
use Rattle.lawful.proofs.Chained.Framed.{besides, frame-requests, frame-parents}
use Rattle.lawful.proofs.Blocks.Take.{take}
use Rattle.lawful.proofs.Blocks.Fields.{plain-fields}
use Rattle.lawful.proofs.Blocks.Enter.{hand-stands}
use Rattle.lawful.proofs.Ready.Made.{made-ready}
use Rattle.lawful.proofs.Blocks.Members.{level-best, level-worst, not_in, queue-place, runs-place, runs-stands}
use Rattle.lawful.proofs.Blocks.Leave.{stop}
use Rattle.lawful.proofs.Ready.Resting.{rest-made}
use Rattle.lawful.proofs.Each.Given.{back-frame, GivesBack, gives_back}
use Rattle.lawful.proofs.Blocks.Freed.{free-task, free-rest}
use Rattle.lawful.proofs.Each.Link.{park, park-rest}
use Rattle.lawful.proofs.Each.Calls.{settled, rest-stopped}

-- ---- A block that is in LINK is taken into the hand, and is then excused for having a child.
module _ {s : State} {h : List ℕ} (g : Shape s h 0) (p : ℕ) (some : 1 ≤ p) (low : p ≤ task_blocks) (l : place_of s h p ≡ InLink) where
  pub grab : InHand s p h p
  unfolding queue_for
  grab =
      let w = g.tasks p some low in
      record {
        some = some;
        low = low;
        out = not_in s h p (λ z. omega (arith, z, l));
        shape = take s p g (record {
          some = some;
          low = low;
          used = λ z. omega (arith, z, l);
          nine = g.sizes.queues;
          others = λ q y d. refl;
          own = λ q n. w.queued q n ∙ one-other _ q (λ z. let b = queue-place (place_of s h p) _ q z n in omega (arith, b, l));
          bound = g.blank.running;
          runs = λ z. omega (arith, w.runs, one_same s.running p z, ap (λ (x : ℕ). one x Running) l, one-other InLink Running (λ z. omega (arith, z)));
          run-others = λ y a d. refl;
          links = omega (arith, ap (λ (x : ℕ). one x InLink) l, one_same InLink InLink refl, one-other p 0 (λ z. omega (arith, z, some)), one_same p p refl);
          link-others = λ y a d. one-other y p d ∙ sym (one-other y 0 (λ z. omega (arith, z, a)));
          timed = g.timed;
          channel = refl;
        });
      }

-- the parent of a used block is in LINK, and is another
module _ {s : State} {h : List ℕ} (g : Shape s h 0) (k : ℕ) (low : k ≤ task_blocks) (n : (task_at s k).parent ≢ 0) (some : 1 ≤ k) where
  pub parent-low : (task_at s k).parent ≤ task_blocks
  parent-low = (g.tasks k some low).fields.parent

  pub parent-links : place_of s h (task_at s k).parent ≡ InLink
  parent-links =
      let p = (task_at s k).parent in
      one-eq _ InLink (omega (
        arith,
        g.links (task_at s k).parent (omega arith) parent-low,
        sum-le (λ t. one t.parent (task_at s k).parent) s.tasks k no_task (omega (arith, g.sizes.tasks)),
        one_same (task_at s k).parent (task_at s k).parent refl,
        one-other (task_at s k).parent 0 n,
        one-le (place_of s h (task_at s k).parent) InLink,
      ))

  pub parent-apart : (task_at s k).parent ≢ k
  parent-apart z = omega (arith, g.ranked.above k low n, ap g.ranked.rank z)

-- ---- A parent in LINK is made ready, and is then excused for having a child
pub parent-hand : {s : State} {k : ℕ} {h : List ℕ} → InHand s k h 0 → InHand (parent_ready s (task_at s k).parent) k h (task_at s k).parent
unfolding parent_ready
parent-hand {s} {k} i =
    ⊎_elim (λ z. rw (z.0, z.1) i)
    (λ z. rw z.0 (
    let g = i.shape in
    let j = grab g (task_at s k).parent (omega (arith, z.1)) (parent-low g k i.low z.1 i.some) (parent-links g k i.low z.1 i.some) in
    record { some = i.some; low = i.low; out = i.out; shape = (made-ready j).shape }))
    (tested (task_at s k).parent 0)

-- ---- Finishing.

-- a state but for its blocks, its pools and its queues
abbrev pub numbers : State → State
numbers s = with_free_tasks (unasked (besides s)) 0

pub record Finishes (s s' : State) (k : ℕ) (h : List ℕ) (m : List ℕ) : Type 0 where
  pub shape : Shape s' h 0
  pub rest : Rest s' m
  pub parents : (y : ℕ) → y ≢ k → (task_at s' y).parent ≡ (task_at s y).parent
  pub own : (task_at s k).parent ≡ 0 → (task_at s' k).parent ≡ 0
  pub tasks : (y : ℕ) → y ≢ k → y ≢ (task_at s k).parent → ((level : ℕ) → 1 ≤ level → level ≤ 3 → count y (queue s (core_queue level)) ≡ 0) → task_at s' y ≡ task_at s y
  pub others : numbers s' ≡ numbers s

module _ {s : State} {k : ℕ} {h : List ℕ} {m : List ℕ} (i : InHand s k h 0) (t : Rest s m) (n : (j : ℕ) → Pending s.requests k j → ⊥) where
  abbrev a : State
  a = given_back s k

  back : GivesBack a k (k ∷ h) 0 m
  back = gives_back i.shape t k i.some i.low

  best : 1 ≤ level_of s k
  best = level-best i.shape i.some i.low (λ z. omega (arith, z, held_place s h k))

  worst : level_of s k ≤ 3
  worst = level-worst i.shape i.some i.low (λ z. omega (arith, z, held_place s h k))

  abbrev b : State
  b = freed_done a k

  cleared : ClearsAll a b k (one_to request_blocks) (k ∷ h) 0 m
  cleared = done-cleared i.some back.shape back.rest (λ j p. n j (rw (frame-requests (back-frame s k)) at p))

  b-task : (y : ℕ) → task_at b y ≡ task_at a y
  b-task y = ap (λ (x : State). task_at x y) cleared.clears.others

  abbrev p : ℕ
  p = (task_at b k).parent

  pub coreless : (task_at b k).core ≢ 1
  coreless z = back.core (ap (λ (t : Task). t.core) (sym (b-task k)) ∙ z)

  pub ownerless : (r : ℕ) → 1 ≤ r → r ≤ request_blocks → 1 ≤ (request_at b r).place → (request_at b r).owner ≢ k
  ownerless r lo hi u z =
      let w = cleared.clears in
      let d = cleared.all r (one-to 16 r lo hi) z in
      w.quiet r (record { some = lo; low = hi; own = z; first = u; last = omega (arith, (w.shape.requests r lo hi).kind, d) })

  b-parents : (y : ℕ) → (task_at b y).parent ≡ (task_at s y).parent
  b-parents y = ap (λ (t : Task). t.parent) (b-task y) ∙ frame-parents (back-frame s k) y

  -- the block is freed, in a state that has it and the requests as b has
  last : {c : State} {e : ℕ} → Shape c (k ∷ h) e → Rest c m → task_at c k ≡ task_at b k → c.requests ≡ b.requests → p ≡ e
      → ((y : ℕ) → (task_at c y).parent ≡ (task_at b y).parent) → ((y : ℕ) → y ≢ (task_at s k).parent → task_at c y ≡ task_at b y) → numbers c ≡ numbers b → Finishes s (freed_task c k) k h m
  unfolding freed_task
  last {c} {e} g r o q l f v x =
      let j : InHand c k h e = record { some = i.some; low = i.low; out = i.out; shape = g } in
      let cl : (task_at c k).core ≢ 1 = λ z. coreless (ap (λ (t : Task). t.core) (sym o) ∙ z) in
      let ol : (r : ℕ) → 1 ≤ r → r ≤ request_blocks → 1 ≤ (request_at c r).place → (request_at c r).owner ≢ k = λ r. rw q (ownerless r) in
      let lk = ap (λ (t : Task). t.parent) o ∙ l in
      record {
        shape = free-task j cl ol lk;
        rest = free-rest j cl ol lk r;
        parents = λ y n. ap (λ (t : Task). t.parent) (get_or-set_other c.tasks k y no_task no_task n) ∙ f y ∙ b-parents y;
        own = λ z. ap (λ (t : Task). t.parent) (get_or-set_same c.tasks k no_task no_task (omega (arith, g.sizes.tasks, i.low)));
        tasks = λ y d d' z.
            get_or-set_other c.tasks k y no_task no_task d ∙ v y d'
            ∙ b-task y ∙ (back-frame s k).tasks y (λ b. ⊎_elim d (λ c. omega (arith, c, z (level_of s k) best worst)) b);
        others = x ∙ ap (λ (y : State). numbers y) cleared.clears.others ∙ ap (λ (y : State). numbers y) (back-frame s k).others;
      }

  pub finish : Finishes s (finished s k) k h m
  unfolding finished parent_ready
  finish =
      let w = cleared.clears in
      ⊎_elim
      (λ z. rw z.0 (last w.shape w.rest refl refl z.1 (λ y. refl) (λ y d. refl) refl))
      (λ z. rw z.0 (
      let g = w.shape in
      let d = parent-apart g k i.low z.1 i.some in
      let j = grab g p (omega (arith, z.1)) (parent-low g k i.low z.1 i.some) (parent-links g k i.low z.1 i.some) in
      let v = made-ready j in
      last v.shape (rest-made j v w.rest) (v.frame.tasks k (λ y. d (sym y))) (frame-requests v.frame) refl (frame-parents v.frame)
      (λ y x. v.frame.tasks y (λ z. x (z ∙ b-parents k))) (ap (λ (y : State). numbers y) v.frame.others)))
      (tested p 0)

-- ---- Ending.
module _ {s : State} {k : ℕ} {h : List ℕ} {m : List ℕ} (i : InHand s k h 0) (t : Rest s m) (u : 1 ≤ units_of s k → (task_at s k).core ≡ 0 → ⊥) where
  pub ends : Finishes s (ended s k) k h m
  unfolding ended
  ends = go (pending s k) refl
    where
      go : (b : Bool) → pending s k ≡ b → Finishes s (if b then placed s k Ending else finished s k) k h m
      go true e =
          let f = plain-fields s.clock (hand-stands i).fields Ending (omega arith) (omega arith) (λ z. omega (arith, z)) (λ z. omega (arith, z)) u in
          record {
            shape = park i (moving s.clock (task_at s k) Ending) 0 (omega arith) refl refl f (λ z. absurd (omega (arith, z))) (λ z. pending-some s k e)
                (omega (arith, one-other Ending InLink (λ z. omega (arith, z)))) (λ y a d. refl);
            rest = park-rest i (moving s.clock (task_at s k) Ending) t;
            parents = λ y d. ap (λ (t : Task). t.parent) (get_or-set_other s.tasks k y _ no_task d);
            own = λ z. field-kept (λ t. t.parent) s.tasks k k _ no_task refl ∙ z;
            tasks = λ y d d' z. get_or-set_other s.tasks k y _ no_task d;
            others = refl;
          }
      go false e = finish i t (quiet_of s k e)

-- ---- END.
pub end-keeps : {s : State} (c : Call) → Lawful s → s.running ≢ 0 → Settled (end s c).state
unfolding end
end-keeps {s} c g n =
    let w = runs-stands g.shape n in
    let e = ends (stop g.shape n) (rest-stopped s 0 g.rest) (λ a b. (w.fields.needs a b).0 (runs-place g.shape n)) in
    settled e.shape e.rest
