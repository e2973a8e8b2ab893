-- A block in hand is parked where no queue is: in LINK, in CHECK, as ending. And LINK: the caller is parked as the child's parent, so that it is excused no
-- more.
use mathlib.Core.Path.{◌≡◌, refl, sym, ap, ◌∙◌}
use mathlib.Core.Logic.{◌≢◌}
use mathlib.Core.List.{List, [], ◌∷◌}
use Prim.Native.Nat.{ℕ, ◌+◌, ◌≤◌, ◌<◌}
use native.Mathlib.Omega.{arith}
use lib.Seq.{get_or-set_other}
use Rattle.words.specs.Words.{least}
use Rattle.tables.specs.declared.Task.{Task}
use Rattle.tables.specs.State.{State, task_at, level_of, units_of, with_running, with_task}
use Rattle.tables.specs.Blocks.{Free, Running, InLink, InCheck, Ending, no_task, moving, since_in}
use Rattle.calls.specs.declared.Call.{Call}
use Rattle.meaning.specs.Ready.{made_ready}
use Rattle.meaning.specs.Services.{stopped, created, link}
use Rattle.meaning.specs.Rules.{queue_for}
use Rattle.lawful.specs.Shape.{Fields, Pending, Shape, InHand}
use Rattle.words.specs.Counting.{one, bit}
use Rattle.lawful.specs.Resting.{Rest, Lawful, Settled}
use Rattle.words.proofs.Counting.{one_same, one-other}
use Rattle.lawful.proofs.Blocks.Fields.{SameTask, plain-fields}
use Rattle.lawful.proofs.Blocks.Put.{put}
use Rattle.lawful.proofs.Blocks.Enter.{hand-stands, hand-count, hand-runs, hand-timed}
use Rattle.lawful.proofs.Ready.Made.{made-ready}
use Rattle.lawful.proofs.Blocks.Leave.{stop}
use Rattle.lawful.proofs.Blocks.Members.{runs-place, runs-stands, queue-place}
use Rattle.words.proofs.Free.{least-in}
use Rattle.lawful.proofs.Ready.Resting.{rest-alone, rest-made}
use Rattle.lawful.proofs.Each.Calls.{settled, new, new-rest, rest-stopped}
use Rattle.threads.specs.Threads.{QUEUES}

-- ---- Parking.
module _ {s : State} {k : ℕ} {h : List ℕ} {e : ℕ} (i : InHand s k h e) (x : Task) (e' : ℕ) (kinds : (6 ≤ x.place) × (x.place ≤ 8))
    (same : SameTask (task_at s k) x) (since : x.since ≡ since_in s.clock x.place) (f : Fields s.directory x.place x) where
  pub park : (x.place ≡ InCheck → Pending s.requests k x.request) → (x.place ≡ Ending → (r : ℕ) × Pending s.requests k r)
      → one x.place InLink + one k e' ≡ one k e → ((y : ℕ) → 1 ≤ y → y ≢ k → one y e' ≡ one y e)
      → Shape (with_task s k x) h e'
  park checks ends links others =
      put s k x i.shape (record {
        some = i.some;
        low = i.low;
        out = i.out;
        same = same;
        used = omega (arith, kinds);
        fields = f;
        nine = i.shape.sizes.queues;
        others = λ q y d. refl;
        own = λ q l. hand-count i q l ∙ sym (parked q l);
        bound = i.shape.blank.running;
        runs = hand-runs i ∙ sym (one-other x.place Running (λ z. omega (arith, z, kinds)));
        run-others = λ y a d. refl;
        checks = checks;
        ends = ends;
        since = since;
        links = links;
        link-others = others;
        timed = hand-timed i x;
        channel = refl;
      })
    where
      parked : (q : ℕ) → q < QUEUES → one (queue_for x.place (level_of s k)) q ≡ 0
      parked q l = one-other _ q (λ z. let b = queue-place x.place (level_of s k) q z l in omega (arith, b, kinds))

pub park-rest : {s : State} {k : ℕ} {h m : List ℕ} {e : ℕ} → InHand s k h e → (x : Task) → Rest s m → Rest (with_task s k x) m
park-rest {s} {k} i x r = rest-alone {s = s} {k = k} refl refl refl refl refl (λ y d. get_or-set_other s.tasks k y x no_task d) (hand-count i) r

-- ---- LINK.
module _ {s : State} (g : Lawful s) (m : ℕ) (known : m < s.directory.modules) (some : s.free_tasks ≢ 0) (n : s.running ≢ 0) where
  abbrev k : ℕ
  k = least s.free_tasks

  -- the caller is not the block that is free
  pub caller_apart : s.running ≢ k
  caller_apart z =
      let b = g.shape.blank in
      let r = runs-stands g.shape n in
      omega (
        arith,
        r.free_tasks,
        ap (λ (x : ℕ). one x Free) (runs-place g.shape n),
        one-other Running Free (λ z. omega (arith, z)),
        least-in s.free_tasks 25 (omega arith) b.free_tasks some b.free_tasks-none,
        ap (bit s.free_tasks) z,
      )

  abbrev child : State
  child = created s k m s.running

  child-hand : InHand child k [] s.running
  child-hand = new g m known some s.running g.shape.blank.running caller_apart

  caller-hand : InHand (with_running child 0) s.running (k ∷ []) s.running
  unfolding created
  caller-hand = stop child-hand.shape n

  caller-needs : 1 ≤ units_of (with_running child 0) s.running → (task_at (with_running child 0) s.running).core ≡ 0 → ⊥
  unfolding created
  caller-needs =
      let w = runs-stands child-hand.shape n in
      λ a b. (w.fields.needs a b).0 (runs-place child-hand.shape n)

  pub linked : InHand (stopped child InLink) k [] 0
  unfolding stopped created
  linked =
      record {
        some = child-hand.some;
        low = child-hand.low;
        out = child-hand.out;
        shape =
            park caller-hand (moving child.clock (task_at child s.running) InLink) 0 (omega arith) refl refl
            (plain-fields child.clock (hand-stands caller-hand).fields InLink (omega arith) (omega arith) (λ z. omega (arith, z)) (λ z. omega (arith, z)) caller-needs)
            (λ z. absurd (omega (arith, z))) (λ z. absurd (omega (arith, z)))
            (omega (arith, one_same InLink InLink refl, one-other s.running 0 n, one_same s.running s.running refl))
            (λ y a d. one-other y 0 (λ z. omega (arith, z, a)) ∙ sym (one-other y s.running d));
      }

  linked-rest : Rest (stopped child InLink) []
  unfolding stopped created
  linked-rest =
      park-rest caller-hand (moving child.clock (task_at child s.running) InLink)
      (rest-stopped child 0 (new-rest g m known some s.running g.shape.blank.running caller_apart))

  pub link-settled : Settled (made_ready (stopped child InLink) k)
  link-settled = let d = made-ready linked in settled d.shape (rest-made linked d linked-rest)

pub link-keeps : {s : State} (c : Call) → Lawful s → c.number < s.directory.modules → s.free_tasks ≢ 0 → s.running ≢ 0 → Settled (link s c).state
unfolding link
link-keeps c g known some n = link-settled g c.number known some n
