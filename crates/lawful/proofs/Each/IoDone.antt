-- I/O done: the request leaves the channel, which is then empty with a queue behind it, and that is excused until the next goes on. Its owner is made ready,
-- or finishes, or neither, as it waits for the request or not.
use mathlib.Core.Bool.{Bool, true, false, not, ◌&&◌}
use mathlib.Core.Path.{◌≡◌, refl, sym, ap, ◌∙◌, fun_ext}
use mathlib.Core.Logic.{◌≢◌, ⊎_elim}
use mathlib.Core.List.{List, [], ◌∷◌}
use Prim.Native.Nat.{ℕ, ◌≤◌}
use native.Mathlib.Omega.{arith}
use lib.ListN.{set, get_or}
use lib.Seq.{set-set, get_or-set_same, get_or-set_other}
use lib.Dec.{eqb}
use Rattle.threads.specs.Threads.{count}
use Rattle.threads.proofs.Lists.{count-nil}
use Rattle.words.proofs.Truth.{tested}
use Rattle.words.specs.Words.{if◌then◌else◌, up_by}
use Rattle.tables.specs.declared.Request.{Request}
use Rattle.tables.specs.State.{State, event_queue, channel_queue, request_of, with_channel, task_at, request_at, queue, level_of}
use Rattle.tables.specs.Blocks.{Running, InLink, InCheck, Ending, Queued, OnChannel, Done, request, no_request, task_blocks}
use Rattle.calls.specs.declared.Call.{Call}
use Rattle.meaning.specs.Ready.{made_ready}
use Rattle.meaning.specs.Finish.{freed_request, pending, finished}
use Rattle.meaning.specs.Channel.{channel_filled, channel_level}
use Rattle.meaning.specs.Services.{io_done}
use Rattle.lawful.specs.Shape.{Hand, place_of, Pending, Carried, Shape, InHand}
use Rattle.lawful.specs.Resting.{Rest, Lawful, Settled}
use Rattle.lawful.proofs.Blocks.Shape.{held_place, rest-place}
use Rattle.words.proofs.Counting.{one_same, one-other, one-eq}
use Rattle.threads.proofs.Queues.{count-cons}
use Rattle.lawful.proofs.Blocks.Take.{take}
use Rattle.lawful.proofs.Blocks.Members.{not_in, queue-place}
use Rattle.lawful.proofs.Blocks.Ask.{asking, ask, pending-kept, free-request}
use Rattle.lawful.proofs.Ready.Made.{made-ready}
use Rattle.lawful.proofs.Ready.Resting.{rest-made}
use Rattle.lawful.proofs.Each.Clearing.{rest-freed, clear-free}
use Rattle.lawful.proofs.Each.Finish.{Finishes, finish}
use Rattle.lawful.proofs.Tested.Pendings.{quiet_of, pending-some}
use Rattle.lawful.proofs.Each.Channel.{rest-asking, starts}
use Rattle.lawful.proofs.Each.Calls.{settled}

-- ---- A task in CHECK, or ending, is taken into the hand: nothing changes.
module _ {s : State} {h : List ℕ} {e : ℕ} (g : Shape s h e) (k : ℕ) (some : 1 ≤ k) (low : k ≤ task_blocks) (l : (7 ≤ place_of s h k) × (place_of s h k ≤ 8)) where
  pub seize : InHand s k h e
  seize =
      let w = g.tasks k some low in
      record {
        some = some;
        low = low;
        out = not_in s h k (λ z. omega (arith, z, l));
        shape = take s k g (record {
          some = some;
          low = low;
          used = λ z. omega (arith, z, l);
          nine = g.sizes.queues;
          others = λ q y d. refl;
          own = λ q n. w.queued q n ∙ one-other _ q (λ z. let b = queue-place (place_of s h k) _ q z n in omega (arith, b, l));
          bound = g.blank.running;
          runs = λ z. omega (arith, w.runs, one_same s.running k z, one-other (place_of s h k) Running (λ y. omega (arith, y, l)));
          run-others = λ y a d. refl;
          links = omega (arith, one-other (place_of s h k) InLink (λ z. omega (arith, z, l)));
          link-others = λ y a d. refl;
          timed = g.timed;
          channel = refl;
        });
      }

-- the owner of the request on the channel; that request, done; the state with it off the channel
abbrev pub owner : State → ℕ
owner s = (request_at s s.channel).owner

abbrev pub over : State → Request
over s = let q = request_at s s.channel in request Done q.owner q.device q.command q.bytes

abbrev pub off : State → State
off s = asking s s.channel (over s) 0 s.free_requests s.queues

module _ {s : State} (n : s.channel ≢ 0) where
  module _ {h : List ℕ} {e : ℕ} (g : Shape s h e) where
    was : Carried s h s.channel
    was = g.requests s.channel (omega arith) g.blank.channel

    on : (request_at s s.channel).place ≡ OnChannel
    on = one-eq _ OnChannel (sym was.runs ∙ one_same s.channel s.channel refl)

    pub over-same : request_at (off s) s.channel ≡ (over s)
    over-same = get_or-set_same s.requests s.channel (over s) no_request (omega (arith, g.sizes.requests, g.blank.channel))

    owner-kept : (i : ℕ) → (get_or (set s.requests s.channel (over s)) i no_request).owner ≡ (request_at s i).owner
    owner-kept i = ⊎_elim (λ c. rw (c.1, over-same)) (λ c. rw (get_or-set_other s.requests s.channel i (over s) no_request c.1)) (tested i s.channel)

    -- the request leaves the channel, where nobody in CHECK waits for it and who is ending has another
    leaves : ((y : ℕ) → 1 ≤ y → y ≤ task_blocks → place_of s h y ≡ InCheck → (task_at s y).request ≢ s.channel)
        → ((y : ℕ) → 1 ≤ y → y ≤ task_blocks → place_of s h y ≡ Ending → (i : ℕ) × Pending (set s.requests s.channel (over s)) y i) → Shape (off s) h e
    unfolding channel_level
    leaves f t =
        ask s s.channel (over s) g (record {
          some = omega arith;
          low = g.blank.channel;
          nine = g.sizes.queues;
          same = λ i d. refl;
          others = λ y d. refl;
          own = was.queued ∙ one-other _ Queued (λ i. omega (arith, i, on)) ∙ sym (one-other Done Queued (λ i. omega (arith, i)));
          kind = omega arith;
          free = λ i. absurd (omega (arith, i));
          used = λ i. was.used (omega (arith, on));
          owned = λ i. was.owned (omega (arith, on));
          bound = omega arith;
          runs = one-other 0 s.channel (λ z. n (sym z)) ∙ sym (one-other Done OnChannel (λ i. omega (arith, i)));
          run-others = λ y a d. one-other 0 y (λ z. omega (arith, z, a)) ∙ sym (one-other s.channel y (λ z. d (sym z)));
          requests_free = g.blank.free_requests;
          free_requests = was.free_requests ∙ one-other _ 0 (λ i. omega (arith, i, on)) ∙ sym (one-other Done 0 (λ i. omega (arith, i)));
          free_requests-others = λ y d. refl;
          checks = λ y a b i. pending-kept s.channel (over s) (f y a b i) ((g.tasks y a b).checks i);
          ends = t;
          levelled = ap (λ (k : ℕ → ℕ). up_by k (queue s channel_queue)) (fun_ext (λ i. ap (level_of s) (owner-kept (request_of i)))) ∙ g.levelled;
        })

    -- a task that has this request is its owner
    owns : (y i : ℕ) → Pending s.requests y i → y ≢ (owner s) → i ≢ s.channel
    owns y i p d z = d (sym p.own ∙ ap (λ (j : ℕ). (request_at s j).owner) z)

  -- with the owner in hand
  module _ (i : InHand s (owner s) [] 0) where
    others : (y : ℕ) (p : ℕ) → p ≢ Hand → place_of s ((owner s) ∷ []) y ≡ p → y ≢ (owner s)
    others y p d e z = d (sym e ∙ ap (place_of s ((owner s) ∷ [])) z ∙ held_place s [] (owner s))

    owner-off : InHand (off s) (owner s) [] 0
    owner-off =
        let g = i.shape in
        record {
          some = i.some;
          low = i.low;
          out = i.out;
          shape = leaves g
              (λ y a b e. owns g y _ ((g.tasks y a b).checks e) (others y InCheck (λ z. omega (arith, z)) e))
              (λ y a b e. let p = (g.tasks y a b).ends e in (p.0, pending-kept s.channel (over s) (owns g y p.0 p.1 (others y Ending (λ z. omega (arith, z)) e)) p.1));
        }

    owner-freed : InHand (freed_request (off s) s.channel) (owner s) [] 0
    owner-freed =
        record {
          some = i.some;
          low = i.low;
          out = i.out;
          shape = free-request owner-off.shape s.channel (omega arith) i.shape.blank.channel (ap (λ (q : Request). q.place) (over-same i.shape));
        }

-- ---- The rules of rest, while the channel is empty.
pub excused : {s : State} → Lawful s → (n : s.channel ≢ 0) → Rest (off s) (0 ∷ [])
excused {s} g n =
    let a = rest-asking {s = s} {m = []} s.channel (over s) 0 s.free_requests s.queues (λ q d. refl) (record { asleep = g.rest.asleep; stuck = g.rest.stuck }) in
    record {
      asleep = record { asleep = λ y c z. a.asleep.asleep y c (count-nil y) };
      stuck = a.stuck;
      flowing = record { flowing = λ x. absurd (omega (arith, x, count-cons 0 0 [], one_same 0 0 refl)) };
    }

pub resumed : {s : State} → Shape s [] 0 → Rest s (0 ∷ []) → Settled (channel_filled s)
resumed {s} g r =
    let w = starts g (record {
      asleep = record { asleep = λ y c z. r.asleep.asleep y c (omega (arith, count-cons 0 y [], count-nil y, one-other 0 y (λ i. omega (arith, c, g.none event_queue, ap (λ (x : ℕ). count x (queue s event_queue)) i)))) };
      stuck = r.stuck;
    }) in
    settled w.shape w.rest

-- ---- The owner of the request on the channel, in CHECK or ending: in hand, with the request's block freed.
module _ {s : State} (g : Lawful s) (n : s.channel ≢ 0) where
  pub owner-used : (1 ≤ owner s) × (owner s ≤ task_blocks)
  owner-used = let w = (was n g.shape).used (omega (arith, on n g.shape)) in (w.0, w.1)

  owner-hand : (7 ≤ (task_at s (owner s)).place) × ((task_at s (owner s)).place ≤ 8) → InHand s (owner s) [] 0
  owner-hand l = seize g.shape (owner s) owner-used.0 owner-used.1 (rw (rest-place s (owner s)) l)

  pub freed-hand : (7 ≤ (task_at s (owner s)).place) × ((task_at s (owner s)).place ≤ 8) → InHand (freed_request (off s) s.channel) (owner s) [] 0
  freed-hand l = owner-freed n (owner-hand l)

  pub freed-rest : Rest (freed_request (off s) s.channel) (0 ∷ [])
  freed-rest = rest-freed s.channel (excused g n)

  -- it is ending, and this was its last
  pub last-quiet : (task_at s (owner s)).place ≡ Ending → pending (off s) (owner s) ≡ false
      → (j : ℕ) → Pending (freed_request (off s) s.channel).requests (owner s) j → ⊥
  last-quiet p q =
      let d = ap (λ (x : Request). x.place) (over-same n g.shape) in
      let o = (owner-off n (owner-hand (omega (arith, p)))).shape in
      (clear-free owner-used.0 o (excused g n) (quiet_of (off s) (owner s) q) s.channel (omega arith) g.shape.blank.channel d).clears.quiet

  pub freed-finishes : (task_at s (owner s)).place ≡ Ending → pending (off s) (owner s) ≡ false
      → Finishes (freed_request (off s) s.channel) (finished (freed_request (off s) s.channel) (owner s)) (owner s) [] (0 ∷ [])
  freed-finishes p q = finish (freed-hand (omega (arith, p))) freed-rest (last-quiet p q)

-- ---- The three cases.
module _ {s : State} (g : Lawful s) (n : s.channel ≢ 0) where
  abbrev k : ℕ
  k = (request_at s s.channel).owner

  -- its owner waits on it in CHECK
  checked : (task_at s k).place ≡ InCheck → Settled (channel_filled (made_ready (freed_request (off s) s.channel) k))
  checked p =
      let i = freed-hand g n (omega (arith, p)) in
      let d = made-ready i in
      resumed d.shape (rest-made i d (freed-rest g n))

  -- its owner is ending, and this was the last
  ended-now : (task_at s k).place ≡ Ending → pending (off s) k ≡ false → Settled (channel_filled (finished (freed_request (off s) s.channel) k))
  ended-now p q = let f = freed-finishes g n p q in resumed f.shape f.rest

  -- otherwise
  marked : ((task_at s k).place ≡ InCheck → (task_at s k).request ≢ s.channel) → ((task_at s k).place ≡ Ending → pending (off s) k ≡ true) → Settled (channel_filled (off s))
  marked c t =
      let v = g.shape in
      resumed
      (leaves n v
      (λ y a b e z.
      let p = (v.tasks y a b).checks e in
      let o : k ≡ y = ap (λ (j : ℕ). (request_at s j).owner) (sym z) ∙ p.own in
      c (ap (λ (x : ℕ). (task_at s x).place) o ∙ sym (rest-place s y) ∙ e) (ap (λ (x : ℕ). (task_at s x).request) o ∙ z))
      (λ y a b e.
      let p = (v.tasks y a b).ends e in
      ⊎_elim
      (λ z.
      let o : k ≡ y = ap (λ (j : ℕ). (request_at s j).owner) (sym z.1) ∙ p.1.own in
      rw (← o) (pending-some (off s) k (t (ap (λ (x : ℕ). (task_at s x).place) o ∙ sym (rest-place s y) ∙ e))))
      (λ z. (p.0, pending-kept s.channel (over s) z.1 p.1))
      (tested p.0 s.channel)))
      (excused g n)

-- ---- The meaning frees the block as it leaves the channel, and the code once it is marked done: one state.
freed-done : (s : State) → freed_request (with_channel s 0) s.channel ≡ freed_request (off s) s.channel
unfolding freed_request
freed-done s = rw (set-set s.requests s.channel (over s) no_request)

pub done_first : (s : State) (c : Call) → let r = s.channel in let k = owner s in
    (io_done s c).state ≡ channel_filled
    (if eqb (task_at s k).place InCheck && eqb (task_at s k).request r then made_ready (freed_request (off s) r) k
    else if eqb (task_at s k).place Ending && not (pending (off s) k) then finished (freed_request (off s) r) k
    else off s)
unfolding io_done
done_first s c = rw (← freed-done s)

pub transferred-keeps : {s : State} (c : Call) → Lawful s → s.channel ≢ 0 → Settled (io_done s c).state
transferred-keeps {s} c g n =
    rw (done_first s c)
    (⊎_elim
    (λ a.
    ⊎_elim
    (λ b. rw (a.0, b.0) (checked g n a.1))
    (λ b. rw (a.0, b.0) (rest_of (λ z. b.1)))
    (tested (task_at s (owner s)).request s.channel))
    (λ a. rw a.0 (rest_of (λ z. absurd (a.1 z))))
    (tested (task_at s (owner s)).place InCheck))
  where
    rest_of : ((task_at s (owner s)).place ≡ InCheck → (task_at s (owner s)).request ≢ s.channel)
        → Settled (channel_filled (if eqb (task_at s (owner s)).place Ending && not (pending (off s) (owner s)) then finished (freed_request (off s) s.channel) (owner s) else off s))
    rest_of f =
        ⊎_elim
        (λ e. rw e.0 (go e (pending (off s) (owner s)) refl))
        (λ e. rw e.0 (marked g n f (λ z. absurd (e.1 z))))
        (tested (task_at s (owner s)).place Ending)
      where
        go : (eqb (task_at s (owner s)).place Ending ≡ true) × ((task_at s (owner s)).place ≡ Ending) → (b : Bool) → pending (off s) (owner s) ≡ b
            → Settled (channel_filled (if not b then finished (freed_request (off s) s.channel) (owner s) else off s))
        go e true q = marked g n f (λ z. q)
        go e false q = ended-now g n e.1 q
