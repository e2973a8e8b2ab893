-- The channel: the first of its queue goes on an empty channel; READ and WRITE, CHECK. Each is a change of one request block, or a caller that is parked.
use mathlib.Core.Bool.{Bool, true, false, not}
use mathlib.Core.Path.{◌≡◌, refl, sym, ap, ap₂, ◌∙◌, fun_ext}
use mathlib.Core.Logic.{◌≢◌, ⊎_elim}
use mathlib.Core.List.{List, [], ◌∷◌}
use Prim.Native.Nat.{ℕ, ◌+◌, ◌-◌, ◌≤◌}
use native.Mathlib.Omega.{arith}
use lib.ListN.{set, get_or}
use lib.Seq.{get_or-set_same, get_or-set_other}
use lib.Dec.{eqb}
use Rattle.threads.specs.Threads.{hd, count, without}
use Rattle.words.proofs.Truth.{tested}
use Rattle.words.specs.Words.{if◌then◌else◌, is_empty, up_by, inserted_by, dropping, least}
use Rattle.words.proofs.Changes.{dropping-low}
use Rattle.tables.specs.declared.Request.{Request}
use Rattle.tables.specs.State.{State, event_queue, channel_queue, core_queue, node, request_of, task_at, request_at, queue, level_of}
use Rattle.tables.specs.Blocks.{InLink, InCheck, Queued, OnChannel, Done, request, no_request, awaiting_request, request_blocks}
use Rattle.calls.specs.declared.Call.{Call}
use Rattle.meaning.specs.Conditions.{enough}
use Rattle.meaning.specs.Finish.{freed_request}
use Rattle.meaning.specs.Channel.{queued, channel_filled, channel_level}
use Rattle.meaning.specs.Services.{asked, read_or_write, awaits_request, check}
use Rattle.lawful.specs.Shape.{Pending, Carried, Shape}
use Rattle.lawful.specs.Resting.{Asleep, Stuck, Rest, Lawful, Settled}
use Rattle.threads.proofs.Tests.{emptied, filled}
use Rattle.words.proofs.Counting.{one_same, one-other, one-eq}
use Rattle.threads.proofs.Queues.{count-cons, count-without, count-placed, set-nine, set-queue, set-others, up_same, up-placed, up-without}
use Rattle.lawful.proofs.Blocks.Fields.{check-fields}
use Rattle.lawful.proofs.Blocks.Enter.{hand-stands}
use Rattle.lawful.proofs.Blocks.Members.{channel-high, channel-low, channel-queued, runs-place, runs-stands}
use Rattle.lawful.proofs.Blocks.Leave.{stop}
use Rattle.words.proofs.Free.{least-in, least-some, least-low, dropped-same, dropped-other}
use Rattle.lawful.proofs.Blocks.Ask.{asking, ask, pending-kept, free-request}
use Rattle.lawful.proofs.Each.Link.{park, park-rest}
use Rattle.lawful.proofs.Each.Clearing.{rest-freed}
use Rattle.lawful.proofs.Each.Calls.{settled, rest-stopped}

-- the rules of rest but for the channel
pub record RestOff (s : State) (m : List ℕ) : Type 0 where
  pub asleep : Asleep s m
  pub stuck : (level : ℕ) → 1 ≤ level → level ≤ 3 → Stuck s level

-- they see neither requests nor the channel
pub rest-asking : {s : State} {m : List ℕ} (r : ℕ) (x : Request) (c f : ℕ) (l : List (List ℕ)) → ((q : ℕ) → q ≢ channel_queue → get_or l q [] ≡ queue s q)
    → RestOff s m → RestOff (asking s r x c f l) m
unfolding enough
rest-asking {s} r x c f l same a =
    record {
      asleep = record { asleep = λ y z n. a.asleep.asleep y (rw (same event_queue (λ i. omega (arith, i))) at z) n };
      stuck = λ level lo hi. record { stuck = λ k t e. (a.stuck level lo hi).stuck k t (sym (same (core_queue level) (λ i. omega (arith, i, hi))) ∙ e) };
    }

-- ---- The first of the channel queue goes on the channel.
module _ {s : State} {h : List ℕ} {e : ℕ} (g : Shape s h e) (z : s.channel ≡ 0) (n : ℕ) (l : List ℕ) (q : queue s channel_queue ≡ n ∷ l) where
  here : 1 ≤ count n (queue s channel_queue)
  here = rw q (omega (arith, count-cons n n l, one_same n n refl))

  abbrev r : ℕ
  r = n - 24

  abbrev on-it : Request
  on-it = let t = request_at s (n - 24) in request OnChannel t.owner t.device t.command t.bytes

  was-queued : (request_at s (n - 24)).place ≡ 1
  was-queued = channel-queued g n here

  r_some : 1 ≤ n - 24
  r_some = omega (arith, channel-high g n here)

  r-low : n - 24 ≤ request_blocks
  r-low = omega (arith, channel-low g n here)

  n-node : n ≡ (n - 24) + 24
  n-node = omega (arith, channel-high g n here)

  was : Carried s h (n - 24)
  was = g.requests (n - 24) r_some r-low

  owner-kept : (i : ℕ) → (get_or (set s.requests (n - 24) on-it) i no_request).owner ≡ (request_at s i).owner
  owner-kept i = ⊎_elim (λ c. rw (c.1, get_or-set_same s.requests (n - 24) on-it no_request (omega (arith, g.sizes.requests, r-low)))) (λ c. rw (get_or-set_other s.requests (n - 24) i on-it no_request c.1)) (tested i (n - 24))

  still : {y i : ℕ} → Pending s.requests y i → Pending (set s.requests (n - 24) on-it) y i
  still {y} {i} p =
      ⊎_elim
      (λ c. let o = ap (λ (x : ℕ). get_or (set s.requests (n - 24) on-it) x no_request) c.1 ∙ get_or-set_same s.requests (n - 24) on-it no_request (omega (arith, g.sizes.requests, r-low)) in
      record { some = p.some; low = p.low; own = owner-kept i ∙ p.own; first = rw o (omega arith); last = rw o (omega arith) })
      (λ c. pending-kept (n - 24) on-it c.1 p) (tested i (n - 24))

  abbrev rest-queue : List (List ℕ)
  rest-queue = set s.queues channel_queue (without n (queue s channel_queue))

  pub goes_on : Shape (asking s (n - 24) on-it (n - 24) s.free_requests rest-queue) h e
  unfolding channel_level
  goes_on =
      let m = without n (queue s channel_queue) in
      let nine = g.sizes.queues in
      let gone = set-queue s.queues channel_queue m nine (omega arith) in
      ask s (n - 24) on-it g (record {
        some = r_some;
        low = r-low;
        nine = set-nine s.queues channel_queue m nine (omega arith);
        same = λ i d. set-others s.queues channel_queue m nine (omega arith) i d;
        others = λ y d. rw gone (omega (arith, count-without n y (queue s channel_queue) here, one-other n y (λ i. d (sym i ∙ n-node))));
        own = rw (gone, ← n-node) (omega (arith, count-without n n (queue s channel_queue) here, one_same n n refl, was.queued, ap (λ (x : ℕ). count x (queue s channel_queue)) n-node, one_same (request_at s (n - 24)).place Queued was-queued, one-other OnChannel Queued (λ i. omega (arith, i))));
        kind = omega arith;
        free = λ i. absurd (omega (arith, i));
        used = λ i. was.used (omega (arith, was-queued));
        owned = λ i. was.owned (omega (arith, was-queued));
        bound = r-low;
        runs = one_same (n - 24) (n - 24) refl ∙ sym (one_same OnChannel OnChannel refl);
        run-others = λ y a d. one-other (n - 24) y (λ i. d (sym i)) ∙ sym (one-other s.channel y (λ i. omega (arith, i, z, a)));
        requests_free = g.blank.free_requests;
        free_requests = was.free_requests ∙ one-other _ 0 (λ i. omega (arith, i, was-queued)) ∙ sym (one-other OnChannel 0 (λ i. omega (arith, i)));
        free_requests-others = λ y d. refl;
        checks = λ y a b i. still ((g.tasks y a b).checks i);
        ends = λ y a b i. let p = (g.tasks y a b).ends i in (p.0, still p.1);
        levelled =
            ap₂ up_by (fun_ext (λ i. ap (level_of s) (owner-kept (request_of i)))) gone
            ∙ up-without (channel_level s) n (queue s channel_queue) g.levelled;
      })

pub record Starts (s : State) (h : List ℕ) (e : ℕ) (m : List ℕ) : Type 0 where
  pub shape : Shape s h e
  pub rest : Rest s m

pub starts : {s : State} {h : List ℕ} {e : ℕ} {m : List ℕ} → Shape s h e → RestOff s m → Starts (channel_filled s) h e m
unfolding channel_filled
starts {s} {h} {e} {m} g a =
    ⊎_elim (λ z. rw z.0 (go z.1 (is_empty (queue s channel_queue)) refl))
    (λ z. rw z.0 (record { shape = g; rest = record { asleep = a.asleep; stuck = a.stuck; flowing = record { flowing = λ x c. absurd (z.1 c) } } })) (tested s.channel 0)
  where
    n : ℕ
    n = hd (queue s channel_queue)

    go : s.channel ≡ 0 → (b : Bool) → is_empty (queue s channel_queue) ≡ b
        → Starts (if not b then asking s (hd (queue s channel_queue) - 24) (let t = request_at s (hd (queue s channel_queue) - 24) in request OnChannel t.owner t.device t.command t.bytes) (hd (queue s channel_queue) - 24) s.free_requests (set s.queues channel_queue (without (hd (queue s channel_queue)) (queue s channel_queue))) else s) h e m
    go z true f =
        record { shape = g; rest = record { asleep = a.asleep; stuck = a.stuck; flowing = record { flowing = λ x c. emptied (queue s channel_queue) f } } }
    go z false f =
        let p = filled (queue s channel_queue) f in
        let o = goes_on g z (hd (queue s channel_queue)) p.0 p.1 in
        let w = rest-asking {s = s} (hd (queue s channel_queue) - 24) _ (hd (queue s channel_queue) - 24) s.free_requests (set s.queues channel_queue (without (hd (queue s channel_queue)) (queue s channel_queue)))
        (λ i d. set-others s.queues channel_queue _ g.sizes.queues (omega arith) i d) a in
        record {
          shape = o;
          rest = record {
            asleep = w.asleep;
            stuck = w.stuck;
            flowing = record { flowing = λ x c. absurd (omega (arith, c, r_some g z (hd (queue s channel_queue)) p.0 p.1)) };
          };
        }

-- ---- The lowest free request block.
module _ {s : State} {h : List ℕ} {e : ℕ} (g : Shape s h e) (some : s.free_requests ≢ 0) where
  pub free_requests-some : 1 ≤ least s.free_requests
  free_requests-some = least-some s.free_requests 17 (omega arith) g.blank.free_requests some g.blank.free_requests-none

  pub free_requests-low : least s.free_requests ≤ request_blocks
  free_requests-low = omega (arith, least-low s.free_requests 17 (omega arith) g.blank.free_requests some g.blank.free_requests-none)

  pub free_requests-free : (request_at s (least s.free_requests)).place ≡ 0
  free_requests-free =
      let i = least-in s.free_requests 17 (omega arith) g.blank.free_requests some g.blank.free_requests-none in
      one-eq _ 0 (sym (g.requests (least s.free_requests) free_requests-some free_requests-low).free_requests ∙ i)

-- ---- READ, WRITE.
module _ {s : State} (g : Lawful s) (n : s.running ≢ 0) (some : s.free_requests ≢ 0) (device command bytes : ℕ) (lo : device ≤ 249) (c : (13 ≤ command) × (command ≤ 14)) (b : 1 ≤ bytes) where
  abbrev new-r : ℕ
  new-r = least s.free_requests

  abbrev new-one : Request
  new-one = request Queued s.running device command bytes

  was_free : (request_at s new-r).place ≡ 0
  was_free = free_requests-free g.shape some

  not-pending : {y i : ℕ} → Pending s.requests y i → i ≢ new-r
  not-pending p z = omega (arith, p.first, ap (λ (j : ℕ). (request_at s j).place) z, was_free)

  -- the level by which the channel queue is ordered, with the new request
  key : ℕ → ℕ
  key i = level_of s (get_or (set s.requests new-r new-one) (request_of i) no_request).owner

  abbrev longer : List ℕ
  longer = inserted_by key (node new-r) (queue s channel_queue)

  entered : Shape (asking s new-r new-one s.channel (dropping s.free_requests new-r) (set s.queues channel_queue longer)) [] 0
  unfolding channel_level key
  entered =
      let v = g.shape in
      let w = v.requests new-r (free_requests-some v some) (free_requests-low v some) in
      let nine = v.sizes.queues in
      let gone = set-queue s.queues channel_queue longer nine (omega arith) in
      ask s new-r new-one v (record {
        some = free_requests-some v some;
        low = free_requests-low v some;
        nine = set-nine s.queues channel_queue longer nine (omega arith);
        same = λ i d. set-others s.queues channel_queue longer nine (omega arith) i d;
        others = λ y d. rw gone (omega (arith, count-placed key (node new-r) y (queue s channel_queue), one-other (node new-r) y (λ i. d (sym i))));
        own = rw gone (omega (arith, count-placed key (node new-r) (node new-r) (queue s channel_queue), one_same (node new-r) (node new-r) refl, w.queued, one-other (request_at s new-r).place Queued (λ i. omega (arith, i, was_free)), one_same Queued Queued refl));
        kind = omega arith;
        free = λ i. absurd (omega (arith, i));
        used = λ i. (omega arith, v.blank.running, lo, c.0, c.1, b);
        owned = λ i z. omega (arith, z, runs-place v n);
        bound = v.blank.channel;
        runs = w.runs ∙ one-other _ OnChannel (λ i. omega (arith, i, was_free)) ∙ sym (one-other Queued OnChannel (λ i. omega (arith, i)));
        run-others = λ y a d. refl;
        requests_free = omega (arith, v.blank.free_requests, dropping-low s.free_requests new-r);
        free_requests = dropped-same s.free_requests new-r ∙ sym (one-other Queued 0 (λ i. omega (arith, i)));
        free_requests-others = λ y d. dropped-other s.free_requests new-r y d;
        checks = λ y a b i. let p = (v.tasks y a b).checks i in pending-kept new-r new-one (not-pending p) p;
        ends = λ y a b i. let p = (v.tasks y a b).ends i in (p.0, pending-kept new-r new-one (not-pending p.1) p.1);
        levelled =
            rw gone (up-placed key (node new-r) (queue s channel_queue)
            (up_same key (channel_level s) (queue s channel_queue)
            (λ y i. ap (λ (q : Request). level_of s q.owner) (get_or-set_other s.requests new-r (y - 24) new-one no_request
            (λ z. omega (arith, channel-queued v y i, ap (λ (j : ℕ). (request_at s j).place) z, was_free))))
            ∙ v.levelled));
      })

  transfer-settled : Settled (channel_filled (asking s new-r new-one s.channel (dropping s.free_requests new-r) (set s.queues channel_queue longer)))
  transfer-settled =
      let w = starts entered (rest-asking {s = s} new-r new-one s.channel (dropping s.free_requests new-r) (set s.queues channel_queue longer)
      (λ i d. set-others s.queues channel_queue longer g.shape.sizes.queues (omega arith) i d) (record { asleep = g.rest.asleep; stuck = g.rest.stuck })) in
      settled w.shape w.rest

-- the request is in the channel queue
pub transfer-shape : {s : State} (c : Call) → Lawful s → s.running ≢ 0 → s.free_requests ≢ 0 → c.number ≤ 249 → (13 ≤ c.code) × (c.code ≤ 14) → 1 ≤ c.amount
    → Shape (queued (asked s (least s.free_requests) c) (least s.free_requests)) [] 0
unfolding asked queued channel_level key
transfer-shape c g n some lo k b = entered g n some c.number c.code c.amount lo k b

pub transfer-keeps : {s : State} (c : Call) → Lawful s → s.running ≢ 0 → s.free_requests ≢ 0 → c.number ≤ 249 → (13 ≤ c.code) × (c.code ≤ 14) → 1 ≤ c.amount
    → Settled (read_or_write s c).state
unfolding read_or_write asked queued channel_level key
transfer-keeps c g n some lo k b = transfer-settled g n some c.number c.code c.amount lo k b

-- ---- CHECK.
module _ {s : State} (g : Lawful s) (n : s.running ≢ 0) (r : ℕ) (some : 1 ≤ r) (low : r ≤ request_blocks) (used : (request_at s r).place ≢ 0) (own : (request_at s r).owner ≡ s.running) where
  pub check-settled : Settled (if eqb (request_at s r).place Done then freed_request s r else awaits_request s r)
  unfolding awaits_request
  check-settled =
      ⊎_elim
      (λ z. rw z.0 (settled (free-request g.shape r some low z.1) (rest-freed r g.rest)))
      (λ z. rw z.0 (
      let i = stop g.shape n in
      let w = runs-stands g.shape n in
      let f = check-fields s.clock (hand-stands i).fields r (λ a b. (w.fields.needs a b).0 (runs-place g.shape n)) in
      let k = (g.shape.requests r some low).kind in
      settled
      (park i (awaiting_request s.clock (task_at s s.running) r) 0 (omega arith) refl refl f
      (λ y. record { some = some; low = low; own = own; first = omega (arith, used); last = omega (arith, z.1, k) })
      (λ y. absurd (omega (arith, y))) (omega (arith, one-other InCheck InLink (λ y. omega (arith, y)))) (λ y a d. refl))
      (park-rest i (awaiting_request s.clock (task_at s s.running) r) (rest-stopped s 0 g.rest))))
      (tested (request_at s r).place Done)

pub check-keeps : {s : State} (c : Call) → Lawful s → s.running ≢ 0 → 1 ≤ c.number → c.number ≤ request_blocks → (request_at s c.number).place ≢ 0 → (request_at s c.number).owner ≡ s.running
    → Settled (check s c).state
unfolding check
check-keeps c g n some low used own = check-settled g n c.number some low used own
