-- Every call is a chain of small changes: `effect-chain`, for any state and any call, with no rule of the tables asked. By the definitions, one after the other.
use mathlib.Core.Bool.{Bool, true, false, not, ◌&&◌, true≢false}
use mathlib.Core.Path.{◌≡◌, refl}
use mathlib.Core.Logic.{◌≢◌, ◌⊎◌, inl, inr, ⊎_elim}
use mathlib.Core.List.{List, [], ◌∷◌}
use Prim.Native.Nat.{ℕ, zero, suc, ◌+◌, ◌%◌, ◌≤◌, ◌<◌}
use native.Mathlib.Omega.{arith}
use lib.Dec.{eqb, leb, ltb}
use borrow.Author.Tests.{eqb-true, eqb-false, leb-false}
use Rattle.threads.specs.Threads.{hd, count}
use Rattle.threads.proofs.Queues.{count-cons}
use Rattle.words.proofs.Truth.{tested, and_left}
use Rattle.words.proofs.Counting.{one_same}
use Rattle.words.specs.Words.{if◌then◌else◌, is_empty, one_to, each, least, ◌among◌}
use Rattle.tables.specs.declared.Task.{Task}
use Rattle.tables.specs.Blocks.{Ready, InLink, InCheck, Ending, OnChannel, Done, request_blocks}
use Rattle.tables.specs.State.{State, event_queue, time_queue, ready_queue, channel_queue, with_channel, task_at, request_at, queue, level_of, leaving}
use Rattle.calls.specs.declared.Call.{Call}
use Rattle.calls.specs.Calls.{SIGNAL, DISPATCH-CHECK, TIMER, needs_task}
use Rattle.meaning.specs.Conditions.{enough, due_of, holds, awaits_events, awaits_time, in_time, waiting}
use Rattle.meaning.specs.Ready.{made_ready, best_ready, runs_first, dispatched}
use Rattle.meaning.specs.Finish.{freed_task, freed_request, given_back, pending, freed_if_done, freed_done, parent_ready, finished, ended, unlinked, aborted}
use Rattle.meaning.specs.Channel.{queued, request_placed, channel_filled}
use Rattle.meaning.specs.Services.{Effect, stopped, created, freemain, link, end, schedule, wait, woken, signal, test_event, dispatch_check, asked, read_or_write, awaits_request, check, timely, timer, io_done, program_check, operator_start, deeds, effect}
use Rattle.meaning.proofs.Deeds.{Shown, every-deed}
use Rattle.lawful.specs.Reached.{First}
use Rattle.lawful.proofs.Ready.Newly.{first-best}
use Rattle.lawful.proofs.Ready.Cases.{by-dispatch}
use Rattle.lawful.proofs.Each.Calls.{holds-new, holds-stopped}
use Rattle.lawful.proofs.Chained.Small as M
use Rattle.lawful.proofs.Chained.Small.{Waiter, Comes, itself, event, time, request, Enters, to-ready, Block, moves, awaits, sleeps, checks, cores, unlinks, makes, frees, asks, goes, drops, joins, leads, leaves, sorts, Small, ticks, tells, stops, carries, tasks_free, requests_free, block, lines, Turn, small, runs, Chain, none, ◌next◌, kept, widened, joined}
use Rattle.lawful.proofs.Chained.Views.{block_of}
use Rattle.lawful.proofs.Chained.Framed.{Any, Readies, small_of, made-ready, back-ready}

-- ---- The parts of calls: from a chain to s, one to what the part leaves of s.
module _ (o : State) (c : Call) where
  abbrev pub To : State → Type 0
  To s = Chain (Small o c) o s

  -- a choice, where either is a chain
  either : (b : Bool) {x y : State} → (b ≡ true → To x) → (b ≡ false → To y) → To (if b then x else y)
  either true f g = f refl
  either false f g = g refl

  -- ---- Getting ready, and giving core back: their own chains, of any block and any queue.
  ready : {s t : State} → To s → Chain (Readies Any (Comes o) Any) s t → To t
  ready h g = joined h (widened small_of g)

  pub ready-chain : (s : State) (k : ℕ) → Comes o k → To s → To (made_ready s k)
  ready-chain s k c h = ready h (made-ready _ _ _ s s k refl c refl refl none)

  back-chain : (s : State) (k : ℕ) → To s → To (given_back s k)
  back-chain s k h = ready h (back-ready _ _ _ s s k refl (λ y c. refl) (λ q. refl) none)

  leaving-chain : (s : State) (q k : ℕ) → To s → To (leaving s q k)
  leaving-chain s q k h = h next lines q (leaves k)

  -- ---- Finishing.
  pub each-chain : (f : ℕ → State → State) (l : List ℕ) → ((k : ℕ) → 1 ≤ count k l → (s : State) → To s → To (f k s)) → (s : State) → To s → To (each f l s)
  unfolding each
  each-chain f [] g s h = h
  each-chain f (k ∷ l) g s h =
      each-chain f l (λ y c. g y (omega (arith, c, count-cons k y l))) (f k s) (g k (omega (arith, count-cons k k l, one_same k k refl)) s h)

  pub freed-chain : (s : State) (r : ℕ) → To s → To (freed_request s r)
  unfolding freed_request
  freed-chain s r h = h next requests_free _ next M.asked r drops

  done-chain : (k r : ℕ) (s : State) → To s → To (freed_if_done k r s)
  unfolding freed_if_done
  done-chain k r s h = either (eqb (request_at s r).owner k && eqb (request_at s r).place Done) (λ e. freed-chain s r h) (λ e. h)

  -- a parent on the way is one from the beginning, or the caller
  parent-next : (t u : State) → Small o c t u → ((k : ℕ) → (task_at t k).parent ≢ 0 → Comes o (task_at t k).parent) → (k : ℕ) → (task_at u k).parent ≢ 0 → Comes o (task_at u k).parent
  parent-next t u p f k = ⊎_elim (λ e. rw e (f k)) (λ b. go b) (block_of p k)
    where
      go : {x : Task} → Block o c t k x → x.parent ≢ 0 → Comes o x.parent
      go (moves p w e) = f k
      go (awaits w e) = f k
      go (sleeps due w l) = f k
      go (checks r e) = f k
      go (cores h a) = f k
      go unlinks = λ n. absurd (n refl)
      go (makes p e w) = λ n. ⊎_elim (λ z. itself (inl z)) (λ z. absurd (n z)) w
      go frees = λ n. absurd (n refl)

  parent-comes : (s : State) (k : ℕ) → To s → (task_at s k).parent ≢ 0 → Comes o (task_at s k).parent
  parent-comes s k h = kept (λ (t : State). (k : ℕ) → (task_at t k).parent ≢ 0 → Comes o (task_at t k).parent) parent-next h (λ j n. M.parent j refl) k

  parent-chain : (s : State) (p : ℕ) → (p ≢ 0 → Comes o p) → To s → To (parent_ready s p)
  unfolding parent_ready
  parent-chain s p c h = either (eqb p 0) (λ e. h) (λ e. ready-chain s p (c (eqb-false p 0 e)) h)

  pub finished-chain : (s : State) (k : ℕ) → To s → To (finished s k)
  unfolding finished freed_done freed_task
  finished-chain s k h =
      let done = each-chain (freed_if_done k) (one_to request_blocks) (λ r i. done-chain k r) (given_back s k) (back-chain s k h) in
      parent-chain _ _ (parent-comes _ k done) done next tasks_free _ next block k frees

  pub ended-chain : (s : State) (k : ℕ) → Comes o k → To s → To (ended s k)
  unfolding ended
  ended-chain s k c h =
      either (pending s k) (λ e. h next block k (moves Ending (omega arith) (record { waits = λ n. c; links = λ z. absurd (omega (arith, z)) }))) (λ e. finished-chain s k h)

  unlinked-chain : (s : State) (k : ℕ) → To s → To (unlinked s k)
  unfolding unlinked
  unlinked-chain s k h = h next block k unlinks

  pub aborted-chain : (n k : ℕ) (s : State) → (k ≢ 0 → Comes o k) → To s → To (aborted n k s)
  unfolding aborted
  aborted-chain zero k s c h = h
  aborted-chain (suc n) k s c h =
      either (eqb k 0) (λ e. h)
      (λ e. aborted-chain n (task_at s k).parent (ended (unlinked s k) k) (parent-comes s k h) (ended-chain (unlinked s k) k (c (eqb-false k 0 e)) (unlinked-chain s k h)))

  -- ---- The channel.
  pub started-chain : (s : State) → To s → To (channel_filled s)
  unfolding channel_filled
  started-chain s h =
      either (eqb s.channel 0 && not (is_empty (queue s channel_queue)))
      (λ e. leaving-chain s channel_queue (hd (queue s channel_queue)) h next M.asked _ (goes OnChannel) next carries _) (λ e. h)

  -- ---- Waiting for a condition that does not hold.
  not_yet : (s : State) → holds s c ≡ false → c.kind ≡ 1 → enough s c.value c.events ≡ false
  unfolding holds
  not_yet s f z = rw z at f

  not-due : (s : State) → holds s c ≡ false → c.kind ≢ 1 → s.clock < due_of s c
  unfolding holds
  not-due s f n =
      ⊎_elim (λ z. absurd (true≢false (rw z.1 at f)))
      (λ z. ⊎_elim (λ y. absurd (n y.1)) (λ y. leb-false (due_of s c) s.clock (rw (z.0, y.0) at f)) (tested c.kind 1)) (tested c.kind 0)

  waiting-chain : (s : State) (k : ℕ) → Waiter o k → holds s c ≡ false → To s → To (waiting s k c)
  unfolding waiting awaits_events awaits_time in_time
  waiting-chain s k w f h =
      ⊎_elim
      (λ z. rw z.0 (h next block k (awaits w (not_yet s f z.1)) next lines event_queue (joins k)))
      (λ z. rw z.0 (h next block k (sleeps (due_of s c) w (not-due s f z.1)) next lines time_queue (sorts _ k))) (tested c.kind 1)

-- ---- The calls, each made in o.
module _ (o : State) (c : Call) where
  begun : To o c o
  begun = none

  stopped-chain : (s : State) (p : ℕ) → needs_task c.code ≡ true → (2 ≤ p) × (p ≢ 4) × (p ≢ 5) × (p ≢ 7) → Enters o s.running p → To o c s → To o c (stopped s p)
  unfolding stopped
  stopped-chain s p n w e h = h next block s.running (moves p w e) next stops n

  created-chain : (p : ℕ) → (p ≡ o.running) ⊎ (p ≡ 0) → To o c (created o (least o.free_tasks) c.number p)
  unfolding created
  created-chain p w = begun next tasks_free _ next block (least o.free_tasks) (makes p refl w)

  freemain-chain : To o c (freemain o c).state
  unfolding freemain
  freemain-chain = back-chain o c o o.running begun

  link-chain : needs_task c.code ≡ true → To o c (link o c).state
  unfolding link created
  link-chain n = ready-chain o c _ _ (itself (inr refl)) (stopped-chain _ InLink n (omega arith) (record { waits = λ i. itself (inl refl); links = λ i. inl refl }) (created-chain o.running (inl refl)))

  end-chain : needs_task c.code ≡ true → To o c (end o c).state
  unfolding end
  end-chain n = ended-chain o c _ o.running (itself (inl refl)) (begun next stops n)

  schedule-chain : To o c (schedule o c).state
  unfolding schedule
  schedule-chain =
      let m = created-chain 0 (inr refl) in
      either o c (holds o c) (λ e. ready-chain o c _ _ (itself (inr refl)) m) (λ e. waiting-chain o c _ (least o.free_tasks) (inr refl) (holds-new o _ c.number c e) m)

  wait-chain : needs_task c.code ≡ true → To o c (wait o c).state
  unfolding wait
  wait-chain n = either o c (holds o c) (λ e. begun) (λ e. waiting-chain o c _ o.running (inl refl) (holds-stopped o c e) (begun next stops n))

  woken-chain : (k : ℕ) → 1 ≤ count k (queue o event_queue) → (s : State) → To o c s → To o c (woken k s)
  unfolding woken
  woken-chain k i s h = either o c (enough s (task_at s k).count (task_at s k).events) (λ e. ready-chain o c _ k (event i) (leaving-chain o c s event_queue k h)) (λ e. h)

  signal-chain : c.code ≡ SIGNAL → To o c (signal o c).state
  unfolding signal
  signal-chain e =
      either o c (eqb c.value 1) (λ v. each-chain o c woken (queue o event_queue) woken-chain _ (begun next tells _ _ e)) (λ v. begun next tells _ _ e)

  test-chain : To o c (test_event o c).state
  unfolding test_event
  test-chain = begun

  yield-chain : c.code ≡ DISPATCH-CHECK → needs_task c.code ≡ true → To o c (dispatch_check o c).state
  unfolding dispatch_check
  yield-chain e n =
      either o c (ltb 0 (best_ready o) && ltb (best_ready o) (level_of o o.running))
      (λ b. stopped-chain o Ready n (omega arith) to-ready begun next lines (ready_queue (level_of o o.running)) (leads o.running e)) (λ b. begun)

  transfer-chain : To o c (read_or_write o c).state
  unfolding read_or_write queued asked
  transfer-chain = started-chain o c _ (begun next requests_free _ next M.asked (least o.free_requests) (asks refl) next lines channel_queue (sorts _ _))

  check-chain : needs_task c.code ≡ true → To o c (check o c).state
  unfolding check awaits_request
  check-chain n =
      either o c (eqb (request_at o c.number).place Done) (λ e. freed-chain o c o c.number begun) (λ e. begun next block o.running (checks c.number refl) next stops n)

  pub timely-chain : (k : ℕ) → 1 ≤ count k (queue o time_queue) → (s : State) → To o c s → To o c (timely k s)
  unfolding timely
  timely-chain k i s h = either o c (leb (task_at s k).time s.clock) (λ e. ready-chain o c _ k (time i) (leaving-chain o c s time_queue k h)) (λ e. h)

  timer-chain : c.code ≡ TIMER → To o c (timer o c).state
  unfolding timer
  timer-chain e =
      either o c (eqb ((o.clock + 1) % o.directory.every) 0) (λ d. each-chain o c timely (queue o time_queue) timely-chain _ (begun next ticks e refl)) (λ d. begun next ticks e refl)

  transferred-chain : To o c (io_done o c).state
  unfolding io_done
  transferred-chain =
      let r = o.channel in
      let k = (request_at o r).owner in
      let t = task_at o k in
      let left = begun next carries 0 in
      started-chain o c _
      (either o c (eqb t.place InCheck && eqb t.request r) (λ e. ready-chain o c _ k (request (eqb-true _ _ (and_left (eqb t.place InCheck) _ e))) (freed-chain o c _ r left))
      (λ e.
      either o c (eqb t.place Ending && not (pending (request_placed (with_channel o 0) r Done) k)) (λ d. finished-chain o c _ k (freed-chain o c _ r left))
      (λ d. left next M.asked r (goes Done))))

  abort-chain : needs_task c.code ≡ true → To o c (program_check o c).state
  unfolding program_check
  abort-chain n = aborted-chain o c 24 o.running _ (λ i. itself (inl refl)) (begun next stops n)

  start-chain : To o c (operator_start o c).state
  unfolding operator_start
  start-chain = ready-chain o c _ _ (itself (inr refl)) (created-chain 0 (inr refl))

  -- ---- All of them. The law: what any call does is a chain of small changes.
  pub effect-chain : Chain (Small o c) o (effect o c).state
  unfolding Shown deeds needs_task ◌among◌
  effect-chain =
      every-deed o c (λ (e : Effect). To o c e.state) (λ k. begun)
      (λ z. freemain-chain)
      (λ z. link-chain (rw z))
      (λ z. end-chain (rw z))
      (λ z. schedule-chain)
      (λ z. wait-chain (rw z))
      (λ z. signal-chain z)
      (λ z. test-chain)
      (λ z. yield-chain z (rw z))
      (λ z. transfer-chain)
      (λ z. transfer-chain)
      (λ z. check-chain (rw z))
      (λ z. timer-chain z)
      (λ z. transferred-chain)
      (λ z. abort-chain (rw z))
      (λ z. start-chain)

  -- and the dispatch at its end
  first-chain : (s : State) (level : ℕ) → s.running ≡ 0 → First s (hd (queue s (ready_queue level))) → Chain (Turn o c) o s → Chain (Turn o c) o (runs_first s level)
  unfolding runs_first
  first-chain s level z f h = h next runs (ready_queue level) (hd (queue s (ready_queue level))) z f

  pub dispatched-chain : (s : State) → Chain (Turn o c) o s → Chain (Turn o c) o (dispatched s)
  dispatched-chain s h = by-dispatch s (Chain (Turn o c) o) h (λ z b. first-chain s (best_ready s) z (first-best s b) h)

  pub turn-chain : Chain (Turn o c) o (dispatched (effect o c).state)
  turn-chain = dispatched-chain (effect o c).state (widened (λ s t. small) effect-chain)
