-- Document 02, E4: a task that holds a run keeps it while it has a request queued or on the channel. FREEMAIN is refused by 25; END and the abort make such a task wait as ending; and a
-- task that I/O done finishes has no such request left. The parts of calls are those of Pages.
use mathlib.Core.Bool.{false, not, ◌&&◌}
use mathlib.Core.Path.{◌≡◌, refl, sym, ap, ◌∙◌}
use mathlib.Core.Logic.{◌≢◌, ⊎_elim}
use mathlib.Core.List.{List, [], ◌∷◌}
use Prim.Native.Nat.{ℕ, zero, suc, ◌+◌, ◌%◌, ◌≤◌}
use native.Mathlib.Omega.{arith}
use lib.ListN.{get_or}
use lib.Dec.{eqb, ltb}
use Rattle.words.proofs.Truth.{tested}
use Rattle.words.specs.Words.{least, ◌among◌}
use Rattle.words.specs.Counting.{bit}
use Rattle.words.proofs.Counting.{one_same, one-other, one-eq}
use Rattle.words.proofs.Free.{least-in}
use Rattle.image.specs.Directory.{no_entry}
use Rattle.tables.specs.declared.Task.{Task}
use Rattle.tables.specs.Blocks.{Free, Ready, InLink, InCheck, Ending, OnChannel, Done, no_task, new_task, awaiting_request, with_parent, task_blocks}
use Rattle.tables.specs.State.{State, event_queue, time_queue, with_clock, with_running, task_at, request_at, queue, level_of}
use Rattle.calls.specs.declared.Call.{Call}
use Rattle.calls.specs.Calls.{IO-DONE, needs_task}
use Rattle.meaning.specs.Conditions.{holds}
use Rattle.meaning.specs.Ready.{best_ready, runs_first, dispatched}
use Rattle.meaning.specs.Finish.{freed_request, pending, finished, ended, unlinked, aborted}
use Rattle.meaning.specs.Channel.{queued, channel_filled}
use Rattle.meaning.specs.Services.{Effect, created, freemain, link, end, schedule, wait, woken, signal, test_event, dispatch_check, asked, read_or_write, awaits_request, check, timely, timer, io_done, program_check, operator_start, deeds, effect}
use Rattle.meaning.proofs.Deeds.{Shown, every-deed}
use Rattle.lawful.specs.Shape.{place_of, Pending}
use Rattle.lawful.specs.Resting.{Lawful, Aborting}
use Rattle.lawful.specs.Accepts.{Accepts}
use Rattle.lawful.proofs.Blocks.Sums.{field-kept}
use Rattle.lawful.proofs.Blocks.Shape.{held_place, rest-place}
use Rattle.lawful.proofs.Blocks.Cored.{used-holder}
use Rattle.lawful.proofs.Blocks.Members.{level-best, level-worst, not-waiting, runs-place}
use Rattle.lawful.proofs.Ready.Cases.{by-dispatch}
use Rattle.lawful.proofs.Tested.Pendings.{quiet_of, some-pending}
use Rattle.lawful.proofs.Each.IoDone.{off, owner, done_first, transferred-keeps}
use Rattle.lawful.proofs.Each.Abort.{aborted-none, aborted-step, upward-zero, abort-next, starts-abort}
use Rattle.lawful.proofs.Told.Others.{freed-free}
use Rattle.lawful.proofs.Each.Signal.{told-on}
use Rattle.lawful.proofs.Told.Pages.{Same, Holds, Out, still-holds, then_same, either, untouched, block_same, other-same, made-same, each_same, woken-same, timely-same, waiting-same, stopped-same, filled-tasks, filled-same, freed-same, dispatched-same, back-same, finished-same, ended_same, ended-asks}

-- ---- The abort.
aborted-same : {y i : ℕ} (n k : ℕ) (s : State) → 1 ≤ y → y ≤ task_blocks → Aborting n k s → Holds y s → Pending s.requests y i → Same y s (aborted n k s)
unfolding unlinked
aborted-same zero k s lo hi a h p = absurd (omega (arith, sym (upward-zero s k) ∙ a.chain, a.hand.some))
aborted-same {y} {i} (suc n) k s lo hi a h p =
    rw (aborted-step n k s (λ z. omega (arith, z, a.hand.some)))
    (⊎_elim
    (λ z. rw (z.1, aborted-none n (ended (unlinked s k) k)) step)
    (λ z. then_same step (aborted-same n (task_at s k).parent (ended (unlinked s k) k) lo hi (abort-next a z.1) (still-holds step h) (ended-asks (unlinked s k) k p)))
    (tested (task_at s k).parent 0))
  where
    u : Same y s (unlinked s k)
    u = block_same s k (with_parent (task_at s k) 0) refl refl

    level : level_of (unlinked s k) k ≡ level_of s k
    level = ap (λ (j : ℕ). (get_or s.directory.entries j no_entry).level) (field-kept (λ t. t.program) s.tasks k k _ no_task refl)

    used : place_of s (k ∷ []) k ≢ Free
    used z = omega (arith, z, held_place s [] k)

    out : Out y (unlinked s k) k
    out =
        let j = a.hand in
        rw level (not-waiting j.shape lo hi h (level_of s k) (level-best j.shape j.some j.low used) (level-worst j.shape j.some j.low used))

    step : Same y s (ended (unlinked s k) k)
    step = then_same u (ended_same (unlinked s k) k out (still-holds u h) (λ z. some-pending (unlinked s k) k i (rw (← z) p)))

-- ---- The calls, of a task y that holds a run and has a request i pending.
finished-free : (s : State) (k : ℕ) → task_at (channel_filled (finished s k)) k ≡ no_task
unfolding finished
finished-free s k = ap (λ (l : List Task). get_or l k no_task) (filled-tasks (finished s k)) ∙ freed-free _ k

pub owner-block : {s : State} {y i : ℕ} → Lawful s → Pending s.requests y i → (1 ≤ y) × (y ≤ task_blocks)
owner-block {s} {y} {i} g p = let w = (g.shape.requests i p.some p.low).used p.first in rw (← p.own) (w.0, w.1)

module _ {s : State} (g : Lawful s) {y i : ℕ} (h : Holds y s) (p : Pending s.requests y i) where
  some : 1 ≤ y
  some = (owner-block g p).0

  low : y ≤ task_blocks
  low = (owner-block g p).1

  out : (k : ℕ) → 1 ≤ k → k ≤ task_blocks → (task_at s k).place ≢ Free → Out y s k
  unfolding place_of ◌among◌
  out k a b u = not-waiting g.shape some low h (level_of s k) (level-best g.shape a b u) (level-worst g.shape a b u)

  module _ (c : Call) where
    -- a new task is made in another block
    created-same : (p : ℕ) → s.free_tasks ≢ 0 → Same y s (created s (least s.free_tasks) c.number p)
    unfolding created
    created-same p n = other-same s (least s.free_tasks) (new_task c.number p) taken refl
      where
        taken : y ≢ least s.free_tasks
        taken z =
            let b = g.shape.blank in
            omega (
              arith,
              least-in s.free_tasks 25 (omega arith) b.free_tasks n b.free_tasks-none,
              ap (bit s.free_tasks) z,
              (g.shape.tasks y some low).free_tasks,
              one-other _ Free (used-holder g.shape some low h),
            )

    start-same : s.free_tasks ≢ 0 → Same y s (operator_start s c).state
    unfolding operator_start
    start-same n = let m = created-same 0 n in then_same m (made-same _ _ (still-holds m h))

    schedule-same : s.free_tasks ≢ 0 → Same y s (schedule s c).state
    unfolding schedule
    schedule-same n =
        let m = created-same 0 n in
        either (holds s c) (λ e. then_same m (made-same _ _ (still-holds m h))) (λ e. then_same m (waiting-same _ _ c))

    wait-same : Same y s (wait s c).state
    unfolding wait
    wait-same = either (holds s c) (λ e. untouched refl) (λ e. then_same {t = with_running s 0} (untouched refl) (waiting-same _ _ c))

    signal-same : Same y s (signal s c).state
    unfolding signal
    signal-same =
        either (eqb c.value 1) (λ e. then_same {t = told-on s c.number} (untouched refl) (each_same woken woken-same (queue s event_queue) _ h)) (λ e. untouched refl)

    timer-same : Same y s (timer s c).state
    unfolding timer
    timer-same =
        let t = with_clock s (s.clock + 1) in
        either (eqb (t.clock % s.directory.every) 0) (λ e. then_same {t = t} (untouched refl) (each_same timely timely-same (queue s time_queue) _ h)) (λ e. untouched refl)

    transfer-same : Same y s (read_or_write s c).state
    unfolding read_or_write queued asked
    transfer-same = then_same {t = queued (asked s (least s.free_requests) c) (least s.free_requests)} (untouched refl) (filled-same _)

    check-same : Same y s (check s c).state
    unfolding check awaits_request
    check-same =
        either (eqb (request_at s c.number).place Done) (λ e. freed-same s c.number) (λ e. block_same s s.running (awaiting_request s.clock (task_at s s.running) c.number) refl refl)

    yield-same : Same y s (dispatch_check s c).state
    unfolding dispatch_check
    yield-same =
        either (ltb 0 (best_ready s) && ltb (best_ready s) (level_of s s.running)) (λ e. then_same (stopped-same s Ready) (untouched refl)) (λ e. untouched refl)

    module _ (n : s.running ≢ 0) where
      caller-out : Out y s s.running
      caller-out = out s.running (omega (arith, n)) g.shape.blank.running (λ z. omega (arith, z, rest-place s s.running, runs-place g.shape n))

      link-same : s.free_tasks ≢ 0 → Same y s (link s c).state
      unfolding link
      link-same f =
          let m = then_same (created-same s.running f) (stopped-same _ InLink) in
          then_same m (made-same _ _ (still-holds m h))

      -- "Refuse FREEMAIN while any of the caller's requests is queued or on the channel"
      freemain-same : pending s s.running ≡ false → Same y s (freemain s c).state
      unfolding freemain
      freemain-same q = back-same s s.running (λ z. quiet_of s s.running q i (rw (← z) p)) caller-out

      end_same : Same y s (end s c).state
      unfolding end
      end_same =
          then_same {t = with_running s 0} (untouched refl) (ended_same (with_running s 0) s.running caller-out h (λ z. some-pending (with_running s 0) s.running i (rw (← z) p)))

      abort-same : Same y s (program_check s c).state
      unfolding program_check
      abort-same = then_same {t = with_running s 0} (untouched refl) (aborted-same 24 s.running (with_running s 0) some low (starts-abort g n) h p)

    -- "if its owner is ending and this was its last pending one, .. the owner finishes": it has none after the call
    module _ (n : s.channel ≢ 0) (j : ℕ) (q : Pending (io_done s c).state.requests y j) where
      still-used : (task_at (io_done s c).state y).place ≢ Free
      still-used z =
          ((transferred-keeps c g n).shape.requests j q.some q.low).owned q.first (ap (place_of (io_done s c).state []) q.own ∙ rest-place _ y ∙ z)

      not-finished : (io_done s c).state ≡ channel_filled (finished (freed_request (off s) s.channel) (owner s)) → y ≢ owner s
      not-finished e z =
          still-used (ap (λ (x : State). (task_at x y).place) e ∙ rw z (ap (λ (t : Task). t.place) (finished-free (freed_request (off s) s.channel) (owner s))))

      owner-out : Out y (freed_request (off s) s.channel) (owner s)
      unfolding freed_request
      owner-out =
          let w = g.shape.requests s.channel (omega (arith, n)) g.shape.blank.channel in
          let u : 1 ≤ (request_at s s.channel).place = omega (arith, one-eq _ OnChannel (sym w.runs ∙ one_same s.channel s.channel refl)) in
          out (owner s) (w.used u).0 (w.used u).1 (λ z. w.owned u (rest-place s (owner s) ∙ z))

      io-same : Same y s (io_done s c).state
      io-same =
          let f = freed-same (off s) s.channel in
          rw (done_first s c)
          (then_same {t = off s} (untouched refl)
          (then_same
          (either (eqb (task_at s (owner s)).place InCheck && eqb (task_at s (owner s)).request s.channel)
          (λ e. then_same f (made-same _ (owner s) (still-holds f h)))
          (λ e. either (eqb (task_at s (owner s)).place Ending && not (pending (off s) (owner s)))
          (λ d. then_same f (finished-same _ (owner s) (not-finished (done_first s c ∙ rw (e, d) refl)) owner-out (still-holds f h)))
          (λ d. untouched refl)))
          (filled-same _)))

-- ---- All of them, by the list of deeds.
dispatched-asks : (s : State) → (dispatched s).requests ≡ s.requests
unfolding runs_first
dispatched-asks s = by-dispatch s (λ (u : State). u.requests ≡ s.requests) refl (λ z b. refl)

module _ {s : State} {c : Call} (g : Lawful s) (a : Accepts s c) {y i : ℕ} (h : Holds y s) (p : Pending s.requests y i) where
  effect-same : (c.code ≡ IO-DONE → (j : ℕ) × Pending (effect s c).state.requests y j) → Same y s (effect s c).state
  unfolding Shown deeds needs_task ◌among◌ test_event
  effect-same =
      every-deed s c (λ (e : Effect). (c.code ≡ IO-DONE → (j : ℕ) × Pending e.state.requests y j) → Same y s e.state) (λ k q. untouched refl)
      (λ z q. freemain-same g h p c (a.running (rw z)) (a.quiet z))
      (λ z q. link-same g h p c (a.running (rw z)) (a.block (rw z)))
      (λ z q. end_same g h p c (a.running (rw z)))
      (λ z q. schedule-same g h p c (a.block (rw z)))
      (λ z q. wait-same g h p c)
      (λ z q. signal-same g h p c)
      (λ z q. untouched refl)
      (λ z q. yield-same g h p c)
      (λ z q. transfer-same g h p c)
      (λ z q. transfer-same g h p c)
      (λ z q. check-same g h p c)
      (λ z q. timer-same g h p c)
      (λ z q. let w = q z in io-same g h p c (a.channel z) w.0 w.1)
      (λ z q. abort-same g h p c (a.running (rw z)))
      (λ z q. start-same g h p c (a.block (rw z)))

  -- the law: an accepted call, whole; one that is I/O done, if the task has a request pending after it
  pub call_same : (c.code ≡ IO-DONE → (j : ℕ) × Pending (dispatched (effect s c).state).requests y j) → Same y s (dispatched (effect s c).state)
  call_same q = then_same (effect-same (λ z. rw (dispatched-asks (effect s c).state) at (q z))) (dispatched-same (effect s c).state)
