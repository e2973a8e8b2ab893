-- What a call keeps of a task y, part by part: of its block the module and the core, `page`, and its pending requests. Any part of a call keeps the page of a task that holds a run, but for
-- those that give its core back, finish it or make a task in its block. By the definitions, one after the other; of the rules only that y waits for no core is asked.
use mathlib.Core.Bool.{Bool, true, false, not, ◌&&◌, and-false, true≢false}
use mathlib.Core.Path.{◌≡◌, refl, sym, ap, ◌∙◌}
use mathlib.Core.Logic.{◌≢◌, ⊎_elim}
use mathlib.Core.List.{List, [], ◌∷◌}
use Prim.Native.Nat.{ℕ}
use native.Mathlib.Omega.{arith}
use lib.ListN.{set, get_or}
use lib.Seq.{get_or-set_other}
use lib.Dec.{eqb, leb, ltb}
use borrow.Author.Tests.{eqb-true}
use Rattle.threads.specs.Threads.{hd, count}
use Rattle.words.proofs.Truth.{tested}
use Rattle.words.specs.Words.{if◌then◌else◌, is_empty, one_to, each}
use Rattle.tables.specs.declared.Task.{Task}
use Rattle.tables.specs.Blocks.{Free, Running, Ready, Ending, Done, HoldsRun, no_task, moving, awaiting_events, awaiting_time, with_parent, request_blocks, no_request}
use Rattle.tables.specs.State.{State, event_queue, core_queue, ready_queue, time_queue, channel_queue, with_task, task_at, request_at, queue, level_of, units_of, leaving}
use Rattle.calls.specs.declared.Call.{Call}
use Rattle.meaning.specs.Conditions.{enough, due_of, awaits_events, awaits_time, in_time, waiting}
use Rattle.meaning.specs.Ready.{needs_core, readied, made_ready, best_ready, runs_first, dispatched, placed}
use Rattle.meaning.specs.Finish.{freed_task, freed_request, given_back, pending, freed_if_done, freed_done, parent_ready, finished, ended}
use Rattle.meaning.specs.Channel.{channel_filled}
use Rattle.meaning.specs.Services.{stopped, woken, timely}
use Rattle.lawful.specs.Shape.{Pending}
use Rattle.lawful.proofs.Blocks.Sums.{field-kept}
use Rattle.lawful.proofs.Blocks.Ask.{pending-kept}
use Rattle.lawful.proofs.Chained.Small.{none}
use Rattle.lawful.proofs.Chained.Framed.{Any, Framed, framed, made-ready, frame-requests}
use Rattle.lawful.proofs.Ready.Cases.{by-dispatch}
use Rattle.lawful.proofs.Each.Given.{back-frame}

-- what is kept of a block: all but its place, what it waits for, and its parent
abbrev pub page : Task → Task
page t = moving 0 (with_parent t 0) Free

-- the block y keeps it from s to t
pub record Same (y : ℕ) (s t : State) : Type 0 where
  pub same : page (task_at t y) ≡ page (task_at s y)

abbrev pub Holds : ℕ → State → Type 0
Holds y s = (task_at s y).core ≡ HoldsRun

needs-none : (y : ℕ) (s : State) → Holds y s → needs_core s y ≡ false
unfolding needs_core
needs-none y s h = rw h (and-false (ltb 0 (units_of s y)))

-- it does not wait for core of the level of the task k
abbrev pub Out : ℕ → State → ℕ → Type 0
Out y s k = count y (queue s (core_queue (level_of s k))) ≡ 0

-- the channel takes the next request: no task block changes
pub filled-tasks : (s : State) → (channel_filled s).tasks ≡ s.tasks
unfolding channel_filled
filled-tasks s = go (eqb s.channel 0 && not (is_empty (queue s channel_queue))) _ refl
  where
    go : (b : Bool) (x : State) → x.tasks ≡ s.tasks → (if b then x else s).tasks ≡ s.tasks
    go true x e = e
    go false x e = refl

-- what making a task ready touches: the task
pub made-frame : (s : State) (k : ℕ) → Framed (λ j. j ≡ k) Any s (made_ready s k)
made-frame s k = framed (made-ready _ Any _ s s k refl refl refl refl none)

module _ {y : ℕ} where
  pub still-holds : {s t : State} → Same y s t → Holds y s → Holds y t
  still-holds e h = ap (λ (x : Task). x.core) e.same ∙ h

  pub then_same : {s t u : State} → Same y s t → Same y t u → Same y s u
  then_same a b = record { same = b.same ∙ a.same }

  -- ---- A choice; no block; one block, which keeps its page or is another.
  pub either : {s : State} (b : Bool) {x z : State} → (b ≡ true → Same y s x) → (b ≡ false → Same y s z) → Same y s (if b then x else z)
  either true f g = f refl
  either false f g = g refl

  pub untouched : {s t : State} → t.tasks ≡ s.tasks → Same y s t
  untouched e = record { same = ap (λ (l : List Task). page (get_or l y no_task)) e }

  pub block_same : (s : State) (k : ℕ) (x : Task) {t : State} → page x ≡ page (task_at s k) → t.tasks ≡ set s.tasks k x → Same y s t
  block_same s k x e d = then_same (record { same = field-kept page s.tasks k y x no_task e }) (untouched {s = with_task s k x} d)

  pub other-same : (s : State) (k : ℕ) (x : Task) {t : State} → y ≢ k → t.tasks ≡ set s.tasks k x → Same y s t
  other-same s k x n d = then_same (record { same = ap page (get_or-set_other s.tasks k y x no_task n) }) (untouched {s = with_task s k x} d)

  -- ---- Making ready: who holds a run needs none.
  own_same : (s : State) → Holds y s → Same y s (made_ready s y)
  unfolding made_ready readied
  own_same s h = rw (needs-none y s h) (block_same s y (moving s.clock (task_at s y) Ready) refl refl)

  pub made-same : (s : State) (k : ℕ) → Holds y s → Same y s (made_ready s k)
  made-same s k h = ⊎_elim (λ z. rw (← z.1) (own_same s h)) (λ z. record { same = ap page ((made-frame s k).tasks y z.1) }) (tested y k)

  pub each_same : (f : ℕ → State → State) → ((k : ℕ) (s : State) → Holds y s → Same y s (f k s)) → (l : List ℕ) (s : State) → Holds y s → Same y s (each f l s)
  unfolding each
  each_same f g [] s h = untouched refl
  each_same f g (k ∷ l) s h = let e = g k s h in then_same e (each_same f g l (f k s) (still-holds e h))

  pub woken-same : (k : ℕ) (s : State) → Holds y s → Same y s (woken k s)
  unfolding woken
  woken-same k s h =
      either (enough s (task_at s k).count (task_at s k).events) (λ e. then_same {t = leaving s event_queue k} (untouched refl) (made-same _ k h)) (λ e. untouched refl)

  pub timely-same : (k : ℕ) (s : State) → Holds y s → Same y s (timely k s)
  unfolding timely
  timely-same k s h = either (leb (task_at s k).time s.clock) (λ e. then_same {t = leaving s time_queue k} (untouched refl) (made-same _ k h)) (λ e. untouched refl)

  -- ---- Waiting, stopping, the channel, the dispatch.
  pub waiting-same : (s : State) (k : ℕ) (c : Call) → Same y s (waiting s k c)
  unfolding waiting awaits_events awaits_time in_time
  waiting-same s k c =
      either (eqb c.kind 1) (λ e. block_same s k (awaiting_events s.clock (task_at s k) c.value c.events) refl refl) (λ e. block_same s k (awaiting_time s.clock (task_at s k) (due_of s c)) refl refl)

  pub stopped-same : (s : State) (p : ℕ) → Same y s (stopped s p)
  unfolding stopped
  stopped-same s p = block_same s s.running (moving s.clock (task_at s s.running) p) refl refl

  pub filled-same : (s : State) → Same y s (channel_filled s)
  filled-same s = untouched (filled-tasks s)

  pub freed-same : (s : State) (r : ℕ) → Same y s (freed_request s r)
  unfolding freed_request
  freed-same s r = untouched refl

  first-same : (s : State) (level : ℕ) → Same y s (runs_first s level)
  unfolding runs_first
  first-same s level = block_same s (hd (queue s (ready_queue level))) (moving s.clock (task_at s (hd (queue s (ready_queue level)))) Running) refl refl

  pub dispatched-same : (s : State) → Same y s (dispatched s)
  dispatched-same s = by-dispatch s (Same y s) (untouched refl) (λ z b. first-same s (best_ready s))

  -- ---- Giving core back, finishing and ending, of another task; ending of a task with a request pending.
  pub back-same : (s : State) (k : ℕ) → y ≢ k → Out y s k → Same y s (given_back s k)
  back-same s k d o = record { same = ap page ((back-frame s k).tasks y (λ b. ⊎_elim d (λ c. omega (arith, c, o)) b)) }

  done-same : (k r : ℕ) (s : State) → Holds y s → Same y s (freed_if_done k r s)
  unfolding freed_if_done
  done-same k r s h = either (eqb (request_at s r).owner k && eqb (request_at s r).place Done) (λ e. freed-same s r) (λ e. untouched refl)

  parent-same : (s : State) (p : ℕ) → Holds y s → Same y s (parent_ready s p)
  unfolding parent_ready
  parent-same s p h = either (eqb p 0) (λ e. untouched refl) (λ e. made-same s p h)

  pub finished-same : (s : State) (k : ℕ) → y ≢ k → Out y s k → Holds y s → Same y s (finished s k)
  unfolding finished freed_done freed_task
  finished-same s k d o h =
      let a = back-same s k d o in
      let b = then_same a (each_same (freed_if_done k) (done-same k) (one_to request_blocks) (given_back s k) (still-holds a h)) in
      let c = then_same b (parent-same _ _ (still-holds b h)) in
      then_same c (other-same _ k no_task d refl)

  pub ended_same : (s : State) (k : ℕ) → Out y s k → Holds y s → (y ≡ k → pending s k ≡ true) → Same y s (ended s k)
  unfolding ended
  ended_same s k o h p =
      either (pending s k) (λ e. block_same s k (moving s.clock (task_at s k) Ending) refl refl)
      (λ e. finished-same s k (λ z. true≢false (sym (p z) ∙ e)) o h)

-- ---- Requests: neither finishing nor ending frees one that is pending.
parent-asks : (s : State) (p : ℕ) → (parent_ready s p).requests ≡ s.requests
unfolding parent_ready
parent-asks s p = go (eqb p 0)
  where
    go : (b : Bool) → (if b then s else made_ready s p).requests ≡ s.requests
    go true = refl
    go false = frame-requests (made-frame s p)

module _ {y i : ℕ} where
  done-asks : (k r : ℕ) (s : State) → Pending s.requests y i → Pending (freed_if_done k r s).requests y i
  unfolding freed_if_done freed_request
  done-asks k r s p = go (eqb (request_at s r).owner k) (eqb (request_at s r).place Done) refl
    where
      go : (a b : Bool) → eqb (request_at s r).place Done ≡ b → Pending (if a && b then freed_request s r else s).requests y i
      go false b e = p
      go true false e = p
      go true true e = pending-kept r no_request (λ z. omega (arith, p.last, ap (λ (j : ℕ). (request_at s j).place) z, eqb-true (request_at s r).place Done e)) p

  all-asks : (k : ℕ) (l : List ℕ) (s : State) → Pending s.requests y i → Pending (each (freed_if_done k) l s).requests y i
  unfolding each
  all-asks k [] s p = p
  all-asks k (r ∷ l) s p = all-asks k l (freed_if_done k r s) (done-asks k r s p)

  finished-asks : (s : State) (k : ℕ) → Pending s.requests y i → Pending (finished s k).requests y i
  unfolding finished freed_done freed_task
  finished-asks s k p =
      rw (parent-asks _ _) (all-asks k (one_to request_blocks) (given_back s k) (rw (frame-requests (back-frame s k)) p))

  pub ended-asks : (s : State) (k : ℕ) → Pending s.requests y i → Pending (ended s k).requests y i
  unfolding ended
  ended-asks s k p = go (pending s k)
    where
      go : (b : Bool) → Pending (if b then placed s k Ending else finished s k).requests y i
      go true = p
      go false = finished-asks s k p
