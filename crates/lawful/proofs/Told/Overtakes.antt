-- Nobody overtakes, in any accepted call: each call is made of the parts of Turns and GetsInTurn. So is the course of core (E8); who gives a run back held it when the call
-- was made.
use mathlib.Core.Bool.{Bool, true, false, not, ◌&&◌}
use mathlib.Core.Path.{◌≡◌, refl, sym, ap, ◌∙◌}
use mathlib.Core.Logic.{◌≢◌, ⊎_elim}
use mathlib.Core.List.{List, [], ◌∷◌}
use Prim.Native.Nat.{ℕ, zero, suc, ◌+◌, ◌%◌, ◌≤◌, ◌<◌}
use native.Mathlib.Omega.{arith}
use lib.ListN.{set, get_or}
use lib.Seq.{get_or-set_other}
use lib.Dec.{eqb, leb, ltb}
use Rattle.threads.specs.Threads.{hd, count}
use Rattle.words.proofs.Truth.{tested, both}
use Rattle.words.specs.Words.{if◌then◌else◌, ◌among◌, is_empty, one_to, each, least}
use Rattle.tables.specs.declared.Task.{Task}
use Rattle.tables.specs.Blocks.{Free, Ready, InLink, InCheck, Ending, Done, HoldsRun, no_task, new_task, moving, awaiting_events, awaiting_time, awaiting_request, with_parent, task_blocks, request_blocks}
use Rattle.tables.specs.State.{State, event_queue, core_queue, ready_queue, time_queue, channel_queue, with_clock, with_running, with_task, with_queue, task_at, request_at, queue, level_of, leaving}
use Rattle.calls.specs.declared.Call.{Call}
use Rattle.calls.specs.Calls.{needs_task}
use Rattle.meaning.specs.Conditions.{enough, due_of, holds, awaits_events, awaits_time, in_time, waiting}
use Rattle.meaning.specs.Ready.{made_ready, best_ready, runs_first, dispatched}
use Rattle.meaning.specs.Finish.{freed_task, freed_request, given_back, pending, freed_if_done, freed_done, parent_ready, finished, ended, unlinked, aborted}
use Rattle.meaning.specs.Channel.{queued, channel_filled}
use Rattle.meaning.specs.Services.{Effect, stopped, created, freemain, link, end, schedule, wait, woken, signal, test_event, dispatch_check, asked, read_or_write, awaits_request, check, timely, timer, io_done, program_check, operator_start, deeds, effect}
use Rattle.meaning.proofs.Deeds.{Shown, every-deed}
use Rattle.lawful.specs.Shape.{place_of, Shape, InHand, Pending}
use Rattle.words.specs.Counting.{bit}
use Rattle.lawful.specs.Resting.{Rest, Lawful, Aborting}
use Rattle.lawful.specs.Accepts.{Accepts}
use Rattle.lawful.specs.Reached.{taken}
use Rattle.lawful.specs.Granted.{KeepsRun}
use Rattle.lawful.proofs.Blocks.Sums.{field-kept}
use Rattle.lawful.proofs.Blocks.Shape.{held_place, other_place, rest-place}
use Rattle.lawful.proofs.Blocks.Cored.{used-holder}
use Rattle.lawful.proofs.Blocks.Members.{queue-place}
use Rattle.words.proofs.Free.{least-some, least-low, least-in}
use Rattle.meaning.specs.Rules.{queue_for}
use borrow.Author.Tests.{eqb-true}
use Rattle.lawful.proofs.Ready.Cases.{best-some, by-dispatch}
use Rattle.words.proofs.Counting.{one_same, one-other}
use Rattle.threads.proofs.Queues.{count-cons}
use Rattle.lawful.proofs.Blocks.Leave.{leave, stop}
use Rattle.lawful.proofs.Tested.Pendings.{quiet_of}
use Rattle.lawful.proofs.Each.Clearing.{done-cleared}
use Rattle.lawful.proofs.Chained.Framed.{frame-requests}
use Rattle.lawful.proofs.Each.Given.{back-frame, gives_back}
use Rattle.lawful.proofs.Each.Finish.{grab, parent-low, parent-links}
use Rattle.lawful.proofs.Blocks.Unlink.{unlink-rest}
use Rattle.lawful.proofs.Each.Abort.{aborted-none, aborted-step, upward-zero, alone, child, grabbed, done, abort-next, starts-abort}
use Rattle.lawful.proofs.Each.Calls.{new, new_apart, rest-stopped}
use Rattle.lawful.proofs.Each.Link.{linked}
use Rattle.lawful.proofs.Each.Signal.{Walk, walk_step, told-on, signal-walk}
use Rattle.lawful.proofs.Each.Timer.{walk-tick, timer-walk, worst}
use Rattle.lawful.proofs.Each.IoDone.{off, owner, freed-hand, freed-rest, last-quiet, done_first}
use Rattle.lawful.proofs.Told.Turns.{Turns, same-core, quiet, stays, then_turns}
use Rattle.lawful.proofs.Told.GetsInTurn.{same_kept, same-lost, made-turns, back-turns}
use Rattle.lawful.proofs.Told.Others.{taken-other, unlinked-parent}
use Rattle.lawful.proofs.Told.Gone.{taken-gone}
use Rattle.lawful.proofs.Told.Pages.{made-frame}

-- ---- A choice, and parts that give nobody core: a number, a request or a queue changes that is no core queue; a block changes, and its core and its module stay, or it
-- holds none, before and after.
chosen : (b : Bool) {o s x y : State} → (b ≡ true → Turns o s x) → (b ≡ false → Turns o s y) → Turns o s (if b then x else y)
chosen true f g = f refl
chosen false f g = g refl

untouched : {o s u : State} → u.directory ≡ s.directory → u.holes ≡ s.holes → u.pools ≡ s.pools → u.tasks ≡ s.tasks → u.queues ≡ s.queues → Turns o s u
untouched d b p t q = quiet (same-core d b p t) (λ level lo hi. ap (λ (l : List (List ℕ)). get_or l (core_queue level) []) q)

-- no core queue
abbrev Other : ℕ → Type 0
Other q = (level : ℕ) → 1 ≤ level → level ≤ 3 → core_queue level ≢ q

queue-turns : {o s u : State} (q : ℕ) (l : List ℕ) → Other q → u.directory ≡ s.directory → u.holes ≡ s.holes → u.pools ≡ s.pools → u.tasks ≡ s.tasks
    → u.queues ≡ set s.queues q l → Turns o s u
queue-turns {o} {s} q l w d b p t e =
    quiet (same-core d b p t) (λ level lo hi. ap (λ (m : List (List ℕ)). get_or m (core_queue level) []) e ∙ get_or-set_other s.queues q (core_queue level) l [] (w level lo hi))

kept-turns : {o s u : State} (k : ℕ) (x : Task) → u.directory ≡ s.directory → u.holes ≡ s.holes → u.pools ≡ s.pools → u.queues ≡ s.queues
    → u.tasks ≡ set s.tasks k x → x.core ≡ (task_at s k).core → x.program ≡ (task_at s k).program → x.start ≡ (task_at s k).start → Turns o s u
kept-turns {o} {s} {u} k x d b l q t c p a = quiet (same_kept s u k x t d b l c p a) (λ level lo hi. ap (λ (l : List (List ℕ)). get_or l (core_queue level) []) q)

lost-turns : {o s u : State} (k : ℕ) (x : Task) → u.directory ≡ s.directory → u.holes ≡ s.holes → u.pools ≡ s.pools → u.queues ≡ s.queues
    → u.tasks ≡ set s.tasks k x → x.core ≢ HoldsRun → (task_at s k).core ≢ HoldsRun → Turns o s u
lost-turns {o} {s} {u} k x d b l q t n m = quiet (same-lost s u k x t d b l n m) (λ level lo hi. ap (λ (l : List (List ℕ)). get_or l (core_queue level) []) q)

line-turns : {o : State} (s : State) (q : ℕ) (l : List ℕ) → Other q → Turns o s (with_queue s q l)
line-turns s q l o = queue-turns q l o refl refl refl refl refl

block-turns : {o : State} (s : State) (k : ℕ) (x : Task) → x.core ≡ (task_at s k).core → x.program ≡ (task_at s k).program → x.start ≡ (task_at s k).start → Turns o s (with_task s k x)
block-turns s k x c p a = kept-turns k x refl refl refl refl refl c p a

-- ---- Finishing, ending, the abort.
done-queues : (k : ℕ) (l : List ℕ) (s : State) → (each (freed_if_done k) l s).queues ≡ s.queues
unfolding each freed_if_done freed_request
done-queues k [] s = refl
done-queues k (r ∷ l) s = done-queues k l (freed_if_done k r s) ∙ one (eqb (request_at s r).owner k && eqb (request_at s r).place Done)
  where
    one : (b : Bool) → (if b then freed_request s r else s).queues ≡ s.queues
    one true = refl
    one false = refl

module _ {s : State} {k : ℕ} {h : List ℕ} (i : InHand s k h 0) where
  -- making the parent ready leaves the block k as it is: its parent is another
  parent-core : (task_at s k).core ≢ HoldsRun → (task_at (parent_ready s (task_at s k).parent) k).core ≢ HoldsRun
  unfolding parent_ready
  parent-core n =
      ⊎_elim (λ z. rw z.0 n)
      (λ z. rw z.0 (
      let g = i.shape in
      let apart : k ≢ (task_at s k).parent =
      λ e. omega (arith, sym (ap (place_of s (k ∷ h)) e) ∙ held_place s h k, parent-links g k i.low z.1 i.some) in
      rw ((made-frame s (task_at s k).parent).tasks k apart) n))
      (tested (task_at s k).parent 0)

  parent-turns : {o : State} → Turns o s (parent_ready s (task_at s k).parent)
  unfolding parent_ready
  parent-turns =
      ⊎_elim (λ z. rw z.0 (stays s))
      (λ z. rw z.0 (
      let g = i.shape in
      made-turns (grab g (task_at s k).parent (omega (arith, z.1)) (parent-low g k i.low z.1 i.some) (parent-links g k i.low z.1 i.some))))
      (tested (task_at s k).parent 0)

module _ {o s : State} {k : ℕ} {h : List ℕ} {m : List ℕ} (i : InHand s k h 0) (t : Rest s m) (held : (task_at s k).core ≡ HoldsRun → KeepsRun o s k) where
  finished-turns : ((j : ℕ) → Pending s.requests k j → ⊥) → Turns o s (finished s k)
  unfolding finished freed_done freed_task
  finished-turns n =
      let back = gives_back i.shape t k i.some i.low in
      let all = (done-cleared i.some back.shape back.rest (λ j p. n j (rw (frame-requests (back-frame s k)) at p))).clears in
      let j : InHand (freed_done (given_back s k) k) k h 0 = record { some = i.some; low = i.low; out = i.out; shape = all.shape } in
      let same = ap (λ (x : State). x.tasks) all.others in
      let gave : (task_at (freed_done (given_back s k) k) k).core ≢ HoldsRun = λ z. back.core (sym (ap (λ (l : List Task). (get_or l k no_task).core) same) ∙ z) in
      then_turns (back-turns i.shape t k i.some i.low held)
      (then_turns
      (untouched (ap (λ (x : State). x.directory) all.others) (ap (λ (x : State). x.holes) all.others) (ap (λ (x : State). x.pools) all.others) same
      (done-queues k (one_to request_blocks) (given_back s k)))
      (then_turns (parent-turns j) (lost-turns k no_task refl refl refl refl refl (λ z. omega (arith, z)) (parent-core j gave))))

  ended-turns : Turns o s (ended s k)
  unfolding ended
  ended-turns = chosen (pending s k) (λ e. kept-turns k (moving s.clock (task_at s k) Ending) refl refl refl refl refl refl refl refl) (λ e. finished-turns (quiet_of s k e))

unlinked-turns : {o : State} (s : State) (k : ℕ) → Turns o s (unlinked s k)
unfolding unlinked
unlinked-turns s k = kept-turns k (with_parent (task_at s k) 0) refl refl refl refl refl refl refl refl

unlinked-held : {o : State} (s : State) (k : ℕ) → ((task_at s k).core ≡ HoldsRun → KeepsRun o s k) → (task_at (unlinked s k) k).core ≡ HoldsRun → KeepsRun o (unlinked s k) k
unfolding unlinked
unlinked-held s k own h =
    let r = own (sym (field-kept (λ t. t.core) s.tasks k k (with_parent (task_at s k) 0) no_task refl) ∙ h) in
    record {
      held = r.held;
      holds = h;
      program = field-kept (λ t. t.program) s.tasks k k (with_parent (task_at s k) 0) no_task refl ∙ r.program;
      start = field-kept (λ t. t.start) s.tasks k k (with_parent (task_at s k) 0) no_task refl ∙ r.start;
    }

-- each that is taken gives the run back that it held when the call was made: nobody on the chain is given one on the way, since it waits in LINK and for no core
module _ {n k : ℕ} {s : State} (a : Aborting (suc n) k s) (z : (task_at s k).parent ≢ 0) where
  abbrev next : State
  next = ended (unlinked s k) k

  linked-same : (y : ℕ) → 1 ≤ y → y ≤ task_blocks → y ≢ k → (task_at s y).place ≡ InLink → task_at next y ≡ task_at s y
  unfolding unlinked
  linked-same y lo hi d l =
      (done a.hand a.rest a.core z).tasks y d (λ e. omega (arith, e, unlinked-parent s k, lo)) none-waits ∙ get_or-set_other s.tasks k y _ no_task d
    where
      none-waits : (level : ℕ) → 1 ≤ level → level ≤ 3 → count y (queue s (core_queue level)) ≡ 0
      none-waits level b w =
          let p = other_place s [] k y d ∙ rest-place s y ∙ l in
          (a.hand.shape.tasks y lo hi).queued (core_queue level) (omega arith)
          ∙ one-other (queue_for (place_of s (k ∷ []) y) (level_of s y)) (core_queue level)
          (λ e. let q = queue-place (place_of s (k ∷ []) y) (level_of s y) (core_queue level) e (omega arith) in omega (arith, q, p))

  linked-before : (y : ℕ) → (task_at next y).place ≡ InLink → (y ≢ k) × ((task_at s y).place ≡ InLink)
  unfolding taken
  linked-before y l =
      ⊎_elim
      (λ e.
      let own : (task_at next k).place ≡ InLink = ap (λ (j : ℕ). (task_at next j).place) (sym e.1) ∙ l in
      absurd (⊎_elim (λ i. omega (arith, i, own)) (λ i. omega (arith, i, own)) (taken-gone s k).place))
      (λ e. (e.1, ⊎_elim (λ i. sym i ∙ l) (λ i. absurd (omega (arith, i, l))) (taken-other s k y e.1))) (tested y k)

  parent-linked : ((task_at s k).parent ≢ k) × ((task_at s (task_at s k).parent).place ≡ InLink)
  parent-linked =
      let i = a.hand in
      let l = parent-links i.shape k i.low z i.some in
      let d : (task_at s k).parent ≢ k = λ e. omega (arith, ap (place_of s (k ∷ [])) e, held_place s [] k, l) in
      (d, sym (other_place s [] k (task_at s k).parent d ∙ rest-place s (task_at s k).parent) ∙ l)

abort-turns : {o : State} (n k : ℕ) (s : State) → Aborting n k s → ((task_at s k).core ≡ HoldsRun → KeepsRun o s k)
    → ((y : ℕ) → 1 ≤ y → y ≤ task_blocks → (task_at s y).place ≡ InLink → (task_at s y).core ≡ HoldsRun → KeepsRun o s y) → Turns o s (aborted n k s)
abort-turns zero k s a own linked = absurd (omega (arith, sym (upward-zero s k) ∙ a.chain, a.hand.some))
abort-turns {o} (suc n) k s a own linked =
    rw (aborted-step n k s (λ z. omega (arith, z, a.hand.some)))
    (⊎_elim
    (λ z. rw (z.1, aborted-none n (ended (unlinked s k) k))
    (then_turns (unlinked-turns s k) (ended-turns (alone i a.rest a.core z.1) (unlink-rest i.shape k i.some i.low z.1 a.rest) (unlinked-held s k own))))
    (λ z. then_turns (unlinked-turns s k)
    (then_turns
    (ended-turns (child i a.rest a.core z.1) (unlink-rest (grabbed i a.rest a.core z.1).shape k i.some i.low refl a.rest) (unlinked-held s k own))
    (abort-turns n (task_at s k).parent (ended (unlinked s k) k) (abort-next a z.1)
    (let p = parent-linked a z.1 in later z.1 (task_at s k).parent (omega (arith, z.1)) (parent-low i.shape k i.low z.1 i.some) p.0 p.1)
    (λ y lo hi l. let p = linked-before a z.1 y l in later z.1 y lo hi p.0 p.1))))
    (tested (task_at s k).parent 0))
  where
    i : InHand s k [] 0
    i = a.hand

    later : (z : (task_at s k).parent ≢ 0) (y : ℕ) → 1 ≤ y → y ≤ task_blocks → y ≢ k → (task_at s y).place ≡ InLink → (task_at (next a z) y).core ≡ HoldsRun → KeepsRun o (next a z) y
    later z y lo hi d l h =
        let e = linked-same a z y lo hi d l in
        let r = linked y lo hi l (sym (ap (λ (t : Task). t.core) e) ∙ h) in
        record { held = r.held; holds = h; program = ap (λ (t : Task). t.program) e ∙ r.program; start = ap (λ (t : Task). t.start) e ∙ r.start }

-- ---- Waking.
taken-turns : {o s : State} (a q : ℕ) → Shape s [] 0 → q < 8 → Other q → 1 ≤ count a (queue s q) → Turns o s (made_ready (leaving s q a) a)
taken-turns {o} {s} a q g l w c = then_turns (line-turns s q _ w) (made-turns (leave g a q l c))

first-left : {q a : ℕ} {l m : List ℕ} {s : State} → Walk q (a ∷ l) s m → 1 ≤ count a (queue s q)
first-left {q} {a} {l} w = omega (arith, w.left a, count-cons a a l, one_same a a refl)

events-turns : {o : State} (l : List ℕ) (s : State) → Walk event_queue l s l → Turns o s (each woken l s)
unfolding each woken
events-turns [] s w = stays s
events-turns (a ∷ l) s w =
    then_turns
    (chosen (enough s (task_at s a).count (task_at s a).events) (λ e. taken-turns a event_queue w.shape (omega arith) (λ level lo hi z. omega (arith, z)) (first-left w)) (λ e. stays s))
    (events-turns l (woken a s) (walk_step w))

times-turns : {o : State} (l : List ℕ) (s : State) → Walk time_queue l s [] → Turns o s (each timely l s)
unfolding each timely
times-turns [] s w = stays s
times-turns (a ∷ l) s w =
    then_turns
    (chosen (leb (task_at s a).time s.clock) (λ e. taken-turns a time_queue w.shape (omega arith) (λ level lo hi z. omega (arith, z, hi)) (first-left w)) (λ e. stays s))
    (times-turns l (timely a s) (walk-tick w))

-- ---- Waiting, the channel, the dispatch.
waiting-turns : {o : State} (s : State) (k : ℕ) (c : Call) → Turns o s (waiting s k c)
unfolding waiting awaits_events awaits_time in_time
waiting-turns s k c =
    chosen (eqb c.kind 1)
    (λ e. then_turns (block-turns s k (awaiting_events s.clock (task_at s k) c.value c.events) refl refl refl) (line-turns _ event_queue _ (λ level lo hi z. omega (arith, z))))
    (λ e. then_turns (block-turns s k (awaiting_time s.clock (task_at s k) (due_of s c)) refl refl refl) (line-turns _ time_queue _ (λ level lo hi z. omega (arith, z, hi))))

filled-turns : {o : State} (s : State) → Turns o s (channel_filled s)
unfolding channel_filled
filled-turns s =
    chosen (eqb s.channel 0 && not (is_empty (queue s channel_queue)))
    (λ e. queue-turns channel_queue _ (λ level lo hi z. omega (arith, z, hi)) refl refl refl refl refl) (λ e. stays s)

freed-turns : {o : State} (s : State) (r : ℕ) → Turns o s (freed_request s r)
unfolding freed_request
freed-turns s r = untouched refl refl refl refl refl

first-turns : {o : State} (s : State) (level : ℕ) → level ≤ 3 → Turns o s (runs_first s level)
unfolding runs_first
first-turns s level l =
    then_turns (line-turns s (ready_queue level) _ (λ i lo hi z. omega (arith, z, l, lo))) (kept-turns (hd (queue s (ready_queue level))) _ refl refl refl refl refl refl refl refl)

pub dispatched-turns : {o : State} (s : State) → Turns o s (dispatched s)
dispatched-turns {o} s = by-dispatch s (Turns o s) (stays s) (λ z b. first-turns s (best_ready s) (best-some s b).1)

stopped-turns : {o : State} (s : State) (p : ℕ) → Turns o s (stopped s p)
unfolding stopped
stopped-turns s p = kept-turns s.running (moving s.clock (task_at s s.running) p) refl refl refl refl refl refl refl refl

-- ---- The calls.
module _ {s : State} (c : Call) (g : Lawful s) where
  -- a free block holds no run
  created-turns : s.free_tasks ≢ 0 → (p : ℕ) → Turns s s (created s (least s.free_tasks) c.number p)
  unfolding created
  created-turns some p = lost-turns (least s.free_tasks) (new_task c.number p) refl refl refl refl refl (λ z. omega (arith, z)) none-held
    where
      none-held : (task_at s (least s.free_tasks)).core ≢ HoldsRun
      none-held h =
          let b = g.shape.blank in
          let lo : 1 ≤ least s.free_tasks = least-some s.free_tasks 25 (omega arith) b.free_tasks some b.free_tasks-none in
          let hi : least s.free_tasks ≤ task_blocks = omega (arith, least-low s.free_tasks 25 (omega arith) b.free_tasks some b.free_tasks-none) in
          omega (
            arith,
            least-in s.free_tasks 25 (omega arith) b.free_tasks some b.free_tasks-none,
            (g.shape.tasks (least s.free_tasks) lo hi).free_tasks,
            one-other _ Free (used-holder g.shape lo hi h),
          )

  -- a task that holds a run held it, where no block has changed
  held-yet : {t : State} → t.tasks ≡ s.tasks → (k : ℕ) → (task_at t k).core ≡ HoldsRun → KeepsRun s t k
  held-yet {t} e k h =
      let now : task_at t k ≡ task_at s k = ap (λ (l : List Task). get_or l k no_task) e in
      record { held = sym (ap (λ (x : Task). x.core) now) ∙ h; holds = h; program = ap (λ (x : Task). x.program) now; start = ap (λ (x : Task). x.start) now }

  start-turns : c.number < s.directory.modules → s.free_tasks ≢ 0 → Turns s s (operator_start s c).state
  unfolding operator_start
  start-turns known some =
      then_turns (created-turns some 0) (made-turns (new g c.number known some 0 (omega arith) (new_apart g c.number known some)))

  schedule-turns : c.number < s.directory.modules → s.free_tasks ≢ 0 → Turns s s (schedule s c).state
  unfolding schedule
  schedule-turns known some =
      chosen (holds s c)
      (λ e. then_turns (created-turns some 0) (made-turns (new g c.number known some 0 (omega arith) (new_apart g c.number known some))))
      (λ e. then_turns (created-turns some 0) (waiting-turns _ _ c))

  module _ (n : s.running ≢ 0) where
    link-turns : c.number < s.directory.modules → s.free_tasks ≢ 0 → Turns s s (link s c).state
    unfolding link
    link-turns known some =
        let k = least s.free_tasks in
        let made = created s (least s.free_tasks) c.number s.running in
        then_turns (created-turns some s.running)
        (then_turns (stopped-turns made InLink) (made-turns (linked g c.number known some n)))

    end-turns : Turns s s (end s c).state
    unfolding end
    end-turns = then_turns {t = with_running s 0} (untouched refl refl refl refl refl) (ended-turns (stop g.shape n) (rest-stopped s 0 g.rest) (held-yet refl s.running))

    freemain-turns : Turns s s (freemain s c).state
    unfolding freemain
    freemain-turns = back-turns g.shape g.rest s.running (omega (arith, n)) g.shape.blank.running (held-yet refl s.running)

    wait-turns : Turns s s (wait s c).state
    unfolding wait
    wait-turns = chosen (holds s c) (λ e. stays s) (λ e. then_turns {t = with_running s 0} (untouched refl refl refl refl refl) (waiting-turns (with_running s 0) s.running c))

    yield-turns : Turns s s (dispatch_check s c).state
    unfolding dispatch_check
    yield-turns =
        chosen (ltb 0 (best_ready s) && ltb (best_ready s) (level_of s s.running))
        (λ e. then_turns (stopped-turns s Ready) (line-turns (stopped s Ready) (ready_queue (level_of s s.running)) _ (λ i lo hi z. omega (arith, z, lo, worst g n)))) (λ e. stays s)

    transfer-turns : Turns s s (read_or_write s c).state
    unfolding read_or_write queued asked
    transfer-turns =
        let r = least s.free_requests in
        then_turns {t = asked s r c} (untouched refl refl refl refl refl)
        (then_turns {t = queued (asked s r c) r} (line-turns (asked s r c) channel_queue _ (λ level lo hi z. omega (arith, z, hi))) (filled-turns _))

    check-turns : Turns s s (check s c).state
    unfolding check awaits_request
    check-turns =
        chosen (eqb (request_at s c.number).place Done) (λ e. freed-turns s c.number)
        (λ e. kept-turns s.running (awaiting_request s.clock (task_at s s.running) c.number) refl refl refl refl refl refl refl refl)

    abort-all-turns : Turns s s (program_check s c).state
    unfolding program_check
    abort-all-turns =
        then_turns {t = with_running s 0} (untouched refl refl refl refl refl)
        (abort-turns 24 s.running (with_running s 0) (starts-abort g n) (held-yet refl s.running) (λ y lo hi l. held-yet refl y))

  signal-turns : bit s.directory.defined c.number ≡ 1 → Turns s s (signal s c).state
  unfolding signal
  signal-turns d =
      chosen (eqb c.value 1)
      (λ e. then_turns {t = told-on s c.number} (untouched refl refl refl refl refl) (events-turns (queue s event_queue) _ (signal-walk c.number d g)))
      (λ e. untouched refl refl refl refl refl)

  timer-turns : Turns s s (timer s c).state
  unfolding timer
  timer-turns =
      chosen (eqb ((s.clock + 1) % s.directory.every) 0)
      (λ e. then_turns {t = with_clock s (s.clock + 1)} (untouched refl refl refl refl refl) (times-turns (queue s time_queue) _ (timer-walk g)))
      (λ e. untouched refl refl refl refl refl)

  off-held : (task_at (freed_request (off s) s.channel) (owner s)).core ≡ HoldsRun → KeepsRun s (freed_request (off s) s.channel) (owner s)
  unfolding freed_request
  off-held = held-yet refl (owner s)

  -- I/O done: the owner waits on it in CHECK, or is ending and this was its last, or neither
  io-turns : s.channel ≢ 0 → Turns s s (io_done s c).state
  io-turns n =
      rw (done_first s c)
      (then_turns
      (then_turns {t = off s} (untouched refl refl refl refl refl)
      (chosen (eqb (task_at s (owner s)).place InCheck && eqb (task_at s (owner s)).request s.channel)
      (λ e. then_turns (freed-turns (off s) s.channel) (made-turns (freed-hand g n (in-check (both _ _ e).0))))
      (λ e. chosen (eqb (task_at s (owner s)).place Ending && not (pending (off s) (owner s)))
      (λ d. then_turns (freed-turns (off s) s.channel)
      (let f = both _ _ d in finished-turns (freed-hand g n (is-ending f.0)) (freed-rest g n) off-held (last-quiet g n (eqb-true _ _ f.0) (none-pending _ f.1))))
      (λ d. stays (off s)))))
      (filled-turns _))
    where
      none-pending : (b : Bool) → not b ≡ true → b ≡ false
      none-pending false e = refl
      none-pending true e = sym e

      in-check : eqb (task_at s (owner s)).place InCheck ≡ true → (7 ≤ (task_at s (owner s)).place) × ((task_at s (owner s)).place ≤ 8)
      in-check e = let p = eqb-true (task_at s (owner s)).place InCheck e in omega (arith, p)

      is-ending : eqb (task_at s (owner s)).place Ending ≡ true → (7 ≤ (task_at s (owner s)).place) × ((task_at s (owner s)).place ≤ 8)
      is-ending e = let p = eqb-true (task_at s (owner s)).place Ending e in omega (arith, p)

-- ---- All of them, by the list of deeds.
module _ {s : State} {c : Call} (g : Lawful s) (a : Accepts s c) where
  effect-turns : Turns s s (effect s c).state
  unfolding Shown deeds needs_task ◌among◌ test_event
  effect-turns =
      every-deed s c (λ (e : Effect). Turns s s e.state) (λ k. stays s)
      (λ z. freemain-turns c g (a.running (rw z)))
      (λ z. link-turns c g (a.running (rw z)) (a.program (rw z)) (a.block (rw z)))
      (λ z. end-turns c g (a.running (rw z)))
      (λ z. schedule-turns c g (a.program (rw z)) (a.block (rw z)))
      (λ z. wait-turns c g (a.running (rw z)))
      (λ z. signal-turns c g (a.event (rw z)).1)
      (λ z. stays s)
      (λ z. yield-turns c g (a.running (rw z)))
      (λ z. transfer-turns c g (a.running (rw z)))
      (λ z. transfer-turns c g (a.running (rw z)))
      (λ z. check-turns c g (a.running (rw z)))
      (λ z. timer-turns c g)
      (λ z. io-turns c g (a.channel z))
      (λ z. abort-all-turns c g (a.running (rw z)))
      (λ z. start-turns c g (a.program (rw z)) (a.block (rw z)))

  -- the law: an accepted call, whole, and its dispatch
  pub none-overtakes : Turns s s (dispatched (effect s c).state)
  none-overtakes = then_turns effect-turns (dispatched-turns (effect s c).state)
