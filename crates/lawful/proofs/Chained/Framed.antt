-- Getting ready is made of few small changes: core is taken or given back, a block goes to a ready or core queue, a pool and a queue change. What they leave as it was is one law,
-- for a set B of the blocks and a set Q of the queues that are touched; it serves making ready, serving a core queue and giving core back.
use mathlib.Core.Bool.{Bool, true, false, not, ◌||◌}
use mathlib.Core.Path.{◌≡◌, refl, ap, ◌∙◌}
use mathlib.Core.Logic.{◌≢◌}
use mathlib.Core.List.{List, [], ◌∷◌, ◌++◌}
use Prim.Native.Nat.{ℕ, ◌+◌, ◌≤◌}
use native.Mathlib.Omega.{arith}
use lib.ListN.{get_or}
use lib.Seq.{get_or-set_other}
use lib.Dec.{eqb}
use Rattle.threads.specs.Threads.{count, without}
use Rattle.words.specs.Words.{if◌then◌else◌, is_empty}
use Rattle.image.specs.Directory.{no_entry}
use Rattle.tables.specs.declared.Task.{Task}
use Rattle.tables.specs.Blocks.{Free, Ready, InCore, HoldsRun, GaveBack, no_task, moving, with_core}
use Rattle.tables.specs.State.{State, ready_queue, core_queue, with_pools, with_tasks, with_queues, with_pool, with_task, with_queue, task_at, queue, level_of, leaving}
use Rattle.meaning.specs.Ready.{placed, fits, needs_core, given_run, readied, awaits_core, made_ready, seated, serving, served}
use Rattle.meaning.specs.Finish.{given_back}
use Rattle.calls.specs.declared.Call.{Call}
use Rattle.lawful.proofs.Blocks.Sums.{field-kept}
use Rattle.words.proofs.Counting.{one_same}
use Rattle.threads.proofs.Queues.{count-cons}
use Rattle.lawful.proofs.Chained.Small.{Comes, moves, cores, joins, leaves, Small, pools, block, lines, Chain, ◌next◌, carried}

-- ---- The small changes, of blocks of B and queues of Q. Only blocks of C go to a core queue.
pub data Readies (B C Q : ℕ → Type 0) (s : State) : State → Type 0 where
  core : (k h a : ℕ) → B k → Readies B C Q s (with_task s k (with_core (task_at s k) h a))
  move : (k p : ℕ) → B k → (2 ≤ p) × (p ≤ 3) → (p ≢ Ready → C k) → Readies B C Q s (placed s k p)
  pool : (level x : ℕ) → Readies B C Q s (with_pool s level x)
  join : (q k : ℕ) → Q q → Readies B C Q s (with_queue s q (queue s q ++ k ∷ []))
  leave : (q k : ℕ) → Q q → Readies B C Q s (leaving s q k)

pub small_of : {B Q : ℕ → Type 0} {o : State} {c : Call} (s t : State) → Readies B (Comes o) Q s t → Small o c s t
small_of s t (core k h a b) = block k (cores h a)
small_of s t (move k p b w c) = block k (moves p (omega (arith, w)) (record { waits = c; links = λ z. absurd (omega (arith, w, z)) }))
small_of s t (pool level x) = pools level x
small_of s t (join q k w) = lines q (joins k)
small_of s t (leave q k w) = lines q (leaves k)

-- any block, any queue
abbrev pub Any : ℕ → Type 0
Any y = y ≡ y

-- ---- What they leave as it was: a state but for its pools, its task blocks and its queues; the task of a block, but for its place and its core.
abbrev pub besides : State → State
besides s = with_queues (with_tasks (with_pools s []) []) []

abbrev pub whose : Task → Task
whose t = moving 0 (with_core t 0 0) Free

pub record Framed (B Q : ℕ → Type 0) (s t : State) : Type 0 where
  pub others : besides t ≡ besides s
  pub tasks : (y : ℕ) → (B y → ⊥) → task_at t y ≡ task_at s y
  pub kept : (y : ℕ) → whose (task_at t y) ≡ whose (task_at s y)
  pub queues : (q : ℕ) → (Q q → ⊥) → queue t q ≡ queue s q

module _ {B Q : ℕ → Type 0} where
  block-then : (s t : State) (k : ℕ) (x : Task) → B k → whose x ≡ whose (task_at t k) → Framed B Q s t → Framed B Q s (with_task t k x)
  block-then s t k x b e a =
      record {
        others = a.others;
        tasks = λ y n. get_or-set_other t.tasks k y x no_task (λ z. n (rw z b)) ∙ a.tasks y n;
        kept = λ y. field-kept (λ (t : Task). whose t) t.tasks k y x no_task e ∙ a.kept y;
        queues = a.queues;
      }

  queue-then : (s t : State) (q : ℕ) (l : List ℕ) → Q q → Framed B Q s t → Framed B Q s (with_queue t q l)
  queue-then s t q l w a =
      record { others = a.others; tasks = a.tasks; kept = a.kept; queues = λ i n. get_or-set_other t.queues q i l [] (λ z. n (rw z w)) ∙ a.queues i n }

  framed-next : {C : ℕ → Type 0} (s t u : State) → Framed B Q s t → Readies B C Q t u → Framed B Q s u
  framed-next s t u a (core k h x b) = block-then s t k (with_core (task_at t k) h x) b refl a
  framed-next s t u a (move k p b w c) = block-then s t k (moving t.clock (task_at t k) p) b refl a
  framed-next s t u a (pool level x) = record { others = a.others; tasks = a.tasks; kept = a.kept; queues = a.queues }
  framed-next s t u a (join q k w) = queue-then s t q (queue t q ++ k ∷ []) w a
  framed-next s t u a (leave q k w) = queue-then s t q (without k (queue t q)) w a

  pub framed : {C : ℕ → Type 0} {s t : State} → Chain (Readies B C Q) s t → Framed B Q s t
  framed = carried (Framed B Q) (λ s. record { others = refl; tasks = λ y n. refl; kept = λ y. refl; queues = λ q n. refl }) framed-next

  module _ {s t : State} (f : Framed B Q s t) where
    pub frame_on : t.on ≡ s.on
    frame_on = ap (λ (x : State). x.on) f.others

    pub frame-signalled : t.signalled ≡ s.signalled
    frame-signalled = ap (λ (x : State). x.signalled) f.others

    pub frame-channel : t.channel ≡ s.channel
    frame-channel = ap (λ (x : State). x.channel) f.others

    pub frame-requests : t.requests ≡ s.requests
    frame-requests = ap (λ (x : State). x.requests) f.others

    pub frame-parents : (y : ℕ) → (task_at t y).parent ≡ (task_at s y).parent
    frame-parents y = ap (λ (x : Task). x.parent) (f.kept y)

-- ---- The chains.
pub given-level : (s : State) (k : ℕ) → level_of (given_run s k) k ≡ level_of s k
unfolding given_run
given-level s k = ap (λ (j : ℕ). (get_or s.directory.entries j no_entry).level) (field-kept (λ t. t.program) s.tasks k k (with_core (task_at s k) HoldsRun _) no_task refl)

module _ (B C Q : ℕ → Type 0) (o : State) where
  abbrev pub Ready-to : State → Type 0
  Ready-to s = Chain (Readies B C Q) o s

  either : (b : Bool) {x y : State} → Ready-to x → Ready-to y → Ready-to (if b then x else y)
  either true f g = f
  either false f g = g

  pub readied-ready : (s : State) (k : ℕ) → B k → Q (level_of s k) → Ready-to s → Ready-to (readied s k)
  unfolding readied
  readied-ready s k b w h = h next move k Ready b (omega arith) (λ n. absurd (n refl)) next join (ready_queue (level_of s k)) k w

  pub awaits-ready : (s : State) (k : ℕ) → B k → C k → Q (level_of s k + 3) → Ready-to s → Ready-to (awaits_core s k)
  unfolding awaits_core
  awaits-ready s k b c w h = h next move k InCore b (omega arith) (λ n. c) next join (core_queue (level_of s k)) k w

  given-ready : (s : State) (k : ℕ) → B k → Ready-to s → Ready-to (given_run s k)
  unfolding given_run
  given-ready s k b h = h next core k HoldsRun _ b next pool (level_of s k) _

  pub seats-ready : (s : State) (k : ℕ) → B k → Q (level_of s k) → Ready-to s → Ready-to (readied (given_run s k) k)
  seats-ready s k b w h = readied-ready (given_run s k) k b (rw (given-level s k) w) (given-ready s k b h)

  pub made-ready : (s : State) (k : ℕ) → B k → C k → Q (level_of s k) → Q (level_of s k + 3) → Ready-to s → Ready-to (made_ready s k)
  unfolding made_ready
  made-ready s k b c w v h = either (needs_core s k) (either (not (is_empty (queue s (core_queue (level_of s k)))) || not (fits s k)) (awaits-ready s k b c v h) (seats-ready s k b w h)) (readied-ready s k b w h)

  -- any queue may be touched, and those of the list
  serving-ready : (q : ℕ) (l : List ℕ) (s : State) → ((k : ℕ) → 1 ≤ count k l → B k) → ((q : ℕ) → Q q) → Ready-to s → Ready-to (serving q l s)
  unfolding serving seated
  serving-ready q [] s b w h = h
  serving-ready q (k ∷ l) s b w h =
      either (fits s k)
      (serving-ready q l (seated s q k) (λ y c. b y (omega (arith, c, count-cons k y l))) w (seats-ready (leaving s q k) k (b k (omega (arith, count-cons k k l, one_same k k refl))) (w (level_of s k)) (h next leave q k (w q)))) h

  pub served-ready : (s : State) (level : ℕ) → ((k : ℕ) → 1 ≤ count k (queue s (core_queue level)) → B k) → ((q : ℕ) → Q q) → Ready-to s → Ready-to (served s level)
  unfolding served
  served-ready s level b w h = serving-ready (core_queue level) (queue s (core_queue level)) s b w h

  pub back-ready : (s : State) (k : ℕ) → B k → ((y : ℕ) → 1 ≤ count y (queue s (core_queue (level_of s k))) → B y) → ((q : ℕ) → Q q) → Ready-to s → Ready-to (given_back s k)
  unfolding given_back
  back-ready s k b v w h = either (eqb (task_at s k).core HoldsRun) (served-ready _ (level_of s k) v w (h next core k GaveBack 0 b next pool (level_of s k) _)) h
