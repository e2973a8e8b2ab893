-- The views of one small change, by which later relations go: the numbers, and one block, one request or one queue, which changes in one of the few ways or stays.
use mathlib.Core.Bool.{true}
use mathlib.Core.Path.{◌≡◌, refl, ap}
use mathlib.Core.Logic.{◌⊎◌, inl, inr, ⊎_elim}
use mathlib.Core.List.{List, [], ◌∷◌}
use Prim.Native.Nat.{ℕ, zero, suc, ◌+◌}
use lib.ListN.{set, get_or}
use Rattle.tables.specs.Blocks.{no_task, no_request}
use Rattle.tables.specs.State.{State, task_at, request_at, queue}
use Rattle.calls.specs.declared.Call.{Call}
use Rattle.calls.specs.Calls.{SIGNAL, TIMER, needs_task}
use Rattle.lawful.proofs.Chained.Small.{Block, Ask, Line, Small, ticks, tells, stops, carries, tasks_free, requests_free, pools, block, asked, lines}

-- ---- One place of a list changed: another is as it was; and that one has the new, or the list does not reach it.
module _ {A : Type 0} (x d : A) where
  pub set_at : (l : List A) (k y : ℕ) → (get_or (set l k x) y d ≡ get_or l y d) ⊎ ((y ≡ k) × (get_or (set l k x) y d ≡ x))
  set_at [] k y = inl refl
  set_at (a ∷ l) zero zero = inr (refl, refl)
  set_at (a ∷ l) zero (suc y) = inl refl
  set_at (a ∷ l) (suc k) zero = inl refl
  set_at (a ∷ l) (suc k) (suc y) = ⊎_elim (λ e. inl e) (λ e. inr (ap suc e.0, e.1)) (set_at l k y)

  pub set_own : (l : List A) (k : ℕ) → (get_or (set l k x) k d ≡ x) ⊎ (get_or (set l k x) k d ≡ d)
  set_own [] k = inr refl
  set_own (a ∷ l) zero = inl refl
  set_own (a ∷ l) (suc k) = set_own l k

-- ---- One small change: the numbers.
pub record Leaves (c : Call) (s t : State) : Type 0 where
  pub directory : t.directory ≡ s.directory
  pub holes : t.holes ≡ s.holes
  pub clock : (t.clock ≡ s.clock) ⊎ ((c.code ≡ TIMER) × (t.clock ≡ s.clock + 1))
  pub events : ((t.on ≡ s.on) × (t.signalled ≡ s.signalled)) ⊎ (c.code ≡ SIGNAL)
  pub running : (t.running ≡ s.running) ⊎ ((needs_task c.code ≡ true) × (t.running ≡ 0))

plain : {c : Call} {s t : State} → t.directory ≡ s.directory → t.holes ≡ s.holes → t.clock ≡ s.clock → (t.on ≡ s.on) × (t.signalled ≡ s.signalled) → t.running ≡ s.running → Leaves c s t
plain d b c o r = record { directory = d; holes = b; clock = inl c; events = inl o; running = inl r }

pub leaves-numbers : {o : State} {c : Call} {s t : State} → Small o c s t → Leaves c s t
leaves-numbers (ticks e f) = record { directory = refl; holes = refl; clock = inr (e, refl); events = inl (refl, refl); running = inl refl }
leaves-numbers (tells x y e) = record { directory = refl; holes = refl; clock = inl refl; events = inr e; running = inl refl }
leaves-numbers (stops e) = record { directory = refl; holes = refl; clock = inl refl; events = inl (refl, refl); running = inr (e, refl) }
leaves-numbers (carries x) = plain refl refl refl (refl, refl) refl
leaves-numbers (tasks_free x) = plain refl refl refl (refl, refl) refl
leaves-numbers (requests_free x) = plain refl refl refl (refl, refl) refl
leaves-numbers (pools level x) = plain refl refl refl (refl, refl) refl
leaves-numbers (block k b) = plain refl refl refl (refl, refl) refl
leaves-numbers (asked r b) = plain refl refl refl (refl, refl) refl
leaves-numbers (lines q b) = plain refl refl refl (refl, refl) refl

-- the clock stands, or it goes on before any block has changed
pub clock-of : {o : State} {c : Call} {s t : State} → Small o c s t → (t.clock ≡ s.clock) ⊎ (t.tasks ≡ o.tasks)
clock-of (ticks e f) = inr f
clock-of (tells x y e) = inl refl
clock-of (stops e) = inl refl
clock-of (carries x) = inl refl
clock-of (tasks_free x) = inl refl
clock-of (requests_free x) = inl refl
clock-of (pools level x) = inl refl
clock-of (block k b) = inl refl
clock-of (asked r b) = inl refl
clock-of (lines q b) = inl refl

-- ---- One small change: the block y.
pub block_of : {o : State} {c : Call} {s t : State} → Small o c s t → (y : ℕ) → (task_at t y ≡ task_at s y) ⊎ Block o c s y (task_at t y)
block_of (ticks e f) y = inl refl
block_of (tells x z e) y = inl refl
block_of (stops e) y = inl refl
block_of (carries x) y = inl refl
block_of (tasks_free x) y = inl refl
block_of (requests_free x) y = inl refl
block_of (pools level x) y = inl refl
block_of {o} {c} {s} (block k {x} b) y = ⊎_elim (λ e. inl e) (λ e. inr (rw (e.1, e.0) b)) (set_at x no_task s.tasks k y)
block_of (asked r b) y = inl refl
block_of (lines q b) y = inl refl

-- ---- One small change: the request r, the queue q.
pub ask-of : {o : State} {c : Call} {s t : State} → Small o c s t → (r : ℕ) → (request_at t r ≡ request_at s r) ⊎ Ask o c s r (request_at t r)
ask-of (ticks e f) y = inl refl
ask-of (tells x z e) y = inl refl
ask-of (stops e) y = inl refl
ask-of (carries x) y = inl refl
ask-of (tasks_free x) y = inl refl
ask-of (requests_free x) y = inl refl
ask-of (pools level x) y = inl refl
ask-of (block k b) y = inl refl
ask-of {o} {c} {s} (asked r {x} b) y = ⊎_elim (λ e. inl e) (λ e. inr (rw (e.1, e.0) b)) (set_at x no_request s.requests r y)
ask-of (lines q b) y = inl refl

pub line_of : {o : State} {c : Call} {s t : State} → Small o c s t → (q : ℕ) → (queue t q ≡ queue s q) ⊎ Line c (queue s q) (queue t q)
line_of (ticks e f) y = inl refl
line_of (tells x z e) y = inl refl
line_of (stops e) y = inl refl
line_of (carries x) y = inl refl
line_of (tasks_free x) y = inl refl
line_of (requests_free x) y = inl refl
line_of (pools level x) y = inl refl
line_of (block k b) y = inl refl
line_of (asked r b) y = inl refl
line_of {o} {c} {s} (lines q {l} b) y = ⊎_elim (λ e. inl e) (λ e. inr (rw (e.1, e.0) b)) (set_at l [] s.queues q y)
