-- One turn of each pass: what the code has of a block, its mark and its module read at run time, is what the rules ask.
use mathlib.Core.Bool.{Bool, true, false, true≢false, ◌&&◌, ◌||◌}
use mathlib.Core.Path.{◌≡◌, sym, ap, ◌∙◌}
use mathlib.Core.List.{List}
use Prim.Native.Nat.{ℕ, ◌+◌, ◌-◌, ◌≤◌, ◌<◌}
use native.Mathlib.Omega.{arith}
use lib.Dec.{eqb, leb}
use lib.ListN.{get_or}
use Rattle.words.specs.Words.{all_of, some_of, one_to, has}
use Rattle.image.specs.declared.Entry.{Entry}
use Rattle.tables.specs.declared.Tables.{Tables}
use Rattle.tables.specs.Blocks.{task_blocks, request_blocks}
use Rattle.tables.specs.State.{State, read, node, task_at, request_at, entry_for}
use Rattle.fields.specs.Blocks.{fields_right, place_right, waiter_right, pends, pending_right, task_passes, Marked, request_right, used_by, request_passes}
use Rattle.threads.proofs.Tests.{all-to, to-all}
use Rattle.words.proofs.Truth.{not_so}
use Rattle.words.proofs.OneTo.{some_next}

-- a test that passes each block below i, and i, or fails at one
module _ (p : ℕ → Bool) (n : ℕ) where
  pub each-passes : (i : ℕ) → ((k : ℕ) → k < i → 1 ≤ k → p k ≡ true) → n < i → all_of p (one_to n) ≡ true
  each-passes i f h = to-all p n (λ k l u. f k (omega arith) l)

  pub one-fails : (k : ℕ) → 1 ≤ k → k ≤ n → p k ≡ false → all_of p (one_to n) ≡ false
  one-fails k l h f = not_so (all_of p (one_to n)) (λ e. true≢false (sym (all-to p n e k l h) ∙ f))

-- a test that some block below i passes, and i
pub some-turn : (p : ℕ → Bool) (i : ℕ) {b r : Bool} → 1 ≤ i → b ≡ some_of p (one_to (i - 1)) → r ≡ p i → (b || r) ≡ some_of p (one_to (i + 1 - 1))
some-turn p i {b} {r} h e f =
    let j : i + 1 - 1 ≡ i - 1 + 1 = omega arith in
    let k : i ≡ i - 1 + 1 = omega arith in
    rw j (some_next p (i - 1) b r e (f ∙ ap p k))

module _ (t : Tables) {m : List ℕ} (marked : Marked t m) where
  abbrev s : State
  s = read t

  -- a request block by its mark
  pub request-turn : (r : ℕ) {free b : Bool} → r ≤ request_blocks → free ≡ has s.free_requests r
      → b ≡ request_right (get_or m (node r) 0) (eqb s.channel r) free (used_by s.free_tasks (request_at s r).owner) (request_at s r)
      → b ≡ request_passes s r
  unfolding request_passes
  request-turn r h f e = e ∙ rw (marked.stands (node r) (omega arith), f)

  -- a task block by its mark and its module
  pub task-turn : (k : ℕ) {e : Entry} {own free some b : Bool} → k ≤ task_blocks → e ≡ entry_for s k
      → own ≡ pends k (request_at s (task_at s k).request) → free ≡ has s.free_tasks k
      → some ≡ some_of (λ r. pends k (request_at s r)) (one_to request_blocks)
      → b ≡ (fields_right s.directory.modules e.units (task_at s k) && place_right (get_or m k 0) e.level (eqb s.running k) free (task_at s k)
      && waiter_right s.directory.defined s.on (task_at s k) && pending_right own some (task_at s k) && leb (task_at s k).since s.clock)
      → b ≡ task_passes s k
  unfolding task_passes
  task-turn k h entry owns frees pend e = e ∙ rw (marked.stands k (omega arith), entry, owns, frees, pend)
