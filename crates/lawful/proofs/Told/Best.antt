-- After a call that has newly dispatched a task, no better level has a ready task: said of the tables that the call leaves. Who is first of the best level is of that level, its queue alone
-- becomes shorter, and those of better levels were empty.
use mathlib.Core.Path.{◌≡◌, refl, sym, ap, subst, ◌∙◌}
use mathlib.Core.Logic.{◌≢◌, ⊎_elim}
use mathlib.Core.List.{List, [], ◌∷◌}
use Prim.Native.Nat.{ℕ, ◌≤◌, ◌<◌}
use native.Mathlib.Omega.{arith}
use lib.ListN.{get_or}
use Rattle.threads.specs.Threads.{hd, count, without}
use Rattle.words.proofs.Truth.{tested}
use Rattle.words.specs.Rows.{first_of}
use Rattle.image.specs.Directory.{no_entry}
use Rattle.tables.specs.declared.Tables.{Tables}
use Rattle.tables.specs.Blocks.{no_task}
use Rattle.tables.specs.State.{State, ready_queue, queue, level_of, read}
use Rattle.calls.specs.Calls.{call_of}
use Rattle.meaning.specs.Ready.{best_ready, runs_first, dispatched}
use Rattle.meaning.specs.Refusals.{refusals}
use Rattle.meaning.specs.Step.{accepted, step_of}
use Rattle.lawful.specs.Shape.{Shape}
use Rattle.lawful.specs.Resting.{Settled}
use Rattle.lawful.specs.Tables.{LawfulTables}
use Rattle.words.proofs.Counting.{one_same}
use Rattle.lawful.proofs.Blocks.Sums.{field-kept}
use Rattle.threads.proofs.Queues.{set-others, count-cons}
use Rattle.lawful.proofs.Blocks.Members.{member-ready}
use Rattle.threads.proofs.Tests.{filled}
use Rattle.lawful.proofs.Ready.Cases.{best-some, kept, none-ready, dispatches}
use Rattle.lawful.proofs.Ready.Newly.{first-best}
use Rattle.lawful.proofs.Each.Keeps.{settles, keeps}
use Rattle.lawful.proofs.Tested.Accepted.{accepts, rows_left}
use Rattle.lawful.proofs.Chained.Stays.{effect-puts}
use Rattle.lawful.proofs.Told.Ends.{step-ends, refused-leaves}
use Rattle.lawful.proofs.Told.Steps.{read-tabled}

-- no level better than that of who runs has a ready task
abbrev pub NoneBetter : State → Type 0
NoneBetter s = (l : ℕ) → 1 ≤ l → l < level_of s s.running → queue s (ready_queue l) ≡ []

-- who heads the ready queue of a level is of that level
heads-level : {s : State} → Shape s [] 0 → (q k : ℕ) (behind : List ℕ) → 1 ≤ q → q ≤ 3 → queue s q ≡ k ∷ behind → q ≡ level_of s k
heads-level {s} g q k behind lo hi e =
    let c : 1 ≤ count k (queue s q) = rw e (omega (arith, count-cons k k behind, one_same k k refl)) in
    (member-ready g k q (omega arith) c lo hi).1

module _ {s : State} (g : Settled s) where
  runner-best : best_ready s ≢ 0 → NoneBetter (runs_first s (best_ready s))
  unfolding runs_first
  runner-best b l a h =
      let k = hd (queue s (best_ready s)) in
      let (lo, hi, some) = best-some s b in
      let f = first-best s b in
      let p = filled (queue s (best_ready s)) some in
      let o : level_of (runs_first s (best_ready s)) k ≡ level_of s k =
      ap (λ (j : ℕ). (get_or s.directory.entries j no_entry).level) (field-kept (λ t. t.program) s.tasks k k _ no_task refl) in
      let v = heads-level g.shape (best_ready s) k p.0 lo hi p.1 in
      let w = heads-level g.shape f.level k f.behind f.best f.worst f.first in
      set-others s.queues (best_ready s) (without k (queue s (best_ready s))) g.shape.sizes.queues (omega (arith, hi)) l (omega (arith, h, o, v))
      ∙ f.better l a (omega (arith, h, o, w))

  dispatched-best : (dispatched s).running ≢ s.running → NoneBetter (dispatched s)
  dispatched-best d =
      ⊎_elim
      (λ z. ⊎_elim (λ b. absurd (d (ap (λ (x : State). x.running) (none-ready s z.1 b.1)))) (λ b. rw (dispatches s z.1 b.1) (runner-best b.1)) (tested (best_ready s) 0))
      (λ z. absurd (d (ap (λ (x : State). x.running) (kept s z.1)))) (tested s.running 0)

-- the law
pub step-best : (t : Tables) (bytes : List ℕ) → LawfulTables t → let u = (step_of t bytes).tables in u.running ≢ t.running → u.running ≢ 0 → NoneBetter (read u)
unfolding accepted
step-best t bytes g =
    ⊎_elim (λ z. rw (z.1, refused-leaves t (first_of (refusals t bytes))) (λ n d. absurd (n refl)))
    (λ z.
    let a = accepts (read t) (call_of bytes) (rows_left t bytes z.0).rows g.state in
    let p = (effect-puts (read t) (call_of bytes)).none-on in
    rw z.1
    (λ n d. subst NoneBetter (sym (read-tabled (keeps g.state a))) (dispatched-best (settles g.state a) (λ e. ⊎_elim (λ i. n (e ∙ i)) (λ i. d (e ∙ i)) p)))) (step-ends t bytes)
