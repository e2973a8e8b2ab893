-- Document 02, E6, of one call on a lawful state: a task that is in its waiting place before and after has kept its reading, and one that is in another place than before has the reading
-- that its place gets by the clock after the call. By `Dated`; where the rules hold, nobody comes back within a call to the place in which it waited.
use mathlib.Core.Bool.{true}
use mathlib.Core.Path.{◌≡◌, refl, sym, ap, ◌∙◌}
use mathlib.Core.Logic.{◌≢◌, inl, inr, ⊎_elim}
use Prim.Native.Nat.{ℕ, ◌≤◌}
use native.Mathlib.Omega.{arith}
use lib.Count.{count_trailing_zeros}
use lib.ListN.{get_or-eq_default}
use Rattle.words.proofs.Truth.{tested}
use Rattle.words.specs.Counting.{bit}
use Rattle.words.proofs.Counting.{one-eq}
use Rattle.words.proofs.Places.{under-or-from}
use Rattle.words.proofs.Free.{least-in}
use Rattle.tables.specs.declared.Task.{Task}
use Rattle.tables.specs.Blocks.{Free, Running, InCore, Ending, waits_in, since_in, no_task, task_blocks}
use Rattle.tables.specs.State.{State, event_queue, time_queue, task_at}
use Rattle.tables.proofs.Readings.{waits-within}
use Rattle.calls.specs.declared.Call.{Call}
use Rattle.meaning.specs.Ready.{dispatched}
use Rattle.meaning.specs.Services.{effect}
use Rattle.lawful.specs.Resting.{Lawful}
use Rattle.lawful.proofs.Blocks.Shape.{rest-place}
use Rattle.lawful.proofs.Blocks.Members.{member-event, member-time, member-place, runs-place}
use Rattle.lawful.proofs.Each.Finish.{parent-links}
use Rattle.lawful.proofs.Chained.Small.{Waiter, Comes, itself, event, time, parent, request}
use Rattle.lawful.proofs.Chained.Dated.{Anew, dated}

-- ---- Where one comes from, whom a call puts into a place.
module _ {s : State} (g : Lawful s) {y : ℕ} (some : 1 ≤ y) (low : y ≤ task_blocks) where
  -- the caller runs, and a block in which a task is made is free
  waiter-place : Waiter s y → (task_at s y).place ≤ Running
  unfolding count_trailing_zeros
  waiter-place (inl e) = rw e (omega (arith, rest-place s s.running, runs-place g.shape (λ z. omega (arith, z, e, some))))
  waiter-place (inr e) =
      let b = g.shape.blank in
      ⊎_elim
      (λ z. absurd (let none : y ≡ 32 = rw z.1 at e in omega (arith, none, low)))
      (λ z.
      let free : bit s.free_tasks y ≡ 1 = rw e (least-in s.free_tasks 25 (omega arith) b.free_tasks z.1 b.free_tasks-none) in
      omega (arith, one-eq _ Free (sym (g.shape.tasks y some low).free_tasks ∙ free), rest-place s y))
      (tested s.free_tasks 0)

  -- and who comes from a queue, from LINK or from CHECK was not in a core queue, and not ending
  comes-place : Comes s y → ((task_at s y).place ≢ InCore) × ((task_at s y).place ≢ Ending)
  comes-place (itself w) = let l = waiter-place w in (λ z. omega (arith, l, z), λ z. omega (arith, l, z))
  comes-place (event c) = let p = member-event g.shape y event_queue (omega arith) c refl in (λ z. omega (arith, p, rest-place s y, z), λ z. omega (arith, p, rest-place s y, z))
  comes-place (time c) =
      let p = member-place g.shape y time_queue (omega arith) c in
      (λ z. omega (arith, member-time g.shape y time_queue (omega arith) c refl, rest-place s y, z), λ z. omega (arith, p, rest-place s y, z))
  comes-place (parent j e) =
      ⊎_elim
      (λ l. absurd (omega (arith, e, some, ap (λ (t : Task). t.parent) (ap (task_at s) (let z : j ≡ 0 = omega (arith, l) in z) ∙ g.shape.blank.block))))
      (λ l. ⊎_elim
      (λ h.
      let p = parent-links g.shape j (omega (arith, h)) (λ z. omega (arith, z, e, some)) l in
      rw (← e) (λ z. omega (arith, p, rest-place s (task_at s j).parent, z), λ z. omega (arith, p, rest-place s (task_at s j).parent, z)))
      (λ h. absurd (omega (arith, e, some, ap (λ (t : Task). t.parent) (get_or-eq_default s.tasks no_task {n = j} (omega (arith, h, g.shape.sizes.tasks))))))
      (under-or-from j 25))
      (under-or-from j 1)
  comes-place (request e) = (λ z. omega (arith, e, z), λ z. omega (arith, e, z))

  -- ---- One call, with its dispatch.
  module _ (c : Call) where
    abbrev after : State
    after = dispatched (effect s c).state

    not_back : waits_in (task_at s y).place ≡ true → (task_at after y).place ≡ (task_at s y).place → Anew s y after → ⊥
    not_back w e a =
        let now : waits_in (task_at after y).place ≡ true = ap waits_in e ∙ w in
        let from = comes-place (a.comes now) in
        let l = waits-within _ w in
        omega (arith, l, waiter-place (a.alone now (λ z. from.0 (sym e ∙ z)) (λ z. from.1 (sym e ∙ z))))

    pub stays-since : waits_in (task_at s y).place ≡ true → (task_at after y).place ≡ (task_at s y).place → (task_at after y).since ≡ (task_at s y).since
    stays-since w e = ⊎_elim (λ d. d.1) (λ a. absurd (not_back w e a)) (dated s c y)

    pub enters-since : (task_at after y).place ≢ (task_at s y).place → (task_at after y).since ≡ since_in after.clock (task_at after y).place
    enters-since n = ⊎_elim (λ d. absurd (n d.0)) (λ a. a.since) (dated s c y)
