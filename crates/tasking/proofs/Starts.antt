-- A new task: its block can be made ready, or can wait; and so can a child whose parent has been put in LINK. The laws of the meaning say that the block is in
-- hand, and a block in hand is in no queue.
use mathlib.Core.Bool.{false, true≢false}
use mathlib.Core.Path.{◌≡◌, sym, ap, subst, ◌∙◌}
use mathlib.Core.Logic.{◌≢◌, ⊎_elim}
use mathlib.Core.List.{[]}
use Prim.Native.Nat.{ℕ, ◌^◌, ◌<◌, suc}
use native.Mathlib.Omega.{arith}
use Rattle.words.proofs.Truth.{tested}
use Rattle.words.specs.Words.{least}
use Rattle.tables.specs.declared.Tables.{Tables}
use Rattle.tables.specs.Blocks.{InLink, task_blocks}
use Rattle.tables.specs.State.{State, read}
use Rattle.tables.specs.Held.{Shows, Loose}
use Rattle.calls.specs.declared.Call.{Call}
use Rattle.meaning.specs.Conditions.{holds, due_of}
use Rattle.meaning.specs.Services.{created, stopped}
use Rattle.lawful.specs.Accepts.{Condition}
use Rattle.words.proofs.Free.{least-low}
use Rattle.lawful.proofs.Each.Calls.{new, new_apart}
use Rattle.lawful.proofs.Each.Link.{linked}
use Rattle.scheduler.proofs.Shaped.{hand-loose}
use Rattle.tasking.specs.Starting.{Starting}

-- the time of a condition that does not hold yet is one that the clock can show
pub due-low : (s : State) (c : Call) → Condition s c → c.amount < 2 ^ 32 → false ≡ holds s c → c.kind ≢ 1 → due_of s c < 2 ^ 32
unfolding holds due_of
due-low s c w low f n =
    ⊎_elim
    (λ z. absurd (true≢false (sym (f ∙ rw z.0))))
    (λ z. ⊎_elim (λ y. rw y.0 low) (λ y. rw y.0 (let k : c.kind ≡ 3 = omega (arith, n, z.1, y.1, w.kind) in omega (arith, w.time k))) (tested c.kind 2))
    (tested c.kind 0)

module _ {t : Tables} {c : Call} (p : Starting t c) where
  abbrev s : State
  s = read t

  abbrev k : ℕ
  k = least s.free_tasks

  pub block-low : k < suc task_blocks
  block-low =
      let b = p.lawful.state.shape.blank in
      omega (arith, least-low s.free_tasks 25 (omega arith) b.free_tasks p.block b.free_tasks-none)

  pub new-loose : {u : Tables} → Shows u (created s k c.number 0) → Loose u k
  new-loose h =
      let g = p.lawful.state in
      hand-loose {h = []} {e = 0} h.sound (rw h.reads (new g c.number p.program p.block 0 (omega arith) (new_apart g c.number p.program p.block)))

  pub new-waits : {u : Tables} → Shows u (created s k c.number 0) → Condition s c → c.amount < 2 ^ 32 → false ≡ holds s c
      → Loose u k × (c.kind ≢ 1 → due_of (read u) c < 2 ^ 32)
  unfolding created due_of
  new-waits h w low f = (new-loose h, subst (λ (x : State). c.kind ≢ 1 → due_of x c < 2 ^ 32) (sym h.reads) (due-low s c w low f))

  pub child-loose : t.running ≢ 0 → {u : Tables} → Shows u (stopped (created s k c.number s.running) InLink) → Loose u k
  child-loose n h = hand-loose {h = []} {e = 0} h.sound (rw h.reads (linked p.lawful.state c.number p.program p.block n))

  -- the task that runs goes on running while its child is made
  pub child-running : (k m : ℕ) {u : Tables} → Shows u (created s k m s.running) → u.running < suc task_blocks
  unfolding created
  child-running k m h = rw (ap (λ (x : State). x.running) h.reads) (omega (arith, p.lawful.state.shape.blank.running))
