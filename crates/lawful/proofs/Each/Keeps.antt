-- Every accepted call, followed by the dispatch, keeps the rules. By the list of deeds: one law for each.
use mathlib.Core.Bool.{true, true≢false}
use mathlib.Core.Path.{◌≡◌, sym, ◌∙◌}
use Prim.Native.Nat.{◌≤◌}
use native.Mathlib.Omega.{arith}
use Rattle.words.specs.Words.{◌among◌}
use Rattle.tables.specs.State.{State}
use Rattle.calls.specs.declared.Call.{Call}
use Rattle.calls.specs.Calls.{needs_task}
use Rattle.meaning.specs.Refusals.{transfers}
use Rattle.meaning.specs.Ready.{dispatched}
use Rattle.meaning.specs.Services.{Effect, read_or_write, deeds, effect}
use Rattle.meaning.proofs.Deeds.{Shown, every-deed}
use Rattle.lawful.specs.Resting.{Lawful, Settled}
use Rattle.lawful.specs.Accepts.{Accepts}
use Rattle.lawful.proofs.Ready.Dispatch.{dispatch}
use Rattle.lawful.proofs.Each.Calls.{test-event-keeps, start-keeps, schedule-keeps, wait-keeps}
use Rattle.lawful.proofs.Each.Signal.{signal-keeps}
use Rattle.lawful.proofs.Each.Given.{freemain-keeps}
use Rattle.lawful.proofs.Each.Link.{link-keeps}
use Rattle.lawful.proofs.Each.Finish.{end-keeps}
use Rattle.lawful.proofs.Each.Abort.{program-check-keeps}
use Rattle.lawful.proofs.Each.Timer.{timer-keeps, dispatch-check-keeps}
use Rattle.lawful.proofs.Each.Channel.{transfer-keeps, check-keeps}
use Rattle.lawful.proofs.Each.IoDone.{transferred-keeps}

module _ {s : State} {c : Call} (g : Lawful s) (a : Accepts s c) where
  transferred : transfers c ≡ true → needs_task c.code ≡ true → (13 ≤ c.code) × (c.code ≤ 14) → Settled (read_or_write s c).state
  transferred o t b = transfer-keeps c g (a.running t) (a.free_requests o) (a.device o) b (a.bytes o).0

  -- before the dispatch
  pub settles : Settled (effect s c).state
  unfolding Shown deeds needs_task ◌among◌
  settles =
      every-deed s c (λ (e : Effect). Settled e.state) (λ k. absurd (true≢false (sym a.known ∙ k)))
      (λ z. freemain-keeps c g (a.running (rw z)))
      (λ z. link-keeps c g (a.program (rw z)) (a.block (rw z)) (a.running (rw z)))
      (λ z. end-keeps c g (a.running (rw z)))
      (λ z. schedule-keeps c g (a.program (rw z)) (a.block (rw z)) (a.condition (rw z)))
      (λ z. wait-keeps c g (a.running (rw z)) (a.condition (rw z)))
      (λ z. signal-keeps c g (a.event (rw z)).1)
      (λ z. test-event-keeps c g)
      (λ z. dispatch-check-keeps c g (a.running (rw z)))
      (λ z. transferred (rw z) (rw z) (omega (arith, z)))
      (λ z. transferred (rw z) (rw z) (omega (arith, z)))
      (λ z. let h = a.held z in check-keeps c g (a.running (rw z)) h.0 h.1 h.2 h.3)
      (λ z. timer-keeps c g)
      (λ z. transferred-keeps c g (a.channel z))
      (λ z. program-check-keeps c g (a.running (rw z)))
      (λ z. start-keeps c g (a.program (rw z)) (a.block (rw z)))

  -- the law: an accepted call, whole
  pub keeps : Lawful (dispatched (effect s c).state)
  keeps = dispatch settles
