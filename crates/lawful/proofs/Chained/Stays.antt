-- What every call leaves as it was: the directory, the rule of the grants, the clock but for the timer, the events but for SIGNAL, and who runs, but that a service call or a program check may stop
-- him.
use mathlib.Core.Bool.{false, true≢false}
use mathlib.Core.Path.{◌≡◌, refl, sym, ap, ◌∙◌}
use mathlib.Core.Logic.{◌≢◌, ◌⊎◌, inl, inr, ⊎_elim}
use Prim.Native.Nat.{◌≤◌}
use native.Mathlib.Omega.{arith}
use Rattle.tables.specs.State.{State}
use Rattle.calls.specs.declared.Call.{Call}
use Rattle.calls.specs.Calls.{SIGNAL, TIMER, needs_task}
use Rattle.meaning.specs.Ready.{dispatched}
use Rattle.meaning.specs.Services.{effect}
use Rattle.lawful.specs.Reached.{First}
use Rattle.lawful.proofs.Ready.Cases.{kept}
use Rattle.lawful.proofs.Ready.Newly.{newly-first}
use Rattle.lawful.proofs.Chained.Small.{Small, Turn, small, runs, Chain, carried}
use Rattle.lawful.proofs.Chained.Views.{Leaves, leaves-numbers}
use Rattle.lawful.proofs.Chained.Chain.{effect-chain}

-- ---- Every call.
pub record Stays (c : Call) (s t : State) : Type 0 where
  pub directory : t.directory ≡ s.directory
  pub holes : t.holes ≡ s.holes
  pub clock : c.code ≢ TIMER → t.clock ≡ s.clock
  pub later : s.clock ≤ t.clock
  pub on : c.code ≢ SIGNAL → t.on ≡ s.on
  pub signalled : c.code ≢ SIGNAL → t.signalled ≡ s.signalled

stays-next : {c : Call} {s t u : State} → Stays c s t → Leaves c t u → Stays c s u
stays-next a b =
    record {
      directory = b.directory ∙ a.directory;
      holes = b.holes ∙ a.holes;
      clock = λ n. ⊎_elim (λ e. e ∙ a.clock n) (λ e. absurd (n e.0)) b.clock;
      later = ⊎_elim (λ e. omega (arith, e, a.later)) (λ e. omega (arith, e.1, a.later)) b.clock;
      on = λ n. ⊎_elim (λ e. e.0 ∙ a.on n) (λ e. absurd (n e)) b.events;
      signalled = λ n. ⊎_elim (λ e. e.1 ∙ a.signalled n) (λ e. absurd (n e)) b.events;
    }

stays-turn : {o : State} {c : Call} (s t u : State) → Stays c s t → Turn o c t u → Stays c s u
stays-turn s t u a (small p) = stays-next a (leaves-numbers p)
stays-turn s t u a (runs q k z f) = record { directory = a.directory; holes = a.holes; clock = a.clock; later = a.later; on = a.on; signalled = a.signalled }

pub stays : {o : State} {c : Call} {s t : State} → Chain (Turn o c) s t → Stays c s t
stays {o} {c} = carried (Stays c) (λ s. record { directory = refl; holes = refl; clock = λ n. refl; later = omega arith; on = λ n. refl; signalled = λ n. refl }) stays-turn

-- ---- The processor: a call puts nobody on it, and one that needs no running task takes nobody off.
pub record Puts (c : Call) (s t : State) : Type 0 where
  pub none-on : (t.running ≡ s.running) ⊎ (t.running ≡ 0)
  pub none-off : needs_task c.code ≡ false → t.running ≡ s.running

puts-next : {o : State} {c : Call} (s t u : State) → Puts c s t → Small o c t u → Puts c s u
puts-next s t u a p =
    ⊎_elim
    (λ e. record { none-on = ⊎_elim (λ i. inl (e ∙ i)) (λ i. inr (e ∙ i)) a.none-on; none-off = λ n. e ∙ a.none-off n })
    (λ e. record { none-on = inr e.1; none-off = λ n. absurd (true≢false (sym e.0 ∙ n)) }) (leaves-numbers p).running

pub effect-puts : (s : State) (c : Call) → Puts c s (effect s c).state
effect-puts s c = carried (Puts c) (λ t. record { none-on = inl refl; none-off = λ n. refl }) puts-next (effect-chain s c)

-- "an interrupt never takes the processor from a running background task": with the dispatch too
pub undisturbed : (s : State) (c : Call) → needs_task c.code ≡ false → s.running ≢ 0 → (dispatched (effect s c).state).running ≡ s.running
undisturbed s c n d =
    let e = (effect-puts s c).none-off n in
    ap (λ (t : State). t.running) (kept (effect s c).state (λ z. d (sym e ∙ z))) ∙ e

-- "each task newly dispatched is the first of the best level that is ready": who runs after a call and did not before
pub newly : (s : State) (c : Call) → let u = dispatched (effect s c).state in u.running ≢ s.running → u.running ≢ 0 → First (effect s c).state u.running
newly s c n d =
    ⊎_elim (λ e. absurd (⊎_elim (λ i. n (e ∙ i)) (λ i. d (e ∙ i)) (effect-puts s c).none-on)) (λ e. e.1) (newly-first (effect s c).state)
