-- One look at each task block. The invariant is what is gathered so far (Seen).
use mathlib.Core.Path.{◌≡◌}
use native.Mathlib.Omega.{arith}
use Prim.Native.Nat.{◌<◌}
use Rattle.tables.specs.State.{read, level_of}
use Rattle.rules.specs.declared.links.Met.{Met}
use Rattle.rules.specs.Links.{Counted, none_met}
use Rattle.rules.proofs.Places.{module-low, parent-low, run_fits}
use Rattle.rules.proofs.Runs.{run-past, run_next, level-low}
use Rattle.rules.proofs.Seen.{seen_start, seen-turn}
use Rattle.rules.proofs.links.seen.Goals as goal
use Rattle.rules.proofs.links.seen.Goals.{After-from-level, then-x-eq-HOLDS_RUN, else-x-eq-HOLDS_RUN}

level : (c : After-from-level) → c.from-level.result ≡ level_of (read c.args.t.now) c.loop-k.k
level c = rw (c.from-then-x-eq-HOLDS_RUN.ensures, c.from.ensures) at c.from-level.ensures

low : (c : After-from-level) → c.from-level.result < 4
low c = omega (arith, level c, level-low c.args.t.now c.requires c.loop-k.k (omega arith))

none : (m : Met) → (m.once ≡ 0) × (m.twice ≡ 0) → m ≡ none_met
none m h = λ i. record { once = h.0 i; twice = h.1 i }

pub loop-k-init : goal.loop-k-init
loop-k-init c = rw (none c.default-parents.result c.default-parents.ensures, none c.default-runs.result c.default-runs.ensures) (seen_start _)

pub adding-requires : goal.adding-requires
adding-requires c =
    rw (c.from-in-loop-k.ensures, c.from.ensures) (omega (arith, parent-low c.args.t.now c.requires c.loop-k.k (omega arith)))

pub bounds-t-from-then-x-eq-HOLDS_RUN : goal.bounds-t-from-then-x-eq-HOLDS_RUN
bounds-t-from-then-x-eq-HOLDS_RUN c =
    rw (c.from-then-x-eq-HOLDS_RUN.ensures, c.from.ensures) (module-low c.args.t.now c.requires c.loop-k.k (omega arith))

pub offset_bounds-runs-level : goal.offset_bounds-runs-level
offset_bounds-runs-level c = let l = low (goal.at.offset_bounds-runs-level c).After-from-level in omega arith

pub bounds-runs-level : goal.bounds-runs-level
bounds-runs-level c = low (goal.at.bounds-runs-level c).After-from-level

pub mask-requires : goal.mask-requires
mask-requires c =
    rw (c.from-then-x-eq-HOLDS_RUN.ensures, c.from.ensures)
    (run_fits c.args.t.now c.requires c.loop-k.k (omega arith) (omega arith) (rw c.from.ensures at c.if-x-eq-HOLDS_RUN.true))

pub offset_bounds-runs-level-then-x-eq-HOLDS_RUN : goal.offset_bounds-runs-level-then-x-eq-HOLDS_RUN
offset_bounds-runs-level-then-x-eq-HOLDS_RUN c = let l = low (goal.at.offset_bounds-runs-level-then-x-eq-HOLDS_RUN c).After-from-level in omega arith

pub bounds-runs-level-then-x-eq-HOLDS_RUN : goal.bounds-runs-level-then-x-eq-HOLDS_RUN
bounds-runs-level-then-x-eq-HOLDS_RUN c = low (goal.at.bounds-runs-level-then-x-eq-HOLDS_RUN c).After-from-level

pub loop-k-preserved : goal.loop-k-preserved
loop-k-preserved c =
    let t = c.args.t.now in
    let s = read t in
    let k = c.loop-k.k in
    let i = c.loop-k.invariant in
    let core : Counted s k c.if-x-eq-HOLDS_RUN.runs =
    elim c.if-x-eq-HOLDS_RUN.branch [
      | then-x-eq-HOLDS_RUN w ↦
          let l : w.from-level.result ≡ level_of s k = rw (w.from-then-x-eq-HOLDS_RUN.ensures, c.from.ensures) at w.from-level.ensures in
          rw w.runs-is
          (run_next s k (omega arith) i.core w.mask.result (rw c.from.ensures at w.if-x-eq-HOLDS_RUN.true) l
          (omega (arith, l, level-low t c.requires k (omega arith)))
          (rw (w.from-then-x-eq-HOLDS_RUN.ensures, c.from.ensures) at w.mask.ensures) w.with.ensures)
      | else-x-eq-HOLDS_RUN w ↦ rw w.runs-is (run-past s k (omega arith) i.core (rw c.from.ensures at w.if-x-eq-HOLDS_RUN.false))
    ] in
    seen-turn s k (omega arith) i (rw (c.adding.ensures, c.from-in-loop-k.ensures, c.from.ensures) at c.with-parents.ensures)
    (rw c.from.ensures at c.waiter-waits.ensures) c.chain_ends-ends.ensures core
