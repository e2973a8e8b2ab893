-- The first waiters, level by level. The invariant: what is gathered of them is the rule over the levels so far.
use mathlib.Core.Path.{◌≡◌, refl, ap, ◌∙◌}
use native.Mathlib.Omega.{arith}
use Prim.Native.Nat.{ℕ, ◌+◌, ◌-◌, ◌<◌}
use Rattle.words.specs.Words.{one_to, all_of}
use Rattle.words.proofs.OneTo.{gather-start, gather-next}
use Rattle.tables.specs.State.{read}
use Rattle.meaning.specs.Rules.{core_waits}
use Rattle.rules.proofs.Firsts.{first_waits, waiter-low, waiter-module, first-turn}
use Rattle.rules.proofs.queues.core_short.Goals as goal
use Rattle.rules.proofs.queues.core_short.Goals.{After-from-in-loop-level-2}

program : (c : After-from-in-loop-level-2) → c.from-in-loop-level-2.result < 32
program c =
    rw (c.from-in-loop-level-2.ensures, c.from-in-loop-level.ensures, c.from.ensures)
    (waiter-module c.args.t.now c.requires c.loop-level.level (omega arith))

pub loop-level-init : goal.loop-level-init
loop-level-init c = gather-start _

pub bounds-t-from-in-loop-level : goal.bounds-t-from-in-loop-level
bounds-t-from-in-loop-level c =
    rw (c.from-in-loop-level.ensures, c.from.ensures) (omega (arith, waiter-low c.args.t.now c.requires c.loop-level.level (omega arith)))

pub offset_bounds-t-from-in-loop-level : goal.offset_bounds-t-from-in-loop-level
offset_bounds-t-from-in-loop-level c = let l = program (goal.at.offset_bounds-t-from-in-loop-level c).After-from-in-loop-level-2 in omega arith

pub bounds-t-from-in-loop-level-2 : goal.bounds-t-from-in-loop-level-2
bounds-t-from-in-loop-level-2 c = program (goal.at.bounds-t-from-in-loop-level-2 c).After-from-in-loop-level-2

pub loop-level-preserved : goal.loop-level-preserved
loop-level-preserved c =
    let t = c.args.t.now in
    let n = c.loop-level.level in
    let again : n - 1 + 1 ≡ n = omega arith in
    let more : n + 1 - 1 ≡ n - 1 + 1 = omega arith in
    let e = rw (c.from-in-loop-level-2.ensures, c.from-in-loop-level.ensures, c.from.ensures, c.from-in-loop-level-3.ensures) at c.core_waits-waiting.ensures in
    rw more (gather-next (first_waits (read t)) (n - 1) c.loop-level.waiting _ c.loop-level.invariant (rw again (first-turn t c.requires (omega arith) (omega arith) refl e)))

pub returns : goal.returns
unfolding core_waits
returns c =
    let n : c.loop-level.level - 1 ≡ 3 = omega arith in
    c.loop-level.invariant ∙ ap (λ (m : ℕ). all_of (first_waits (read c.args.t.now)) (one_to m)) n
