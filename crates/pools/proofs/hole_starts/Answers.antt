-- `pools::hole_starts` meets its contract. So far, no hole of n units or more is shorter than the runs whose starts the set has; and with each turn
-- the set is a smaller number.
use mathlib.Core.Bool.{not}
use mathlib.Core.Path.{◌≡◌}
use mathlib.Core.Logic.{⊎_elim}
use Prim.Native.Nat.{◌<◌}
use native.Mathlib.Nat.{eq-zero-or-pos}
use lib.Dec.{eqb}
use borrow.Author.Tests.{eq-eqb, eqb-true, not-false}
use Rattle.words.proofs.Truth.{and_left}
use Rattle.pools.proofs.Lengths.{lengthening-start, lengthening-next, lengthening-found, lengthening-none}
use Rattle.pools.proofs.hole_starts.Goals as goal

pub loop-holes-init : goal.loop-holes-init
loop-holes-init c =
    let s = c in
    lengthening-start s.args.granted s.args.n c.free_starts-runs.result c.alone-holes.result s.requires.0 c.free_starts-runs.ensures c.alone-holes.ensures

pub loop-holes-preserved : goal.loop-holes-preserved
loop-holes-preserved c =
    let s = c in
    let e = eqb-true _ _ (and_left (eqb s.loop-holes.holes 0) (not (eqb s.loop-holes.runs 0)) c.loop-holes-test.true) in
    lengthening-next s.requires.0 s.loop-holes.invariant e c.alone-holes-in-loop-holes.ensures

pub returns : goal.returns
returns c =
    let s = c in
    let some = s.requires.0 in
    ⊎_elim
    (λ (z : s.loop-holes.holes ≡ 0). lengthening-none some s.loop-holes.invariant (eqb-true _ _ (not-false _ (rw (eq-eqb _ _ z) at c.loop-holes-test.false))))
    (λ (z : 0 < s.loop-holes.holes). lengthening-found some s.loop-holes.invariant z)
    (eq-zero-or-pos s.loop-holes.holes)
