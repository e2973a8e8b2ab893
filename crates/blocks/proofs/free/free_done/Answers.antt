-- `free::free_done` meets its contract: before turn n the requests below n are seen to.
use mathlib.Core.Path.{refl}
use native.Mathlib.Omega.{arith}
use Prim.Native.Nat.{◌-◌, ◌+◌}
use mathlib.Core.Path.{◌≡◌}
use Rattle.tables.specs.State.{read}
use Rattle.meaning.specs.Finish.{freed_if_done, freed_done}
use Rattle.blocks.proofs.Each.{each_none, each_next}
use Rattle.blocks.proofs.free.free_done.Goals as goal

pub loop-n-init : goal.loop-n-init
loop-n-init c = rw each_none (record { sound = c.requires; reads = refl })

pub free_if_done-u-requires : goal.free_if_done-u-requires
free_if_done-u-requires c = (c.loop-n.invariant.sound, omega (arith, c.loop-n-test.true))

pub loop-n-preserved : goal.loop-n-preserved
loop-n-preserved c =
    let b = c in
    let l = c.loop-n in
    let e : l.n + 1 - 1 ≡ l.n - 1 + 1 = omega (arith, l.auto.n) in
    let f : l.n - 1 + 1 ≡ l.n = omega (arith, l.auto.n) in
    rw (e, each_next (freed_if_done b.args.k) (l.n - 1) (read b.args.t), ← l.invariant.reads, f) b.free_if_done-u.ensures

pub returns : goal.returns
unfolding freed_done
returns c = let l = c.loop-n in let e : l.n - 1 ≡ 16 = omega (arith, l.auto.n-end (omega arith), c.loop-n-test.false) in rw e at l.invariant
