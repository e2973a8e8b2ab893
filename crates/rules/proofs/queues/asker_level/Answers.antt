-- The level of who asked: the blocks of orderly tables name blocks and modules.
use native.Mathlib.Omega.{arith}
use Prim.Native.Nat.{◌-◌, ◌<◌}
use Rattle.meaning.specs.Channel.{channel_level}
use Rattle.tables.specs.State.{read, request_at}
use Rattle.rules.proofs.Places.{module-low, owner-low}
use Rattle.rules.proofs.queues.asker_level.Goals as goal
use Rattle.rules.proofs.queues.asker_level.Goals.{After-from-2, After-from-3}

block : (c : After-from-2) → c.from-2.result < 25
block c =
    rw (c.from-2.ensures, c.from.ensures)
    (omega (arith, owner-low c.args.t.now c.requires.orderly (c.args.z - 24) (omega (arith, c.requires.request)) (omega (arith, c.requires.block))))

program : (c : After-from-3) → c.from-3.result < 32
program c =
    rw (c.from-3.ensures, c.from-2.ensures, c.from.ensures)
    (module-low c.args.t.now c.requires.orderly (request_at (read c.args.t.now) (c.args.z - 24)).owner
    (owner-low c.args.t.now c.requires.orderly (c.args.z - 24) (omega (arith, c.requires.request)) (omega (arith, c.requires.block))))

pub offset_bounds-t-from-2 : goal.offset_bounds-t-from-2
offset_bounds-t-from-2 c = let l = block (goal.at.offset_bounds-t-from-2 c).After-from-2 in omega arith

pub bounds-t-from-2 : goal.bounds-t-from-2
bounds-t-from-2 c = block (goal.at.bounds-t-from-2 c).After-from-2

pub offset_bounds-t-from-3 : goal.offset_bounds-t-from-3
offset_bounds-t-from-3 c = let l = program (goal.at.offset_bounds-t-from-3 c).After-from-3 in omega arith

pub bounds-t-from-3 : goal.bounds-t-from-3
bounds-t-from-3 c = program (goal.at.bounds-t-from-3 c).After-from-3

pub returns : goal.returns
unfolding channel_level
returns c = rw (c.from-4.ensures, c.from-3.ensures, c.from-2.ensures, c.from.ensures)
