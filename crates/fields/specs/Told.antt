-- What a task block is told of by the tables, and the rules over it.
use Rattle.std.specs.Prelude.{Bool, ◌&&◌, leb}
use Rattle.tables.specs.declared.Task.{Task}
use Rattle.fields.specs.declared.block.Told.{Told}
use Rattle.fields.specs.Blocks.{fields_right, place_right, waiter_right, pending_right}

-- the rules over a task block, as `task_passes` has them
abbrev pub told_right : Told → Task → Bool
told_right told x =
    fields_right told.modules told.units x && place_right told.stands told.level told.runs told.free x && waiter_right told.defined told.on x
    && pending_right told.own told.pends x && leb x.since told.clock
