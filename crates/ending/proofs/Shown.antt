-- One step after another: what the second shows of the tables that the first left, it shows of the state that the first showed.
use mathlib.Core.Path.{ap, ◌∙◌}
use Rattle.tables.specs.declared.Tables.{Tables}
use Rattle.tables.specs.State.{State, read}
use Rattle.tables.specs.Held.{Shows}

pub then : {a b : Tables} {s : State} (f : State → State) → Shows a s → Shows b (f (read a)) → Shows b (f s)
then f h e = record { sound = e.sound; reads = e.reads ∙ ap f h.reads }
