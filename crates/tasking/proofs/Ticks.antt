-- SIGNAL and the timer: with a later clock, or with a defined event signalled on, the tables keep their shape.
use mathlib.Core.Path.{◌≡◌}
use mathlib.Core.List.{[]}
use Prim.Native.Nat.{ℕ, ◌≤◌}
use native.Mathlib.Omega.{arith}
use Rattle.words.specs.Words.{adding}
use Rattle.tables.specs.State.{State, with_clock}
use Rattle.lawful.specs.Shape.{Shape}
use Rattle.words.specs.Counting.{bit}
use Rattle.lawful.proofs.Blocks.Still.{shape_on}
use Rattle.lawful.proofs.Each.Signal.{told-on, events-on}

pub on_shape : {s : State} (n : ℕ) → Shape s [] 0 → bit s.directory.defined n ≡ 1 → Shape (told-on s n) [] 0
on_shape {s} n g d = shape_on s.clock (adding s.on n) (adding s.signalled n) (omega arith) g (events-on n g.blank.events d)

pub clock-shape : {s : State} (n : ℕ) → s.clock ≤ n → Shape s [] 0 → Shape (with_clock s n) [] 0
clock-shape {s} n later g = shape_on n s.on s.signalled later g g.blank.events
