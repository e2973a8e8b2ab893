-- `places::waits` meets its contract: the places that wait stand together.
use mathlib.Core.Path.{sym}
use native.Mathlib.Omega.{arith}
use Rattle.tables.proofs.Readings.{waits-from, waits-not}
use Rattle.tables.proofs.places.waits.Goals as goal

pub returns-in-3 : goal.returns-in-3
returns-in-3 c = sym (waits-from _ (omega arith) (omega arith))

pub returns-in_default : goal.returns-in_default
returns-in_default c = sym (waits-not _ (λ a b. omega arith))

pub returns-in_default-2 : goal.returns-in_default-2
returns-in_default-2 c = sym (waits-not _ (λ a b. omega arith))
