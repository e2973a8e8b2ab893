-- `places::since` meets its contract: by whether the place waits.
use mathlib.Core.Path.{sym, ◌∙◌}
use Rattle.tables.proofs.Readings.{since-waits, since-not}
use Rattle.tables.proofs.places.since.Goals as goal

pub returns-then-waits : goal.returns-then-waits
returns-then-waits c = sym (since-waits _ _ (sym c.waits.ensures ∙ c.if-waits.true))

pub returns : goal.returns
returns c = sym (since-not _ _ (sym c.waits.ensures ∙ c.if-waits.false))
