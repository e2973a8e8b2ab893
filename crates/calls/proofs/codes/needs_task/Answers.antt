-- `codes::needs_task` meets its contract: the entry says so.
use mathlib.Core.Path.{◌∙◌}
use Rattle.calls.proofs.Entries.{entry-needs}
use Rattle.calls.proofs.codes.needs_task.Goals as goal

pub returns : goal.returns
returns c = c.eq.ensures ∙ rw c.entry.ensures (entry-needs _)
