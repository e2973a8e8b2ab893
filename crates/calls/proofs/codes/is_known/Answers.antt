-- `codes::is_known` meets its contract: the entry says so.
use mathlib.Core.Path.{◌∙◌}
use Rattle.calls.proofs.Entries.{entry_known}
use Rattle.calls.proofs.codes.is_known.Goals as goal

pub returns : goal.returns
returns c = c.ne.ensures ∙ rw c.entry.ensures (entry_known _)
