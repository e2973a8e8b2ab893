-- `codes::entry` meets its contract: in the table by the test over the whole table, which is computed here; past it no code is known.
use mathlib.Core.Path.{refl}
use Rattle.words.specs.Words.{below, all_of, ◌among◌}
use Rattle.calls.specs.declared.codes.TheConstants.{CODES}
use Rattle.calls.specs.Calls.{known, needs_task, code_entry}
use Rattle.calls.proofs.Entries.{table-right, entry_past}
use borrow.Author.Rules.{rules}
use Rattle.calls.proofs.codes.entry.Goals as goal

pub returns-then-at-lt36 : goal.returns-then-at-lt36
unfolding all_of below code_entry needs_task known ◌among◌
returns-then-at-lt36 c = table-right CODES c.args.code (search rules) refl

pub returns-else-at-lt36 : goal.returns-else-at-lt36
returns-else-at-lt36 c = entry_past _ (search rules)
