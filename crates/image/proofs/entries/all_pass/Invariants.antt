-- `entries::all_pass` meets its contract: the loop gathers the test, `gather-next`.
use mathlib.Core.Path.{◌≡◌}
use Rattle.image.specs.Directory.{entry_passes, entries_pass}
use Rattle.image.proofs.entries.all_pass.Given as goal

abbrev pub invariant-loop-i : goal.invariant-loop-i
invariant-loop-i l = l.all ≡ entries_pass (entry_passes l.used) l.d l.from l.i
