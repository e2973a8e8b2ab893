-- `reading::directory` meets its contract: the loop fills the entries from the front, `fill-next`.
use mathlib.Core.Path.{◌≡◌}
use mathlib.Core.List.{map}
use lib.ListN.{length, take}
use Rattle.words.specs.Words.{below}
use Rattle.image.specs.Load.{entry_from}
use Rattle.image.proofs.reading.directory.Given as goal

abbrev pub invariant-loop-m : goal.invariant-loop-m
invariant-loop-m l = (length l.entries ≡ 32) × (take l.m l.entries ≡ map (entry_from l.bytes) (below l.m))
