-- `writing::image` meets its contract: the loop fills the bytes below the check from the front, `fill-next`, and they are sealed.
use mathlib.Core.Path.{◌≡◌}
use mathlib.Core.List.{map}
use lib.ListN.{length, take}
use Rattle.words.specs.Words.{below}
use Rattle.image.specs.Write.{byte_of}
use Rattle.image.proofs.writing.image.Given as goal

abbrev pub invariant-loop-i : goal.invariant-loop-i
invariant-loop-i l = (length l.out ≡ 512) × (take l.i l.out ≡ map (byte_of l.d) (below l.i))
