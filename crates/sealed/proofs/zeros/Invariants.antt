-- `zeros` meets its contract: the loop gathers the test, `gather-next`.
use mathlib.Core.Path.{◌≡◌}
use Prim.Native.Nat.{◌+◌, ◌*◌}
use Rattle.words.specs.Words.{below, all_of}
use Rattle.sealed.specs.Sealed.{zero_at}
use Rattle.sealed.proofs.zeros.Given as goal

abbrev pub invariant-loop-i : goal.invariant-loop-i
invariant-loop-i l = l.all ≡ all_of (λ j. zero_at l.bytes (l.from + l.step * j)) (below l.i)
