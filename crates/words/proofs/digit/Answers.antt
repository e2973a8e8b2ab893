-- `words::digit` meets its contract: a shift by eight bits for each byte below is a division by 256 for each.
use mathlib.Core.Path.{ap}
use Prim.Native.Nat.{ℕ, ◌/◌, ◌%◌}
use Rattle.words.proofs.Numbers.{byte-bits}
use Rattle.words.proofs.digit.Goals as goal

pub returns : goal.returns
returns c = ap (λ (p : ℕ). c.args.value / p % 256) (byte-bits c.args.place)
