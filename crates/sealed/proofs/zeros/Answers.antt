-- `zeros` meets its contract: the loop gathers the test, `gather-next`.
use mathlib.Core.Path.{refl}
use Prim.Native.Nat.{◌+◌, ◌*◌}
use borrow.Author.Rules.{rules}
use Rattle.words.proofs.Lists.{gather-start, gather-next, gather-end}
use Rattle.sealed.specs.Sealed.{zero_at}
use Rattle.sealed.proofs.zeros.Goals as goal

pub loop-i-init : goal.loop-i-init
loop-i-init c = gather-start _

pub loop-i-preserved : goal.loop-i-preserved
loop-i-preserved c =
    gather-next (λ j. zero_at c.args.bytes.now (c.args.from + c.args.step * j))
    c.loop-i.i _ _ c.loop-i.invariant refl

pub returns : goal.returns
returns c = gather-end _ _ _ _ c.loop-i.invariant (search rules) (search rules)
