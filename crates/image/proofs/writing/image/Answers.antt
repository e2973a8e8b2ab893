-- `writing::image` meets its contract: the loop fills the bytes below the check from the front, `fill-next`, and they are sealed.
use mathlib.Core.Path.{refl}
use mathlib.Core.List.{[], ◌∷◌}
use lib.ListN.{length-set}
use native.Mathlib.Omega.{arith}
use borrow.Author.Rules.{rules}
use Rattle.words.proofs.Lists.{fill_start, fill-next}
use Rattle.image.specs.Write.{byte_of}
use Rattle.image.proofs.Writes.{image-made}
use Rattle.image.proofs.writing.image.Goals as goal

pub loop-i-init : goal.loop-i-init
loop-i-init c = (refl, fill_start _ (0 ∷ []))

pub byte-requires : goal.byte-requires
byte-requires c = (search rules, c.requires)

pub loop-i-preserved : goal.loop-i-preserved
loop-i-preserved c = (
  simp length-set c.loop-i.invariant.0,
  fill-next (byte_of c.args.d) c.loop-i.out c.loop-i.i c.byte.result (omega (arith, c.loop-i.invariant.0)) c.loop-i.invariant.1 c.byte.ensures,
)

pub returns : goal.returns
returns c =
    let l = c in
    image-made l.args.d l.loop-i.out l.loop-i.i (search rules) l.loop-i.invariant.1 c.seal.ensures
