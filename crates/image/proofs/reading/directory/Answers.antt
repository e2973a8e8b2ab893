-- `reading::directory` meets its contract: the loop fills the entries from the front, `fill-next`.
use mathlib.Core.Path.{refl}
use mathlib.Core.List.{[], ◌∷◌}
use lib.ListN.{length-set}
use native.Mathlib.Omega.{arith}
use borrow.Author.Rules.{rules}
use Rattle.words.proofs.Lists.{fill_start, fill-next, fill_end}
use Rattle.image.specs.Load.{entry_from, directory_of}
use Rattle.image.proofs.reading.directory.Goals as goal

pub loop-m-init : goal.loop-m-init
loop-m-init c = (refl, fill_start _ (c.default-entries.result ∷ []))

pub loop-m-preserved : goal.loop-m-preserved
loop-m-preserved c = (
  simp length-set c.loop-m.invariant.0,
  fill-next (entry_from c.args.bytes.now) c.loop-m.entries c.loop-m.m c.entry.result
      (omega (arith, c.loop-m.invariant.0)) c.loop-m.invariant.1 c.entry.ensures,
)

pub overflow_cast-result : goal.overflow_cast-result
overflow_cast-result c = omega (arith, c.shared_slice_known-2-1.given 1)

pub overflow_cast-result-2 : goal.overflow_cast-result-2
overflow_cast-result-2 c = omega (arith, c.shared_slice_known-3-1.given 2)

pub returns : goal.returns
unfolding directory_of
returns c =
    let l = c in
    rw (c.number.ensures, fill_end (entry_from l.args.bytes.now) l.loop-m.entries 32 l.loop-m.m l.loop-m.invariant.0 (search rules) (search rules) l.loop-m.invariant.1)
