-- `entries::all_pass` meets its contract: the loop gathers the test, `gather-next`.
use borrow.Author.Rules.{rules}
use Rattle.words.proofs.Lists.{gather-start, gather-next, gather-end}
use Rattle.image.specs.Directory.{entries_pass}
use Rattle.image.proofs.entries.all_pass.Goals as goal

pub loop-i-init : goal.loop-i-init
unfolding entries_pass
loop-i-init c = gather-start _

pub loop-i-preserved : goal.loop-i-preserved
unfolding entries_pass
loop-i-preserved c = gather-next _ c.loop-i.i _ _ c.loop-i.invariant c.passes-all.ensures

pub returns : goal.returns
unfolding entries_pass
returns c = gather-end _ _ _ _ c.loop-i.invariant (search rules) (search rules)
