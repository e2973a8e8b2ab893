-- `words::sets::ones` meets its contract: of 64 bits, 64 are enough to look at.
use mathlib.Core.Path.{sym}
use borrow.Author.Rules.{rules}
use Rattle.words.proofs.Ones.{ones-among}
use Rattle.words.proofs.sets.ones.Goals as goal

pub returns : goal.returns
returns c = sym (ones-among 64 c.args.set (search rules))
