-- `word::first` meets its contract: each return by one law of `Found`.
use Rattle.std.proofs.Common.{rules}
use Rattle.text.proofs.Found.{found-end, found-alone, found_plain}
use Rattle.text.proofs.word.first.Goals as goal

pub returns-then-from-line : goal.returns-then-from-line
returns-then-from-line c = found-end c.past-from.ensures c.if-from-line.true

pub returns-then-eq : goal.returns-then-eq
returns-then-eq c = found-alone c.past-from.ensures c.if-from-line.false (search rules) (search rules)

pub returns-else-eq : goal.returns-else-eq
returns-else-eq c = found_plain c.past-from.ensures c.if-from-line.false (λ z. search rules) c.past.ensures
