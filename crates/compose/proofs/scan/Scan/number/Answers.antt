-- `Scan::number` meets its contract: the number of a word is at most what it was asked to be.
use Rattle.text.proofs.Digits.{value_low}
use Rattle.phrases.specs.Words.{bytes_of}
use Rattle.compose.proofs.scan.Scan.number.Goals as goal

pub returns-in-Ok-clause-low : goal.returns-in-Ok-clause-low
returns-in-Ok-clause-low c = value_low (bytes_of c.args.self.now.line.now c.next-word.result) c.args.most c.in-Ok.value c.in-Ok.ensures
