-- `words::number` meets its contract. The bytes are taken from the high end down: so far, the value is what those behind the ones that are left spell.
use Rattle.words.proofs.Numbers.{Spelt}
use Rattle.words.proofs.number.Given as goal

abbrev pub invariant-loop-byte : goal.invariant-loop-byte
invariant-loop-byte l = Spelt l.bytes l.at l.width l.byte-iterator.iter.rest.now l.value
