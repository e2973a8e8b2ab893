-- `decimals::value` meets its contract: the value so far fits, and the digits that are left make the whole of it, the laws of `Digits`.
use Rattle.text.proofs.Digits.{Counting}
use Rattle.text.proofs.decimals.value.Given as goal

abbrev pub invariant-loop-byte : goal.invariant-loop-byte
invariant-loop-byte l = Counting l.bytes l.most l.so_far l.byte-index
