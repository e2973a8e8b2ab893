-- No second answer: any two results that meet a function's promise are the same. `Post` is the promise itself, as the contract in the source states it: of the
-- arguments, the result, and the parameters at exit.
use mathlib.Core.Bool.{Bool, true, false}
use mathlib.Core.Path.{◌≡◌, refl, sym, ◌∙◌}
use Rattle.words.proofs.Once.{OneAnswer}
use Rattle.text.specs.declared.word.Word.{Word}
use Rattle.phrases.proofs.next.Reads as next
use Rattle.phrases.proofs.named.Reads as named
use Rattle.phrases.proofs.number.Reads as number
use Rattle.phrases.proofs.with_range.Reads as with-range

-- a place is where it begins and where it has ended
same_place : (r s : Word) → r.from ≡ s.from → r.to ≡ s.to → r ≡ s
same_place r s from to = rw (from, to) refl

-- two tests that are true for the same thing are the same
same_test : {A : Type 0} (r s : Bool) → (r ≡ true → A) → (A → s ≡ true) → (s ≡ true → A) → (A → r ≡ true) → r ≡ s
same_test true s p q p' q' = sym (q (p refl))
same_test false true p q p' q' = q' (p' refl)
same_test false false p q p' q' = refl

pub next-only : OneAnswer next.Post
next-only κs given r s end end' p q = same_place r s (p.from ∙ sym q.from) (p.to ∙ sym q.to)

pub named-only : OneAnswer named.Post
named-only κs given r s end end' p q = same_test r s p.0 q.1 q.0 p.1

pub number-only : OneAnswer number.Post
number-only κs given r s end end' p q = p ∙ sym q

pub with-range-only : OneAnswer with-range.Post
with-range-only κs given r s end end' p q = p ∙ sym q
