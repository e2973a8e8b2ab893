-- The first word, by what stands behind the blanks: nothing, a byte that is a word of its own, or a plain word.
use mathlib.Core.Path.{◌≡◌}
use mathlib.Core.List.{List}
use Prim.Native.Nat.{ℕ, ◌+◌, ◌<◌}
use native.Mathlib.Omega.{arith}
use lib.ListN.{length, get_or}
use borrow.Author.Tests.{eq-eqb, ne_eqb}
use Rattle.text.specs.Words.{class_of, run, Past, First, first_word}
use Rattle.text.specs.declared.word.Word.{Word}

abbrev word : ℕ → ℕ → Word
word from to = record { from = from; to = to }

module _ {l : List ℕ} {from : ℕ} (blanks : Past l 0 1 from) where
  blank : from ≡ run 1 l
  blank = omega (arith, blanks.exact)

  pub found-end : from ≡ length l → First l (word from from)
  unfolding first_word
  found-end end = record { order = omega arith; inside = blanks.inside; exact = rw (← blank, eq-eqb from (length l) end) }

  pub found-alone : (from ≡ length l → ⊥) → from < length l → class_of (get_or l from 0) ≡ 2 → First l (word from (from + 1))
  unfolding first_word
  found-alone more low alone =
      record { order = omega arith; inside = omega arith; exact = rw (← blank, ne_eqb from (length l) more, eq-eqb (class_of (get_or l from 0)) 2 alone) }

  pub found_plain : (from ≡ length l → ⊥) → (class_of (get_or l from 0) ≡ 2 → ⊥) → {to : ℕ} → Past l from 0 to → First l (word from to)
  unfolding first_word
  found_plain more other {to} plain =
      record {
        order = plain.least;
        inside = plain.inside;
        exact = rw (← blank, ne_eqb from (length l) more, ne_eqb (class_of (get_or l from 0)) 2 other, ← plain.exact);
      }
