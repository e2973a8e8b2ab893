-- Words: parted by blanks, with a comma and a dash each a word of its own.
use Rattle.std.specs.Prelude.{◌||◌, List, [], ◌∷◌, ◌≡◌, ℕ, suc, ◌+◌, ◌≤◌, eqb, length, get_or, drop, if◌then◌else◌}
use Rattle.text.specs.declared.word.Word.{Word}
use Rattle.text.specs.declared.word.Class.{Class}
use Rattle.text.specs.declared.word.Class.TheVariants.{Plain, Blank, Alone}

-- 1 for a blank (space, tab, carriage return), 2 for a comma or a dash, 0 for any other byte
abbrev pub class_of : ℕ → ℕ
class_of b = if eqb b 32 || eqb b 9 || eqb b 13 then 1 else if eqb b 44 || eqb b 45 then 2 else 0

-- the same number of each class in the source
abbrev pub class_number : Class → ℕ
class_number Plain = 0
class_number Blank = 1
class_number Alone = 2

-- how many bytes of a class stand at the front
unfoldable pub run : ℕ → List ℕ → ℕ
run k [] = 0
run k (b ∷ l) = let further = suc (run k l) in if eqb (class_of b) k then further else 0

-- r is past the bytes of class k that stand from `at` on
pub record Past (line : List ℕ) (at k r : ℕ) : Type 0 where
  pub least : at ≤ r
  pub inside : r ≤ length line
  pub exact : r ≡ at + run k (drop at line)

-- the first word: past the blanks, one byte that is a word of its own, or all up to the next byte that is not plain; empty where nothing is left
unfoldable pub first_word : List ℕ → Word
first_word l =
    let from = run 1 l in
    if eqb from (length l) then record { from = from; to = from }
    else if eqb (class_of (get_or l from 0)) 2 then record { from = from; to = from + 1 }
    else record { from = from; to = from + run 0 (drop from l) }

-- w is the first word, and so a place in the bytes
pub record First (l : List ℕ) (w : Word) : Type 0 where
  pub order : w.from ≤ w.to
  pub inside : w.to ≤ length l
  pub exact : w ≡ first_word l
