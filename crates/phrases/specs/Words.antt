-- The words of a line, as docs/WORDS.md has them.
use Rattle.std.specs.Prelude.{List, ◌≡◌, ℕ, ◌+◌, ◌-◌, ◌≤◌, length, take, drop}
use Rattle.text.specs.Words.{first_word}
use Rattle.text.specs.declared.word.Word.{Word}

-- w is a place in the line, from `at` on
pub record Within (line : List ℕ) (at : ℕ) (w : Word) : Type 0 where
  pub least : at ≤ w.from
  pub order : w.from ≤ w.to
  pub inside : w.to ≤ length line

-- w is the first word of what stands from `at` on, and so such a place
pub record Next (line : List ℕ) (at : ℕ) (w : Word) : Type 0 where
  pub place : Within line at w
  pub from : w.from ≡ at + (first_word (drop at line)).from
  pub to : w.to ≡ at + (first_word (drop at line)).to

-- the bytes of a word
abbrev pub bytes_of : List ℕ → Word → List ℕ
bytes_of line w = take (w.to - w.from) (drop w.from line)
