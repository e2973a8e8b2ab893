-- A scan of a line that goes on, and what is said of its words.
use Rattle.std.specs.Prelude.{List, ◌≡◌, ℕ, ◌+◌, ◌≤◌, drop, Result, IfErr}
use Rattle.text.specs.Words.{first_word}
use Rattle.text.specs.declared.word.Word.{Word}
use Rattle.faults.specs.declared.Wrong.{Wrong}
use Rattle.compose.specs.declared.scan.Scan.{Scan}

-- it is in the same line, and no further back
pub record Further (old new : Scan) : Type 0 where
  pub line : new.line.now ≡ old.line.now
  pub on : old.at ≤ new.at

-- the next word, as a place in the line
abbrev pub next_word : Scan → Word
next_word s = let w = first_word (drop s.at s.line.now) in record { from = s.at + w.from; to = s.at + w.to }

-- no word is left: the next one is empty
abbrev pub Ended : Scan → Type 0
Ended s = (first_word (drop s.at s.line.now)).from ≡ (first_word (drop s.at s.line.now)).to

-- where something is wrong, it is a word of this line
abbrev pub Quotes : {A : Type 0} → List ℕ → Result A Wrong → Type 0
Quotes line r = IfErr r (λ w. w.line.now ≡ line)
