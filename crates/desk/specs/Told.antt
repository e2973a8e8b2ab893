-- Document 01, 'A session in full': "It writes a line for the load (refusal, M or 0, 0), then one per call". What more a line tells is what the desk is asked for.
use Rattle.std.specs.Prelude.{List, ◌++◌, ◌≡◌, ℕ, ◌<◌, length}
use Rattle.calls.specs.declared.Answer.{Answer}
use Rattle.lines.specs.Lines.{room, answer_of}
use Rattle.readings.specs.Readings.{changed_of, begun_of}
use Rattle.tables.specs.declared.Tables.{Tables}
use Rattle.tables.specs.Blocks.{task_blocks}
use Rattle.desk.specs.declared.telling.Wish.{Wish}
use Rattle.desk.specs.declared.telling.Wish.TheVariants.{Numbers, Words, Readings}

-- xs ends with ys
pub record Ends (xs ys : List ℕ) : Type 0 where
  pub front : List ℕ
  pub whole : xs ≡ front ++ ys

-- what a call's line is, by the tables before the call and after it: its three numbers and nothing else; words, which end with who begins to wait; or the three
-- numbers with the readings behind them that the call has changed
abbrev pub Tells : Wish → Tables → Tables → Answer → List ℕ → Type 0
Tells Numbers before after a xs = xs ≡ answer_of a
Tells Words before after a xs = Ends xs (begun_of before after)
Tells Readings before after a xs = xs ≡ answer_of a ++ changed_of before after task_blocks

-- what the load's line is: its three numbers and nothing else, or words
abbrev pub TellsLoad : Wish → Answer → List ℕ → Type 0
TellsLoad Numbers a xs = xs ≡ answer_of a
TellsLoad Words a xs = Unit
TellsLoad Readings a xs = xs ≡ answer_of a

-- a call's line, and the load's; there is room for the line's end
pub record Told (before after : Tables) (a : Answer) (w : Wish) (r : List ℕ) : Type 0 where
  pub text : Tells w before after a r
  pub room : length r < room

pub record Opens (a : Answer) (w : Wish) (r : List ℕ) : Type 0 where
  pub text : TellsLoad w a r
  pub room : length r < room
