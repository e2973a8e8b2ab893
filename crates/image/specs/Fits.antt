-- What every slice of bytes is, and every entry and directory of the code: each number fits its type. The round trips are stated of these.
use Rattle.std.specs.Prelude.{◌≡◌, List, ℕ, ◌^◌, ◌<◌, length, get_or}
use Rattle.image.specs.declared.Entry.{Entry}
use Rattle.image.specs.declared.Directory.{Directory}
use Rattle.image.specs.Directory.{entry_at}

abbrev pub Bytes : List ℕ → Type 0
Bytes b = (k : ℕ) → get_or b k 0 < 2 ^ 8

pub record EntryFits (e : Entry) : Type 0 where
  pub level : e.level < 2 ^ 8
  pub units : e.units < 2 ^ 8
  pub flags : e.flags < 2 ^ 16
  pub point : e.point < 2 ^ 32

pub record Fits (d : Directory) : Type 0 where
  pub modules : d.modules < 2 ^ 32
  pub every : d.every < 2 ^ 32
  pub defined : d.defined < 2 ^ 64
  pub count : length d.entries ≡ 32
  pub entries : (m : ℕ) → EntryFits (entry_at d m)
