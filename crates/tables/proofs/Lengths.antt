-- The lengths of the tables' arrays of blocks and of the directory's entries, from the type of the tables: what it says of each field in turn, so that a field more is counted here and
-- nowhere else.
use mathlib.Core.Path.{◌≡◌}
use mathlib.Core.List.{List}
use Prim.Native.Nat.{suc}
use lib.ListN.{length}
use mir.Val.{Val}
use denote.Laws.{Is}
use denote.Struct.Laws as LL
use Rattle.tables.specs.declared.Tables.{Tables}
use Rattle.tables.specs.Blocks.{task_blocks, request_blocks}
use Rattle.tables.specs.contracts.Tables as T
use Rattle.tables.proofs.Tables.TheLaws as T'

module _ (t : Tables) (vs : List Val) (is : Is T.the_row t vs) where
  pub entries-long : length t.directory.entries ≡ 32
  entries-long = (LL.owed T.the_type T'.the_laws t vs is).0.1.1.1.0.1.0.1

  pub tasks-long : length t.tasks ≡ suc task_blocks
  tasks-long = (LL.owed T.the_type T'.the_laws t vs is).1.1.1.1.0.1.0.1

  pub requests-long : length t.requests ≡ suc request_blocks
  requests-long = (LL.owed T.the_type T'.the_laws t vs is).1.1.1.1.1.1.1.1.0.1.0.1
