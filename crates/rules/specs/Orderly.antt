-- What the first pass has shown of tables, and the rules over queues, links and core take for granted.
use Rattle.std.specs.Prelude.{Bool, true, ◌&&◌, ◌≡◌, List, [], ◌∷◌}
use Rattle.words.specs.Words.{all_true}
use Rattle.threads.specs.Threads.{Sound}
use Rattle.tables.specs.declared.Tables.{Tables}
use Rattle.tables.specs.State.{State, read}
use Rattle.meaning.specs.Rules.{directory_passes, in_range, tasks_in_place, requests_in_place, fields_clear, core_held, chains_end, linked, idle_only_if_none_ready, core_waits, queues_in_order, channel_busy}

-- the pointers are sound, and the directory, the fields and the places of the blocks keep their rules
pub record Orderly (t : Tables) : Type 0 where
  pub sound : Sound t.threads
  pub directory : directory_passes t.directory ≡ true
  pub range : in_range (read t) ≡ true
  pub tasks : tasks_in_place (read t) ≡ true
  pub requests : requests_in_place (read t) ≡ true
  pub clear : fields_clear (read t) ≡ true

-- the rules that go over several blocks: over links and core, and over queues
unfoldable pub link_tests : State → List Bool
link_tests s =
    core_held s
    ∷ chains_end s
    ∷ linked s
    ∷ []

unfoldable pub queue_tests : State → List Bool
queue_tests s =
    idle_only_if_none_ready s
    ∷ core_waits s
    ∷ queues_in_order s
    ∷ channel_busy s
    ∷ []

unfoldable pub second_pass : State → Bool
second_pass s = all_true (link_tests s) && all_true (queue_tests s)
