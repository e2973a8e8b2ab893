-- Document 02, E8: "Long reports wait for hours because small tasks chop up the pool." Two short days, played by either rule: in the one a long task waits by the lowest start
-- and does not by the smallest hole; in the other, for no rule is best in every case, it is the other way round. All modules are of level 2; `runs/holes-long-task.session` and
-- `runs/holes-other-way-round.session` have the same days for the programs.
use Rattle.std.specs.Prelude.{List, [], ◌∷◌, ℕ}
use Rattle.tables.specs.declared.Tables.{Tables}
use Rattle.tables.specs.Blocks.{Running, InCore}
use Rattle.tables.specs.State.{loaded, tabled, read, task_at}
use Rattle.meaning.specs.Step.{step_of}
use Rattle.marked.specs.Played.{directory, level_units, start, schedule, wait_for, end, timer}

-- after the calls: who runs, and the place of the task k
unfoldable pub left : Tables → List (List ℕ) → ℕ → List ℕ
left t [] k = t.running ∷ (task_at (read t) k).place ∷ []
left t (b ∷ l) k = left (step_of t b).tables l k

-- the task waits for core, and nobody runs; or it runs
abbrev pub waits_for_core : List ℕ
waits_for_core = 0 ∷ InCore ∷ []

abbrev pub runs_now : ℕ → List ℕ
runs_now k = k ∷ Running ∷ []

-- ---- Modules 0 to 5 of 8, 4, 4, 48, 4 and 8 units. Tasks 1 to 4 have 0 to 7, 8 to 11, 12 to 15 and 16 to 63; 1 ends, 2 waits and keeps its core, 3 ends: holes of 8 at 0
-- and of 4 at 12. Then come a short task of 4 units, block 1, and a long one of 8, block 3; the others wait and keep their core.
abbrev pub long_task : ℕ
long_task = 3

unfoldable pub long_day : ℕ → List ℕ
long_day holes =
    left
    (tabled (loaded holes (directory 1 1 (level_units 2 8 ∷ level_units 2 4 ∷ level_units 2 4 ∷ level_units 2 48 ∷ level_units 2 4 ∷ level_units 2 8 ∷ []))))
    (timer ∷ start 0 ∷ start 1 ∷ start 2 ∷ start 3 ∷ end ∷ wait_for 1 1 ∷ end ∷ schedule 4 ∷ schedule 5 ∷ wait_for 1 1 ∷ wait_for 1 1 ∷ [])
    long_task

-- ---- Modules 0 to 3 of 10, 46, 5 and 8 units. Task 1 has 0 to 9 and 2 has 10 to 55; 1 ends: holes of 10 at 0 and of 8 at 56. Then come tasks of 5, 8 and 5 units, the last of
-- them block 4; the others wait and keep their core.
abbrev pub last_task : ℕ
last_task = 4

unfoldable pub other_day : ℕ → List ℕ
other_day holes =
    left
    (tabled (loaded holes (directory 1 1 (level_units 2 10 ∷ level_units 2 46 ∷ level_units 2 5 ∷ level_units 2 8 ∷ []))))
    (timer ∷ start 0 ∷ start 1 ∷ end ∷ schedule 2 ∷ schedule 3 ∷ schedule 2 ∷ wait_for 1 1 ∷ wait_for 1 1 ∷ wait_for 1 1 ∷ [])
    last_task
