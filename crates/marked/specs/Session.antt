-- Document 01, 'A session in full': its image, byte by byte, its calls, and its output.
use Rattle.std.specs.Prelude.{List, [], ◌∷◌, ◌++◌, ℕ, replicate}
use Rattle.marked.specs.Played.{start, schedule, schedule_on, test_event, signal_on, dispatch_check, end, read_from, check, io_done}

-- "Image: N 2, events 0 and 1, modules (level, units): 0 (2, 40), 1 (1, 0), 2 (2, 30)."
abbrev zeros : ℕ → List ℕ
zeros n = replicate n 0

unfoldable pub session_image : List ℕ
session_image =
    1 ∷ 3 ∷ 2 ∷ zeros 5
    ++ 3 ∷ zeros 7
    ++ 2 ∷ 40 ∷ zeros 6
    ++ 1 ∷ 0 ∷ zeros 6
    ++ 2 ∷ 30 ∷ zeros 6
    ++ zeros 470
    ++ 114 ∷ 7 ∷ []

-- "Calls: start 0; schedule 2; schedule 1 on event 0, count 1; test 5; test 0; signal 0 on; dispatch check; end; end; read device 7, 4 bytes;
-- check 1; I/O done."
unfoldable pub session_calls : List (List ℕ)
session_calls =
    start 0
    ∷ schedule 2
    ∷ schedule_on 1 1 1
    ∷ test_event 5
    ∷ test_event 0
    ∷ signal_on 0
    ∷ dispatch_check
    ∷ end
    ∷ end
    ∷ read_from 7 4
    ∷ check 1
    ∷ io_done
    ∷ []

-- "Output, whole"; but document 02, E1: "The sixth line of document 01's session becomes `0 3 1`."
unfoldable pub session_output : List (List ℕ)
session_output =
    (0 ∷ 3 ∷ 0 ∷ [])
    ∷ (0 ∷ 1 ∷ 1 ∷ [])
    ∷ (0 ∷ 2 ∷ 1 ∷ [])
    ∷ (0 ∷ 3 ∷ 1 ∷ [])
    ∷ (19 ∷ 0 ∷ 1 ∷ [])
    ∷ (0 ∷ 3 ∷ 1 ∷ [])
    ∷ (0 ∷ 1 ∷ 1 ∷ [])
    ∷ (0 ∷ 1 ∷ 3 ∷ [])
    ∷ (0 ∷ 1 ∷ 1 ∷ [])
    ∷ (0 ∷ 1 ∷ 2 ∷ [])
    ∷ (0 ∷ 1 ∷ 2 ∷ [])
    ∷ (0 ∷ 1 ∷ 0 ∷ [])
    ∷ (0 ∷ 1 ∷ 2 ∷ [])
    ∷ []
