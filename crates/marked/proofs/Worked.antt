-- The words that the meaning is written in give the numbers of specs/Worked.antt. By computation, as in proofs/Agree.antt.
use mathlib.Core.Path.{refl}
use lib.Count.{ones_in, count_trailing_zeros}
use Rattle.words.specs.Words.{◌among◌, below, all_of, lowest, inserted_by}
use Rattle.words.specs.Bytes.{number}
use Rattle.threads.specs.Threads.{threaded, row, tab, list_of, after, before, walk, queues_of, without, insert_before}
use Rattle.pools.specs.Pools.{free_at, lowest_start, hole_at, hole_of, shortest, smallest_hole, start_of}
use Rattle.marked.specs.Marked.{Agrees}
use Rattle.marked.specs.Worked.{byte_lines, set_lines, pool_lines, grant_lines, hole_lines, queue_lines, worked}

pub worked-agrees : Agrees worked
unfolding ones_in count_trailing_zeros ◌among◌ below all_of lowest inserted_by number threaded row tab list_of after before walk queues_of without insert_before free_at lowest_start hole_at hole_of shortest smallest_hole start_of byte_lines set_lines pool_lines grant_lines hole_lines queue_lines worked
worked-agrees = record { same = refl }
