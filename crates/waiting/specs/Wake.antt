-- What waking a task asks, and waking of either queue.
use Rattle.std.specs.Prelude.{◌≡◌, ◌≢◌, [], ℕ, ◌≤◌, ◌<◌, eqb, if◌then◌else◌}
use Rattle.threads.specs.Threads.{count, Sound}
use Rattle.tables.specs.declared.Tables.{Tables}
use Rattle.tables.specs.State.{State, event_queue, time_queue, queue, read}
use Rattle.meaning.specs.Services.{woken, timely}
use Rattle.lawful.specs.Shape.{Shape}

-- no block is in hand, and k waits in the queue q
pub record Waiting (t : Tables) (q k : ℕ) : Type 0 where
  pub sound : Sound t.threads
  pub shape : Shape (read t) [] 0
  pub low : q < 8
  pub here : 1 ≤ count k (queue (read t) q)

-- q is the event queue or the time queue
pub record Watched (q : ℕ) : Type 0 where
  pub either : q ≢ event_queue → q ≡ time_queue

-- the task k of such a queue is made ready if what it waits for has come
unfoldable pub woken_in : ℕ → ℕ → State → State
woken_in q k s = if eqb q event_queue then woken k s else timely k s
