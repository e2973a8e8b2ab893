-- Document 01, 'What each call does': the channel.
use Rattle.std.specs.Prelude.{not, ◌&&◌, ℕ, eqb, if◌then◌else◌}
use Rattle.threads.specs.Threads.{hd}
use Rattle.words.specs.Words.{is_empty, inserted_by}
use Rattle.tables.specs.Blocks.{OnChannel, moving_request}
use Rattle.tables.specs.State.{State, channel_queue, node, request_of, with_channel, with_request, with_queue, request_at, queue, level_of, leaving}

-- the level of the task that owns a request of the channel queue
unfoldable pub channel_level : State → ℕ → ℕ
channel_level s n = level_of s (request_at s (request_of n)).owner

-- "enter the channel queue by the caller's level, then arrival"
unfoldable pub queued : State → ℕ → State
queued s r = with_queue s channel_queue (inserted_by (channel_level s) (node r) (queue s channel_queue))

-- a request block in a new place
abbrev pub request_placed : State → ℕ → ℕ → State
request_placed s r p = with_request s r (moving_request (request_at s r) p)

-- "An empty channel takes the first at once; one on the channel isn't displaced." "Then the next request goes on the channel."
unfoldable pub channel_filled : State → State
channel_filled s =
    let n = hd (queue s channel_queue) in
    if eqb s.channel 0 && not (is_empty (queue s channel_queue)) then
    with_channel (request_placed (leaving s channel_queue n) (request_of n) OnChannel) (request_of n)
    else s
