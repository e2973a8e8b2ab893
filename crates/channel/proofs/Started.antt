-- Laws of the channel and the first of its queue, case by case: the channel is in use, its queue is empty, or its first goes on it.
use mathlib.Core.Bool.{true, false}
use mathlib.Core.Path.{◌≡◌}
use mathlib.Core.Logic.{◌≢◌}
use Prim.Native.Nat.{ℕ, ◌≤◌, ◌<◌}
use native.Mathlib.Omega.{arith}
use borrow.Author.Tests.{eq-eqb, ne_eqb}
use Rattle.threads.specs.Threads.{hd, count, BLOCKS}
use Rattle.threads.proofs.Read.{node-fits}
use Rattle.words.specs.Words.{is_empty}
use Rattle.tables.specs.declared.Tables.{Tables}
use Rattle.tables.specs.Blocks.{OnChannel}
use Rattle.tables.specs.State.{State, read, channel_queue, request_of, with_channel, queue, leaving}
use Rattle.tables.specs.Held.{Held}
use Rattle.tables.proofs.Held.{first_member}
use Rattle.meaning.specs.Channel.{request_placed, channel_filled}

module _ (s : State) where
  pub in_use : s.channel ≢ 0 → channel_filled s ≡ s
  unfolding channel_filled
  in_use n = rw (ne_eqb _ _ n)

  pub none-queued : s.channel ≡ 0 → is_empty (queue s channel_queue) ≡ true → channel_filled s ≡ s
  unfolding channel_filled
  none-queued z e = rw (eq-eqb _ _ z, e)

  pub goes_on : {u : State} {n : ℕ} → s.channel ≡ 0 → is_empty (queue s channel_queue) ≡ false → n ≡ hd (queue s channel_queue) → u ≡ leaving s channel_queue n
      → with_channel (request_placed u (request_of n) OnChannel) (request_of n) ≡ channel_filled s
  unfolding channel_filled
  goes_on z f e l = rw (eq-eqb _ _ z, f, l, e)

-- whoever is in the channel queue is a request block
pub queued-request : {t : Tables} {y : ℕ} → Held t → 1 ≤ count y (queue (read t) channel_queue) → (24 < y) × (y ≤ BLOCKS)
queued-request h c = (h.fit.requests _ c, omega (arith, node-fits (record { sound = h.sound; queue = omega arith; here = c })))

pub first-request : {t : Tables} {n : ℕ} → Held t → n ≡ hd (queue (read t) channel_queue) → n ≢ 0 → (24 < n) × (n ≤ BLOCKS)
first-request h e n = queued-request h (first_member h.sound (omega arith) e n).here
