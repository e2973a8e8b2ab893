-- READ and WRITE, step by step: a free request block is in no queue; taken, it can enter the channel queue; and then the next request can go on.
use mathlib.Core.Path.{◌≡◌, sym, ap, ◌∙◌}
use mathlib.Core.Logic.{⊎_elim}
use Prim.Native.Nat.{ℕ, ◌≤◌}
use native.Mathlib.Omega.{arith}
use lib.Seq.{get_or-set_same, get_or-set_other}
use Rattle.threads.specs.Threads.{counts}
use Rattle.words.proofs.Truth.{tested}
use Rattle.words.specs.Words.{least}
use Rattle.calls.specs.declared.Call.{Call}
use Rattle.tables.specs.declared.Request.{Request}
use Rattle.tables.specs.declared.Tables.{Tables}
use Rattle.tables.specs.Blocks.{Queued, no_request, request, task_blocks, request_blocks}
use Rattle.tables.specs.State.{State, channel_queue, node, request_at, queue}
use Rattle.tables.specs.Held.{Shows, Fit, Held}
use Rattle.tables.proofs.Held.{held}
use Rattle.meaning.specs.Channel.{queued, channel_level}
use Rattle.meaning.specs.Services.{asked}
use Rattle.words.proofs.Counting.{one-other}
use Rattle.threads.proofs.Queues.{counts-none, count-placed, set-queue, set-others}
use Rattle.lawful.proofs.Each.Channel.{free_requests-some, free_requests-low, free_requests-free}
use Rattle.channel.specs.Queue.{Owned, Entering}
use Rattle.channel.specs.Transfer.{Transferring}
use Rattle.channel.proofs.Shaped.{program-low, owner-low}

module _ {s : State} {c : Call} (f : Fit s) (g : Transferring s c) where
  abbrev r : ℕ
  r = least s.free_requests

  abbrev x : Request
  x = request Queued s.running c.number c.code c.amount

  abbrev some : 1 ≤ least s.free_requests
  some = free_requests-some g.shape g.free_requests

  abbrev low : least s.free_requests ≤ request_blocks
  low = free_requests-low g.shape g.free_requests

  in-no-queue : counts (node r) s.queues ≡ 0
  in-no-queue =
      let w = g.shape.requests r some low in
      counts-none (node r) s.queues
      (λ q l.
      ⊎_elim
      (λ z. rw z.1 (w.queued ∙ one-other _ Queued (λ y. omega (arith, y, free_requests-free g.shape g.free_requests))))
      (λ z. w.others q (omega (arith, z.1, l, g.shape.sizes.queues)))
      (tested q channel_queue))

  owner_of : (j : ℕ) → j ≤ request_blocks → (request_at (asked s r c) j).owner ≤ task_blocks
  unfolding asked
  owner_of j l =
      ⊎_elim
      (λ z. rw (z.1, get_or-set_same s.requests r x no_request (omega (arith, g.shape.sizes.requests, low))) g.shape.blank.running)
      (λ z. rw (get_or-set_other s.requests r j x no_request z.1) (owner-low g.shape j l))
      (tested j r)

  asked-owned : Owned (asked s r c)
  unfolding asked
  asked-owned = record { owner = λ j l. omega (arith, owner_of j l); program = λ j l. program-low g.shape _ (owner_of j l) }

  asked-fit : Fit (asked s r c)
  unfolding asked
  asked-fit = record { tasks = f.tasks; requests = f.requests }

  queued-fit : Fit (queued (asked s r c) r)
  unfolding asked queued
  queued-fit =
      let nine = g.shape.sizes.queues in
      let l = queue s channel_queue in
      let key = channel_level (asked s r c) in
      record {
        tasks = λ q y b m. f.tasks q y b (rw (set-others s.queues channel_queue _ nine (omega arith) q (λ z. omega (arith, z, b))) at m);
        requests = λ y m.
            let k = rw (set-queue s.queues channel_queue _ nine (omega arith)) at m in
            ⊎_elim (λ z. omega (arith, z.1, some))
            (λ z. f.requests y (omega (arith, k, count-placed key (node r) y l, one-other (node r) y (λ i. z.1 (sym i)))))
            (tested y (node r));
      }

  -- what entering the channel queue and going on it ask
  pub can-enter : {u : Tables} {i : ℕ} → Shows u (asked s i c) → i ≡ r → Entering u i
  unfolding asked
  can-enter {u} {i} h e =
      let k : Shows u (asked s r c) = rw (← e) h in
      rw e (record {
        held = held k asked-fit;
        owned = rw k.reads asked-owned;
        some = some;
        low = low;
        free = record {
          sound = k.sound;
          queue = omega arith;
          some = omega (arith, some);
          low = omega (arith, low);
          none = ap (λ (x : State). counts (node r) x.queues) k.reads ∙ in-no-queue;
        };
      })

  pub can-start : {v : Tables} {i : ℕ} → Shows v (queued (asked s i c) i) → i ≡ r → Held v
  can-start h e = held (rw e at h) queued-fit
