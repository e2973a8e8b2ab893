-- I/O done, case by case: its owner waits on it in CHECK; its owner is ending and it was the last; otherwise. What each step of the code then asks.
use mathlib.Core.Bool.{Bool, true, false, not, ◌&&◌}
use mathlib.Core.Path.{◌≡◌, ◌∙◌}
use mathlib.Core.Logic.{◌≢◌}
use mathlib.Core.List.{[], ◌∷◌}
use native.Mathlib.Omega.{arith}
use lib.Dec.{eqb}
use borrow.Author.Tests.{eqb-true, not-true}
use Rattle.calls.specs.declared.Call.{Call}
use Rattle.tables.specs.declared.Tables.{Tables}
use Rattle.tables.specs.Blocks.{InCheck, Ending}
use Rattle.tables.specs.State.{State, task_at, read}
use Rattle.tables.specs.Held.{Shows, Fit, Held, Loose}
use Rattle.tables.proofs.Held.{held}
use Rattle.meaning.specs.Ready.{made_ready}
use Rattle.meaning.specs.Channel.{channel_filled}
use Rattle.meaning.specs.Finish.{freed_request, pending, finished}
use Rattle.meaning.specs.Services.{io_done}
use Rattle.lawful.specs.Shape.{InHand}
use Rattle.lawful.specs.Resting.{Lawful}
use Rattle.words.proofs.Truth.{both}
use Rattle.lawful.proofs.Ready.Made.{made-ready}
use Rattle.lawful.proofs.Each.IoDone.{owner, off, freed-hand, freed-rest, freed-finishes, done_first}
use Rattle.scheduler.proofs.Shaped.{shape-held, hand-loose}
use Rattle.ending.specs.Ending.{Finishing}
use Rattle.ending.proofs.Shown.{then}

-- ---- The meaning, in each case.
module _ (s : State) where
  -- its owner waits on it in CHECK; its owner is ending and this was its last pending one
  abbrev waits : Bool
  waits = eqb (task_at s (owner s)).place InCheck && eqb (task_at s (owner s)).request s.channel

  abbrev was-last : Bool
  was-last = eqb (task_at s (owner s)).place Ending && not (pending (off s) (owner s))

  pub for-checker : (c : Call) → waits ≡ true → (io_done s c).state ≡ channel_filled (made_ready (freed_request (off s) s.channel) (owner s))
  for-checker c w = done_first s c ∙ rw w

  pub for-ending : (c : Call) → waits ≡ false → was-last ≡ true → (io_done s c).state ≡ channel_filled (finished (freed_request (off s) s.channel) (owner s))
  for-ending c w l = done_first s c ∙ rw (w, l)

  pub otherwise : (c : Call) → waits ≡ false → was-last ≡ false → (io_done s c).state ≡ channel_filled (off s)
  otherwise c w l = done_first s c ∙ rw (w, l)

-- ---- What the steps ask.
pub after-leaving : {s : State} {u : Tables} → Fit s → Shows u (off s) → Held u
after-leaving f h = held h (record { tasks = f.tasks; requests = f.requests })

module _ {s : State} (g : Lawful s) (n : s.channel ≢ 0) where
  module _ (w : waits s ≡ true) where
    checker : InHand (freed_request (off s) s.channel) (owner s) [] 0
    checker = freed-hand g n (omega (arith, eqb-true (task_at s (owner s)).place InCheck (both _ _ w).0))

    pub can-be-ready : {t u : Tables} → Shows t (off s) → Shows u (freed_request (read t) s.channel) → Loose u (owner s)
    can-be-ready l f =
        let h = then (λ (x : State). freed_request x s.channel) l f in
        hand-loose {h = []} {e = 0} h.sound (rw h.reads checker)

    pub after-ready : {t u v : Tables} → Shows t (off s) → Shows u (freed_request (read t) s.channel) → Shows v (made_ready (read u) (owner s)) → Held v
    after-ready l f m =
        let h = then (λ (x : State). made_ready x (owner s)) (then (λ (x : State). freed_request x s.channel) l f) m in
        shape-held {h = []} {e = 0} h.sound (rw h.reads (made-ready checker).shape)

  module _ (w : was-last s ≡ true) where
    ends : (task_at s (owner s)).place ≡ Ending
    ends = eqb-true (task_at s (owner s)).place Ending (both _ _ w).0

    none_left : pending (off s) (owner s) ≡ false
    none_left = not-true (pending (off s) (owner s)) (both (eqb (task_at s (owner s)).place Ending) _ w).1

    pub can-finish : {t u : Tables} → Shows t (off s) → Shows u (freed_request (read t) s.channel) → Finishing u (owner s)
    can-finish l f =
        let h = then (λ (x : State). freed_request x s.channel) l f in
        record {
          others = [];
          excused = 0 ∷ [];
          sound = h.sound;
          hand = rw h.reads (freed-hand g n (omega (arith, ends)));
          rest = rw h.reads (freed-rest g n);
        }

    pub after-finishing : {t u v : Tables} → Shows t (off s) → Shows u (freed_request (read t) s.channel) → Shows v (finished (read u) (owner s)) → Held v
    after-finishing l f m =
        let h = then (λ (x : State). finished x (owner s)) (then (λ (x : State). freed_request x s.channel) l f) m in
        shape-held {h = []} {e = 0} h.sound (rw h.reads (freed-finishes g n ends none_left).shape)
