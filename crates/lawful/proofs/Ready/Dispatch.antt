-- Dispatching keeps the rules, and brings back the one that nobody is ready while no task runs: the first of the best level leaves its queue and runs.
use mathlib.Core.Bool.{Bool, true, false}
use mathlib.Core.Path.{◌≡◌, refl, sym, ap, ◌∙◌}
use mathlib.Core.Logic.{⊎_elim}
use mathlib.Core.List.{List}
use Prim.Native.Nat.{ℕ, ◌≤◌, ◌<◌}
use native.Mathlib.Omega.{arith}
use lib.ListN.{get_or}
use lib.Seq.{get_or-set_other}
use Rattle.threads.specs.Threads.{hd, count, without}
use Rattle.words.proofs.Truth.{tested}
use Rattle.words.specs.Words.{is_empty}
use Rattle.image.specs.Directory.{no_entry}
use Rattle.tables.specs.State.{State, event_queue, channel_queue, core_queue, task_at, queue, units_of, with_running}
use Rattle.tables.specs.Blocks.{Running, InLink, no_task, moving}
use Rattle.meaning.specs.Ready.{placed, best_ready, runs_first, dispatched}
use Rattle.meaning.specs.Rules.{queue_for}
use Rattle.lawful.specs.Shape.{Shape, InHand}
use Rattle.lawful.specs.Resting.{Lawful, Settled}
use Rattle.threads.proofs.Tests.{emptied, filled}
use Rattle.lawful.proofs.Ready.Cases.{best-1, best-2, best-3, best-some, kept, none-ready, dispatches}
use Rattle.lawful.proofs.Blocks.Sums.{field-kept}
use Rattle.words.proofs.Counting.{one_same, one-other}
use Rattle.lawful.proofs.Blocks.Fields.{plain-fields}
use Rattle.lawful.proofs.Blocks.Put.{put}
use Rattle.threads.proofs.Queues.{set-others, count-cons}
use Rattle.lawful.proofs.Blocks.Enter.{hand-stands, hand-count, hand-timed}
use Rattle.lawful.proofs.Ready.Made.{stuck-same, asleep-same}
use Rattle.lawful.proofs.Blocks.Members.{member-stands, member-ready}
use Rattle.lawful.proofs.Blocks.Leave.{leave}

-- ---- A block in hand is put on the processor.
module _ {s : State} {k : ℕ} {h : List ℕ} {e : ℕ} (i : InHand s k h e) where
  pub run-it : s.running ≡ 0 → (1 ≤ units_of s k → (task_at s k).core ≡ 0 → ⊥) → Shape (with_running (placed s k Running) k) h e
  unfolding queue_for
  run-it z n =
      put s k (moving s.clock (task_at s k) Running) i.shape (record {
        some = i.some;
        low = i.low;
        out = i.out;
        same = refl;
        used = omega arith;
        fields = plain-fields s.clock (hand-stands i).fields Running (omega arith) (omega arith) (λ z. omega (arith, z)) (λ z. omega (arith, z)) n;
        nine = i.shape.sizes.queues;
        others = λ q y d. refl;
        own = λ q l. hand-count i q l ∙ sym (one-other 9 q (λ z. omega (arith, z, l)));
        bound = i.low;
        runs = one_same k k refl ∙ sym (one_same Running Running refl);
        run-others = λ y a d. one-other k y (λ z. d (sym z)) ∙ sym (one-other s.running y (λ c. omega (arith, c, z, a)));
        checks = λ z. absurd (omega (arith, z));
        ends = λ z. absurd (omega (arith, z));
        since = refl;
        links = omega (arith, one-other Running InLink (λ z. omega (arith, z)));
        link-others = λ y a d. refl;
        timed = hand-timed i (moving s.clock (task_at s k) Running);
        channel = refl;
      })

-- where no level is the best, none is ready
none : (s : State) (level : ℕ) → 1 ≤ level → level ≤ 3 → best_ready s ≡ 0 → is_empty (queue s level) ≡ true
none s level lo hi b = go (is_empty (queue s 1)) (is_empty (queue s 2)) (is_empty (queue s 3)) refl refl refl
  where
    go : (x y z : Bool) → is_empty (queue s 1) ≡ x → is_empty (queue s 2) ≡ y → is_empty (queue s 3) ≡ z → is_empty (queue s level) ≡ true
    go false y z e f g = absurd (omega (arith, b, best-1 s e))
    go true false z e f g = absurd (omega (arith, b, best-2 s e f))
    go true true false e f g = absurd (omega (arith, b, best-3 s e f g))
    go true true true e f g =
        ⊎_elim (λ c. rw c.1 e)
        (λ c. ⊎_elim (λ d. rw d.1 f) (λ d. let i : level ≡ 3 = omega (arith, c.1, d.1) in rw i g) (tested level 2)) (tested level 1)

module _ {s : State} (g : Settled s) where
  module _ (level : ℕ) (z : s.running ≡ 0) (best : 1 ≤ level) (worst : level ≤ 3) (f : is_empty (queue s level) ≡ false) where
    abbrev k : ℕ
    k = hd (queue s level)

    here : 1 ≤ count k (queue s level)
    here = let p = filled (queue s level) f in rw p.1 (omega (arith, count-cons k k p.0, one_same k k refl))

    -- the first runs
    pub runs-first : Lawful (runs_first s level)
    unfolding runs_first
    runs-first =
        let low : level < 8 = omega arith in
        let i = leave g.shape k level low here in
        let m = member-stands g.shape k level low here in
        let nine = g.shape.sizes.queues in
        let set = set-others s.queues level (without k (queue s level)) nine (omega arith) in
        record {
          shape = run-it i z (λ a b. (m.fields.needs a b).1 (member-ready g.shape k level low here best worst).0);
          rest =
              record {
                asleep = asleep-same {s = s} (set event_queue (λ y. omega (arith, y))) refl (λ y c. get_or-set_other s.tasks k y _ no_task (λ w. omega (arith, c, ap (count k) (set event_queue (λ y. omega (arith, y))), hand-count i event_queue (omega arith), ap (λ (x : ℕ). count x (queue s event_queue)) w))) g.rest.asleep;
                stuck = λ l a b. stuck-same {s = s} (set (core_queue l) (λ y. omega (arith, y))) refl (λ y. ap (λ (j : ℕ). (get_or s.directory.entries j no_entry).units) (field-kept (λ t. t.program) s.tasks k y _ no_task refl)) (g.rest.stuck l a b);
                flowing = record { flowing = λ x c. set channel_queue (λ y. omega (arith, y)) ∙ g.rest.flowing.flowing x c };
              };
          busy = record { busy = λ y. absurd (omega (arith, i.some, y)) };
        }

  -- ---- The law.
  pub dispatch : Lawful (dispatched s)
  dispatch =
      ⊎_elim
      (λ z.
      ⊎_elim
      (λ b. rw (none-ready s z.1 b.1) (record {
        shape = g.shape;
        rest = g.rest;
        busy = record { busy = λ c level lo hi. emptied (queue s level) (none s level lo hi b.1) };
      }))
      (λ b.
      let w = best-some s b.1 in
      rw (dispatches s z.1 b.1) (runs-first (best_ready s) z.1 w.0 w.1 w.2))
      (tested (best_ready s) 0))
      (λ z. rw (kept s z.1) (record {
        shape = g.shape;
        rest = g.rest;
        busy = record { busy = λ c. absurd (z.1 c) };
      }))
      (tested s.running 0)
