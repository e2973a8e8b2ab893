-- A block of a queue is taken into the hand, and so is a task that runs. By `take`.
use mathlib.Core.Path.{refl, sym, ap, ◌∙◌}
use mathlib.Core.Logic.{◌≢◌, ⊎_elim}
use mathlib.Core.List.{List}
use Prim.Native.Nat.{ℕ, ◌≤◌, ◌<◌}
use native.Mathlib.Omega.{arith}
use Rattle.threads.specs.Threads.{count, without, QUEUES}
use Rattle.words.proofs.Truth.{tested}
use Rattle.tables.specs.State.{State, time_queue, channel_queue, task_at, queue, level_of, with_running, leaving}
use Rattle.tables.specs.Blocks.{Running, InLink}
use Rattle.meaning.specs.Rules.{queue_for}
use Rattle.lawful.specs.Shape.{place_of, Shape, InHand}
use Rattle.words.specs.Counting.{one}
use Rattle.words.proofs.Counting.{one_same, one-other}
use Rattle.lawful.proofs.Blocks.Take.{take}
use Rattle.lawful.proofs.Blocks.Members.{member-some, member-low, member-stands, member-queue, member-place, member-once, member-out, runs-stands, runs-place, not_in}
use Rattle.threads.proofs.Queues.{set-nine, set-queue, set-others, set-count, count-without, up-without}

module _ {s : State} {h : List ℕ} {e : ℕ} (g : Shape s h e) (k q : ℕ) (low : q < 8) (c : 1 ≤ count k (queue s q)) where
  pub leave : InHand (leaving s q k) k h e
  leave =
      let nine = g.sizes.queues in
      let l : q < QUEUES = omega arith in
      let m = without k (queue s q) in
      let p = member-place g k q low c in
      record {
        some = member-some g k q low c;
        low = member-low g k q low c;
        out = member-out g k q low c;
        shape = take s k g (record {
          some = member-some g k q low c;
          low = member-low g k q low c;
          used = λ z. omega (arith, z, p);
          nine = set-nine s.queues q m nine l;
          others = λ j y d. set-count s.queues q m nine l j y (omega (arith, count-without k y (queue s q) c, one-other k y (λ z. d (sym z))));
          own = λ j i.
              ⊎_elim
              (λ z. rw (z.1, set-queue s.queues q m nine l) (omega (arith, count-without k k (queue s q) c, one_same k k refl, (member-once g k q low c))))
              (λ z. rw (set-others s.queues q m nine l j z.1) ((member-stands g k q low c).queued j i ∙ one-other _ j (λ y. z.1 (sym y ∙ (member-queue g k q low c)))))
              (tested j q);
          bound = g.blank.running;
          runs = λ z. omega (arith, (member-stands g k q low c).runs, one_same _ k z, one-other (place_of s h k) Running (λ y. omega (arith, y, p)));
          run-others = λ y a b. refl;
          links = omega (arith, one-other (place_of s h k) InLink (λ z. omega (arith, z, p)));
          link-others = λ y a d. refl;
          timed =
              ⊎_elim
              (λ z. rw (z.1, set-queue s.queues q m nine l) (up-without (λ a. (task_at s a).time) k (queue s q) (rw (← z.1) g.timed)))
              (λ z. rw (set-others s.queues q m nine l time_queue z.1) g.timed)
              (tested time_queue q);
          channel = set-others s.queues q m nine l channel_queue (λ z. omega (arith, z));
        });
      }

module _ {s : State} {h : List ℕ} {e : ℕ} (g : Shape s h e) (n : s.running ≢ 0) where
  pub stop : InHand (with_running s 0) s.running h e
  unfolding queue_for
  stop =
      let k = s.running in
      record {
        some = omega arith;
        low = g.blank.running;
        out = not_in s h s.running (λ z. omega (arith, z, (runs-place g n)));
        shape = take s s.running g (record {
          some = omega arith;
          low = g.blank.running;
          used = λ z. omega (arith, z, (runs-place g n));
          nine = g.sizes.queues;
          others = λ j y d. refl;
          own = λ j i. (runs-stands g n).queued j i ∙ ap (λ (x : ℕ). one (queue_for x (level_of s s.running)) j) (runs-place g n) ∙ one-other 9 j (λ z. omega (arith, z, i));
          bound = omega arith;
          runs = λ z. n (sym z);
          run-others = λ y a b. one-other 0 y (λ z. omega (arith, z, a)) ∙ sym (one-other s.running y (λ z. b (sym z)));
          links = omega (arith, ap (λ (x : ℕ). one x InLink) (runs-place g n), one-other Running InLink (λ z. omega (arith, z)));
          link-others = λ y a d. refl;
          timed = g.timed;
          channel = refl;
        });
      }
