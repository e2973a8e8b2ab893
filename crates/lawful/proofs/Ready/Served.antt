-- Core of a level is freed, and its core queue served: at the end the first that waits does not fit. By induction on the queue; only the served level's
-- rule is in doubt on the way.
use mathlib.Core.Bool.{Bool, true, false, true≢false}
use mathlib.Core.Path.{◌≡◌, refl, sym, ap, ◌∙◌}
use mathlib.Core.Logic.{◌≢◌, ⊎_elim}
use mathlib.Core.List.{List, [], ◌∷◌}
use Prim.Native.Nat.{ℕ, ◌≤◌, ◌<◌}
use native.Mathlib.Omega.{arith}
use Rattle.threads.specs.Threads.{hd, count, without}
use Rattle.threads.proofs.Lists.{count-nil, without_at}
use Rattle.words.proofs.Truth.{tested}
use Rattle.words.specs.Words.{if◌then◌else◌, is_empty}
use Rattle.tables.specs.State.{State, event_queue, channel_queue, core_queue, queue, level_of, leaving}
use Rattle.meaning.specs.Conditions.{enough}
use Rattle.meaning.specs.Ready.{fits, needs_core, seated, serving, served}
use Rattle.lawful.specs.Shape.{Shape, InHand}
use Rattle.lawful.specs.Resting.{Asleep, Stuck, Flowing, Rest}
use Rattle.lawful.proofs.Ready.Cases.{needs}
use Rattle.lawful.proofs.Chained.Small.{none}
use Rattle.lawful.proofs.Chained.Framed.{Any, Framed, framed, frame_on, frame-channel, served-ready}
use Rattle.words.proofs.Counting.{one_same}
use Rattle.threads.proofs.Queues.{set-queue, set-others, count-cons}
use Rattle.lawful.proofs.Blocks.Members.{member-stands, member-core}
use Rattle.lawful.proofs.Blocks.Enter.{hand-count}
use Rattle.lawful.proofs.Ready.Made.{Seated, seats, asleep-same, stuck-same}
use Rattle.lawful.proofs.Blocks.Leave.{leave}

-- the rules of rest, but for who waits for core of the level
pub record RestBut (s : State) (m : List ℕ) (level : ℕ) : Type 0 where
  pub asleep : Asleep s m
  pub stuck : (i : ℕ) → 1 ≤ i → i ≤ 3 → i ≢ level → Stuck s i
  pub flowing : Flowing s m

-- what serving a level's core queue touches: those that wait in it
pub served-frame : (s : State) (level : ℕ) → Framed (λ y. 1 ≤ count y (queue s (core_queue level))) Any s (served s level)
served-frame s level = framed (served-ready _ Any _ s s level (λ y c. c) (λ q. refl) none)

pub record Serves (s' : State) (h : List ℕ) (e : ℕ) (m : List ℕ) : Type 0 where
  pub shape : Shape s' h e
  pub rest : Rest s' m

module _ {s : State} {h : List ℕ} {e : ℕ} {level : ℕ} {m : List ℕ} (g : Shape s h e) (r : RestBut s m level) (lo : 1 ≤ level) (hi : level ≤ 3) where
  -- nobody waits
  serve-none : queue s (core_queue level) ≡ [] → Serves s h e m
  serve-none q =
      record {
        shape = g;
        rest = record {
          asleep = r.asleep;
          stuck = λ i a b. ⊎_elim (λ z. record { stuck = λ k l d. absurd (true≢false (ap is_empty (sym q ∙ ap (λ (x : ℕ). queue s (core_queue x)) (sym z.1) ∙ d))) }) (λ z. r.stuck i a b z.1) (tested i level);
          flowing = r.flowing;
        };
      }

  module _ (k : ℕ) (l : List ℕ) (q : queue s (core_queue level) ≡ k ∷ l) where
    here : 1 ≤ count k (queue s (core_queue level))
    here = rw q (omega (arith, count-cons k k l, one_same k k refl))

    low : core_queue level < 8
    low = omega arith

    pub own : level_of s k ≡ level
    own = let p = (member-core g k (core_queue level) low here (omega arith) (omega arith)).1 in omega (arith, p)

    -- the first does not fit
    serve-stop : fits s k ≡ false → Serves s h e m
    unfolding fits
    serve-stop f =
        record {
          shape = g;
          rest = record {
            asleep = r.asleep;
            stuck = λ i a b.
                ⊎_elim
                (λ z. record {
                  stuck = λ j t d.
                      let c : k ≡ j = ap hd (sym q ∙ ap (λ (x : ℕ). queue s (core_queue x)) (sym z.1) ∙ d) in
                      rw (z.1, ← c, ← own) f;
                })
                (λ z. r.stuck i a b z.1) (tested i level);
            flowing = r.flowing;
          };
        }

    -- the first fits, and is seated
    pub hand : InHand (leaving s (core_queue level) k) k h e
    hand = leave g k (core_queue level) low here

    pub needing : needs_core (leaving s (core_queue level) k) k ≡ true
    needing =
        let p = (member-core g k (core_queue level) low here (omega arith) (omega arith)).0 in
        let c = (member-stands g k (core_queue level) low here).fields.waits p in
        needs (leaving s (core_queue level) k) k (λ z. omega (arith, z, c.0)) c.1

    pub seat : fits s k ≡ true → Seated (leaving s (core_queue level) k) (seated s (core_queue level) k) k h e
    unfolding seated fits
    seat f = seats hand needing f

    pub gone : queue (leaving s (core_queue level) k) (core_queue level) ≡ l
    gone = set-queue s.queues (core_queue level) _ g.sizes.queues (omega arith) ∙ ap (without k) q ∙ without_at k [] l (count-nil k)

    pub others : (i : ℕ) → i ≢ core_queue level → queue (leaving s (core_queue level) k) i ≡ queue s i
    others i n = set-others s.queues (core_queue level) (without k (queue s (core_queue level))) g.sizes.queues (omega arith) i n

    pub seat-rest : fits s k ≡ true → RestBut (seated s (core_queue level) k) m level
    unfolding enough
    seat-rest f =
        let d = seat f in
        let ev = others event_queue (λ z. omega (arith, z)) in
        record {
          asleep =
              asleep-same {s = s} (d.frame.queues event_queue (λ z. omega (arith, z)) ∙ ev) (frame_on d.frame)
              (λ y c. d.frame.tasks y (λ z. omega (arith, rw (← ev) at c, hand-count hand event_queue (omega arith), ap (λ (x : ℕ). count x (queue (leaving s (core_queue level) k) event_queue)) z)))
              r.asleep;
          stuck = λ i a b n.
              d.stuck i a b (λ z. absurd (n (z ∙ own)))
              (stuck-same {s = s} (others (core_queue i) (λ z. n (omega (arith, z)))) refl (λ y. refl) (r.stuck i a b n));
          flowing = record { flowing = λ x c. d.frame.queues channel_queue (λ z. omega (arith, z)) ∙ others channel_queue (λ z. omega (arith, z)) ∙ r.flowing.flowing x (sym (frame-channel d.frame) ∙ c) };
        }

    pub seat-queue : fits s k ≡ true → queue (seated s (core_queue level) k) (core_queue level) ≡ l
    seat-queue f = (seat f).waiting level lo hi ∙ gone

-- ---- The loop.
module _ {h : List ℕ} {e : ℕ} {level : ℕ} {m : List ℕ} (lo : 1 ≤ level) (hi : level ≤ 3) where
  pub serves : (l : List ℕ) (s : State) → Shape s h e → RestBut s m level → queue s (core_queue level) ≡ l → Serves (serving (core_queue level) l s) h e m
  unfolding serving
  serves [] s g r q = serve-none g r lo hi q
  serves (k ∷ l) s g r q = go (fits s k) refl (λ f. serves l (seated s (core_queue level) k) (seat g r lo hi k l q f).shape (seat-rest g r lo hi k l q f) (seat-queue g r lo hi k l q f))
    where
      go : (b : Bool) → fits s k ≡ b
          → (fits s k ≡ true → Serves (serving (core_queue level) l (seated s (core_queue level) k)) h e m)
          → Serves (if b then serving (core_queue level) l (seated s (core_queue level) k) else s) h e m
      go true f ih = ih f
      go false f ih = serve-stop g r lo hi k l q f

  pub serve : (s : State) → Shape s h e → RestBut s m level → Serves (served s level) h e m
  unfolding served
  serve s g r = serves (queue s (core_queue level)) s g r refl
