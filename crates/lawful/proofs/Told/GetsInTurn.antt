-- Nobody overtakes where core is granted: getting ready, serving a core queue, giving core back. A run is given where nobody waits, or to the first that waits.
-- Each is a change in the course of core (E8): a grant to a task that needs core and fits, or the return of a run.
use mathlib.Core.Bool.{Bool, true, false, not, ◌||◌, cond}
use mathlib.Core.Path.{◌≡◌, refl, sym, ap, ◌∙◌}
use mathlib.Core.Logic.{◌≢◌, ◌⊎◌, inl, inr, ⊎_elim}
use mathlib.Core.List.{List, [], ◌∷◌, ◌++◌, append-nil}
use Prim.Native.Nat.{ℕ, ◌≤◌}
use native.Mathlib.Omega.{arith}
use lib.ListN.{length, set, get_or}
use lib.Seq.{get_or-set_other}
use lib.Dec.{eqb}
use Rattle.threads.specs.Threads.{without, QUEUES}
use Rattle.threads.proofs.Lists.{count-nil, without_at}
use Rattle.words.proofs.Truth.{tested}
use Rattle.words.specs.Words.{if◌then◌else◌, is_empty}
use Rattle.image.specs.Directory.{no_entry}
use Rattle.tables.specs.declared.Task.{Task}
use Rattle.tables.specs.Blocks.{Ready, InCore, HoldsRun, no_task, moving, with_core, task_blocks}
use Rattle.tables.specs.State.{State, core_queue, task_at, queue, level_of, leaving}
use Rattle.meaning.specs.Ready.{start_for, fits, needs_core, given_run, readied, awaits_core, made_ready, seated, serving, served}
use Rattle.meaning.specs.Finish.{given_back}
use Rattle.lawful.specs.InTurn.{InTurn}
use Rattle.lawful.specs.Granted.{KeepsRun, SameCore, grants, returns, other, here, ◌next◌}
use Rattle.lawful.specs.Shape.{Shape, InHand}
use Rattle.lawful.specs.Resting.{Rest}
use Rattle.lawful.proofs.Blocks.Sums.{field-kept}
use Rattle.lawful.proofs.Ready.Cases.{needs-true}
use Rattle.lawful.proofs.Blocks.Shape.{held_place}
use Rattle.words.proofs.Counting.{one_same}
use Rattle.threads.proofs.Queues.{set-queue, set-others, count-cons}
use Rattle.lawful.proofs.Blocks.Members.{level-best, level-worst}
use Rattle.lawful.proofs.Blocks.Cored.{grant, give-back, used-holder}
use Rattle.lawful.proofs.Ready.Made.{ready-core}
use Rattle.lawful.proofs.Ready.Served.{RestBut, own, hand, needing, seat, seat-rest, seat-queue}
use Rattle.lawful.proofs.Each.Given.{freed, freed-rest}
use Rattle.lawful.proofs.Chained.Views.{set_at}
use Rattle.lawful.proofs.Told.Turns.{Turns, changes, holders, same-core, quiet, stays, then_turns}

-- ---- Who holds core where one block changes: as before, where its core and its module stay, or where it holds none before and after; none new, where it holds none after.
module _ (s u : State) (k : ℕ) (x : Task) (e : u.tasks ≡ set s.tasks k x) where
  one_field : (f : Task → ℕ) → f x ≡ f (task_at s k) → (y : ℕ) → f (task_at u y) ≡ f (task_at s y)
  one_field f p y = ap (λ (l : List Task). f (get_or l y no_task)) e ∙ field-kept f s.tasks k y x no_task p

  holders-lost : x.core ≢ HoldsRun → (y : ℕ) → (task_at u y).core ≡ HoldsRun → ((task_at s y).core ≡ HoldsRun) × ((task_at u y).program ≡ (task_at s y).program)
  holders-lost n y c =
      let now = ap (λ (l : List Task). get_or l y no_task) e in
      ⊎_elim
      (λ z. (sym (ap (λ (t : Task). t.core) (now ∙ z)) ∙ c, ap (λ (t : Task). t.program) (now ∙ z)))
      (λ z. absurd (n (sym (ap (λ (t : Task). t.core) (now ∙ z.1)) ∙ c))) (set_at x no_task s.tasks k y)

  module _ (d : u.directory ≡ s.directory) (b : u.holes ≡ s.holes) (l : u.pools ≡ s.pools) where
    pub same_kept : x.core ≡ (task_at s k).core → x.program ≡ (task_at s k).program → x.start ≡ (task_at s k).start → SameCore s u
    same_kept p q r =
        record {
          directory = d;
          holes = b;
          pools = l;
          kept = λ y c. record { held = c; holds = one_field (λ t. t.core) p y ∙ c; program = one_field (λ t. t.program) q y; start = one_field (λ t. t.start) r y };
          only = λ y c. sym (one_field (λ t. t.core) p y) ∙ c;
        }

    pub same-lost : x.core ≢ HoldsRun → (task_at s k).core ≢ HoldsRun → SameCore s u
    same-lost n m = record { directory = d; holes = b; pools = l; kept = kept; only = λ y c. (holders-lost n y c).0 }
      where
        kept : (y : ℕ) → (task_at s y).core ≡ HoldsRun → KeepsRun s u y
        kept y c =
            let now : task_at u y ≡ task_at s y =
            ap (λ (l : List Task). get_or l y no_task) e ∙ get_or-set_other s.tasks k y x no_task (λ z. m (ap (λ (j : ℕ). (task_at s j).core) (sym z) ∙ c)) in
            record { held = c; holds = ap (λ (t : Task). t.core) now ∙ c; program = ap (λ (t : Task). t.program) now; start = ap (λ (t : Task). t.start) now }

-- ---- A task is given a run: where nobody waits for core of its level, or as the first that waits, which then waits no more.
module _ (s : State) (k : ℕ) where
  run-level : level_of (given_run s k) k ≡ level_of s k
  unfolding given_run
  run-level = ap (λ (m : ℕ). (get_or s.directory.entries m no_entry).level) (field-kept (λ t. t.program) s.tasks k k _ no_task refl)

  -- whoever else holds core held it
  run-others : (y : ℕ) → (task_at (given_run s k) y).core ≡ HoldsRun → (((task_at s y).core ≡ HoldsRun) × ((task_at (given_run s k) y).program ≡ (task_at s y).program)) ⊎ (y ≡ k)
  unfolding given_run
  run-others y c =
      ⊎_elim (λ z. inl (sym (ap (λ (t : Task). t.core) z) ∙ c, ap (λ (t : Task). t.program) z)) (λ z. inr z.0)
      (set_at (with_core (task_at s k) HoldsRun (start_for s k)) no_task s.tasks k y)

  pub run-turns : {o : State} → needs_core s k ≡ true → fits s k ≡ true → queue s (core_queue (level_of s k)) ≡ [] → Turns o s (given_run s k)
  unfolding given_run
  run-turns n f q =
      record {
        directory = refl;
        course = here next grants k n f;
        turn = λ level lo hi. record {
          served = [];
          left = queue s (core_queue level);
          new = [];
          before = refl;
          after = sym (append-nil _);
          got = λ y c l.
              ⊎_elim (λ z. inl z)
              (λ z. inr (inr (ap (λ (x : ℕ). queue s (core_queue x)) (sym l ∙ ap (level_of (given_run s k)) z ∙ run-level) ∙ q)))
              (run-others y c);
        };
      }

-- the first that waits leaves its queue, and is given its run
module _ (s : State) (k level : ℕ) (l : List ℕ) (nine : length s.queues ≡ QUEUES) (lo : 1 ≤ level) (hi : level ≤ 3)
    (q : queue s (core_queue level) ≡ k ∷ l) (o : level_of s k ≡ level) where
  abbrev left : State
  left = leaving s (core_queue level) k

  pub seat-turns : {b : State} → needs_core left k ≡ true → fits left k ≡ true → Turns b s (given_run left k)
  unfolding given_run
  seat-turns n f =
      record {
        directory = refl;
        course = here next other (same-core refl refl refl refl) next grants k n f;
        turn = λ i a b. ⊎_elim (λ z. rw z.1 at_level) (λ z. elsewhere i z.1) (tested i level);
      }
    where
      at_level : InTurn s (given_run left k) level
      at_level =
          record {
            served = k ∷ [];
            left = l;
            new = [];
            before = q;
            after = set-queue s.queues (core_queue level) _ nine (omega (arith, hi)) ∙ ap (without k) q ∙ without_at k [] l (count-nil k) ∙ sym (append-nil l);
            got = λ y c i. ⊎_elim (λ z. inl z) (λ z. inr (inl (omega (arith, count-cons k y [], one_same k y (sym z))))) (run-others left k y c);
          }

      elsewhere : (i : ℕ) → i ≢ level → InTurn s (given_run left k) i
      elsewhere i n =
          record {
            served = [];
            left = queue s (core_queue i);
            new = [];
            before = refl;
            after = set-others s.queues (core_queue level) _ nine (omega (arith, hi)) (core_queue i) (λ z. n (omega (arith, z))) ∙ sym (append-nil _);
            got = λ y c j. ⊎_elim (λ z. inl z) (λ z. absurd (n (sym j ∙ ap (level_of (given_run left k)) z ∙ run-level left k ∙ o))) (run-others left k y c);
          }

-- ---- Getting ready.
module _ {s : State} {k : ℕ} {h : List ℕ} {e : ℕ} (i : InHand s k h e) where
  pub ready-turns : {o : State} → Turns o s (readied s k)
  unfolding readied
  ready-turns = quiet (same_kept s (readied s k) k (moving s.clock (task_at s k) Ready) refl refl refl refl refl refl refl) (ready-core i)

  run-hand : needs_core s k ≡ true → fits s k ≡ true → InHand (given_run s k) k h e
  run-hand n f =
      let c = needs-true s k n in
      record { some = i.some; low = i.low; out = i.out; shape = grant i.shape i.some i.low (held_place s h k) c.0 c.1 f }

  awaits-core : SameCore s (awaits_core s k)
  unfolding awaits_core
  awaits-core = same_kept s (awaits_core s k) k (moving s.clock (task_at s k) InCore) refl refl refl refl refl refl refl

  awaits-turns : {o : State} → Turns o s (awaits_core s k)
  unfolding awaits_core
  awaits-turns =
      record {
        directory = refl;
        course = here next other awaits-core;
        turn = λ level lo hi. record {
          served = [];
          left = queue s (core_queue level);
          new = newcomers level;
          before = refl;
          after = behind level hi;
          got = λ y c l. inl (holders awaits-core y c);
        };
      }
    where
      newcomers : ℕ → List ℕ
      newcomers level = if eqb level (level_of s k) then k ∷ [] else []

      behind : (level : ℕ) → level ≤ 3 → queue (awaits_core s k) (core_queue level) ≡ queue s (core_queue level) ++ newcomers level
      behind level hi =
          ⊎_elim
          (λ z. rw z.0 (ap (λ (x : ℕ). queue (awaits_core s k) (core_queue x)) z.1
          ∙ set-queue s.queues (core_queue (level_of s k)) _ i.shape.sizes.queues (omega (arith, hi, z.1)) ∙ ap (λ (x : ℕ). queue s (core_queue x) ++ k ∷ []) (sym z.1)))
          (λ z. rw z.0 (get_or-set_other s.queues (core_queue (level_of s k)) (core_queue level) _ [] (λ j. z.1 (omega (arith, j))) ∙ sym (append-nil _)))
          (tested level (level_of s k))

module _ {s : State} {k : ℕ} {h : List ℕ} {e : ℕ} (i : InHand s k h e) where
  pub made-turns : {o : State} → Turns o s (made_ready s k)
  unfolding made_ready
  made-turns {o} = go (needs_core s k) refl (queue s (core_queue (level_of s k))) refl (fits s k) refl
    where
      go : (b : Bool) → needs_core s k ≡ b → (l : List ℕ) → queue s (core_queue (level_of s k)) ≡ l → (c : Bool) → fits s k ≡ c
          → Turns o s (cond b (cond (not (is_empty l) || not c) (awaits_core s k) (readied (given_run s k) k)) (readied s k))
      go false n l q c f = ready-turns i
      go true n [] q false f = awaits-turns i
      go true n [] q true f = then_turns (run-turns s k n f q) (ready-turns (run-hand i n f))
      go true n (a ∷ l) q c f = awaits-turns i

-- ---- A level's core queue is served: by induction on the queue.
module _ {o : State} {h : List ℕ} {e : ℕ} {level : ℕ} {m : List ℕ} (lo : 1 ≤ level) (hi : level ≤ 3) where
  serving-turns : (l : List ℕ) (s : State) → Shape s h e → RestBut s m level → queue s (core_queue level) ≡ l → Turns o s (serving (core_queue level) l s)
  unfolding serving fits seated
  serving-turns [] s g r q = stays s
  serving-turns (k ∷ l) s g r q =
      go (fits s k) refl
      (λ f. serving-turns l (seated s (core_queue level) k) (seat g r lo hi k l q f).shape (seat-rest g r lo hi k l q f) (seat-queue g r lo hi k l q f))
    where
      one-seated : fits s k ≡ true → Turns o s (seated s (core_queue level) k)
      one-seated f =
          then_turns (seat-turns s k level l g.sizes.queues lo hi q (own g r lo hi k l q) (needing g r lo hi k l q) f)
          (ready-turns (run-hand (hand g r lo hi k l q) (needing g r lo hi k l q) f))

      go : (b : Bool) → fits s k ≡ b
          → (fits s k ≡ true → Turns o (seated s (core_queue level) k) (serving (core_queue level) l (seated s (core_queue level) k)))
          → Turns o s (if b then serving (core_queue level) l (seated s (core_queue level) k) else s)
      go true f ih = then_turns (one-seated f) (ih f)
      go false f ih = stays s

  pub served-turns : (s : State) → Shape s h e → RestBut s m level → Turns o s (served s level)
  unfolding served
  served-turns s g r = serving-turns (queue s (core_queue level)) s g r refl

-- ---- Core is given back, and that core queue served.
module _ {s : State} {h : List ℕ} {e : ℕ} {m : List ℕ} (g : Shape s h e) (r : Rest s m) (k : ℕ) (some : 1 ≤ k) (low : k ≤ task_blocks) where
  pub back-turns : {b : State} → ((task_at s k).core ≡ HoldsRun → KeepsRun b s k) → Turns b s (given_back s k)
  unfolding given_back
  back-turns {b} held = ⊎_elim (λ z. rw z.0 (gives z.1)) (λ z. rw z.0 (stays s)) (tested (task_at s k).core 1)
    where
      gives : (o : (task_at s k).core ≡ 1) → Turns b s (served (freed g r k some low o) (level_of s k))
      gives o =
          let u = used-holder g some low o in
          then_turns (changes (returns k (held o)) refl (λ level lo hi. refl) (holders-lost s (freed g r k some low o) k (with_core (task_at s k) 2 0) refl (λ z. omega (arith, z))))
          (served-turns (level-best g some low u) (level-worst g some low u) (freed g r k some low o) (give-back g some low o) (freed-rest g r k some low o))
