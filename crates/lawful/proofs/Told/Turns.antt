-- Nobody overtakes, part by part: the relation `InTurn` of each level goes on from one part of a call to the next, and holds of a part that changes neither a core
-- queue nor who holds core. Two lists that are the same in two splits share the longer part. With it goes the course of core (E8), part by part as well.
use mathlib.Core.Bool.{true≢false}
use mathlib.Core.Path.{◌≡◌, refl, sym, ap, ap₂, ◌∙◌}
use mathlib.Core.Logic.{inl, inr, ⊎_elim}
use mathlib.Core.List.{List, [], ◌∷◌, ◌++◌, append-nil, append_assoc}
use Prim.Native.Nat.{ℕ, ◌≤◌}
use native.Mathlib.Omega.{arith}
use lib.ListN.{get_or}
use Rattle.threads.specs.Threads.{hd}
use Rattle.threads.proofs.Lists.{count-append}
use Rattle.words.specs.Words.{is_empty}
use Rattle.image.specs.declared.Directory.{Directory}
use Rattle.image.specs.Directory.{no_entry}
use Rattle.tables.specs.declared.Task.{Task}
use Rattle.tables.specs.Blocks.{HoldsRun, no_task}
use Rattle.tables.specs.State.{State, core_queue, task_at, queue, level_of}
use Rattle.lawful.specs.InTurn.{InTurn}
use Rattle.lawful.specs.Granted.{SameCore, Change, Course, here, other, ◌next◌}

-- ---- Lists.
tl : List ℕ → List ℕ
tl [] = []
tl (x ∷ l) = l

-- a ++ b is c ++ d: c is a part of a, or a is a part of c
pub data Shared (a b c d : List ℕ) : Type 0 where
  within : (m : List ℕ) → a ≡ c ++ m → d ≡ m ++ b → Shared a b c d
  beyond : (m : List ℕ) → c ≡ a ++ m → b ≡ m ++ d → Shared a b c d

pub shared : (a b c d : List ℕ) → a ++ b ≡ c ++ d → Shared a b c d
unfolding tl
shared [] b c d e = beyond c refl e
shared (x ∷ a) b [] d e = within (x ∷ a) refl (sym e)
shared (x ∷ a) b (y ∷ c) d e = go (ap hd e) (shared a b c d (ap tl e))
  where
    go : x ≡ y → Shared a b c d → Shared (x ∷ a) b (y ∷ c) d
    go h (within m p q) = within m (ap₂ (λ (z : ℕ) (l : List ℕ). z ∷ l) h p) q
    go h (beyond m p q) = beyond m (ap₂ (λ (z : ℕ) (l : List ℕ). z ∷ l) (sym h) p) q

cons-none : (x : ℕ) (l : List ℕ) → x ∷ l ≡ [] → ⊥
cons-none x l e = true≢false (sym (ap is_empty e))

none_first : (a b : List ℕ) → a ++ b ≡ [] → a ≡ []
none_first [] b e = refl
none_first (x ∷ a) b e = absurd (cons-none x (a ++ b) e)

-- ---- The relation, at every level; and the course of core, in a call that was made in the state o.
pub record Turns (o s u : State) : Type 0 where
  pub directory : u.directory ≡ s.directory
  pub course : Course o s u
  pub turn : (level : ℕ) → 1 ≤ level → level ≤ 3 → InTurn s u level

-- one change of core that leaves the core queues as they are, and gives nobody core
pub changes : {o s u : State} → Change o s u → u.directory ≡ s.directory
    → ((level : ℕ) → 1 ≤ level → level ≤ 3 → queue u (core_queue level) ≡ queue s (core_queue level))
    → ((k : ℕ) → (task_at u k).core ≡ HoldsRun → ((task_at s k).core ≡ HoldsRun) × ((task_at u k).program ≡ (task_at s k).program)) → Turns o s u
changes {o} {s} {u} c d q h =
    record {
      directory = d;
      course = here next c;
      turn = λ level lo hi. record {
        served = [];
        left = queue s (core_queue level);
        new = [];
        before = refl;
        after = q level lo hi ∙ sym (append-nil _);
        got = λ k c l. inl (h k c);
      };
    }

-- who holds a run where core is the same
pub holders : {s u : State} → SameCore s u → (k : ℕ) → (task_at u k).core ≡ HoldsRun → ((task_at s k).core ≡ HoldsRun) × ((task_at u k).program ≡ (task_at s k).program)
holders e k c = (e.only k c, (e.kept k (e.only k c)).program)

-- a part that leaves core and the core queues as they are
pub quiet : {o s u : State} → SameCore s u → ((level : ℕ) → 1 ≤ level → level ≤ 3 → queue u (core_queue level) ≡ queue s (core_queue level)) → Turns o s u
quiet e q = changes (other e) e.directory q (holders e)

-- where no block changes, and no pool
pub same-core : {s u : State} → u.directory ≡ s.directory → u.holes ≡ s.holes → u.pools ≡ s.pools → u.tasks ≡ s.tasks → SameCore s u
same-core {s} {u} d b l e =
    let at : (k : ℕ) → task_at u k ≡ task_at s k = λ k. ap (λ (m : List Task). get_or m k no_task) e in
    record {
      directory = d;
      holes = b;
      pools = l;
      kept = λ k c. record { held = c; holds = ap (λ (t : Task). t.core) (at k) ∙ c; program = ap (λ (t : Task). t.program) (at k); start = ap (λ (t : Task). t.start) (at k) };
      only = λ k c. sym (ap (λ (t : Task). t.core) (at k)) ∙ c;
    }

pub stays : {o : State} (s : State) → Turns o s s
stays s = quiet (same-core refl refl refl refl) (λ level lo hi. refl)

-- the level of a task is that of its module
same-level : (s t : State) (k : ℕ) → t.directory ≡ s.directory → (task_at t k).program ≡ (task_at s k).program → level_of t k ≡ level_of s k
same-level s t k d p = ap₂ (λ (x : Directory) (m : ℕ). (get_or x.entries m no_entry).level) d p

-- ---- One part after the other.
module _ {s t u : State} {level : ℕ} (d : u.directory ≡ t.directory) (a : InTurn s t level) (b : InTurn t u level) where
  joined : Shared a.left a.new b.served b.left
  joined = shared a.left a.new b.served b.left (sym a.after ∙ b.before)

  in-turn : Shared a.left a.new b.served b.left → InTurn s u level
  in-turn (within m p q) =
      record {
        served = a.served ++ b.served;
        left = m;
        new = a.new ++ b.new;
        before = a.before ∙ ap (λ (l : List ℕ). a.served ++ l) p ∙ sym (append_assoc a.served b.served m);
        after = b.after ∙ ap (λ (l : List ℕ). l ++ b.new) q ∙ append_assoc m a.new b.new;
        got = λ k c l. ⊎_elim
            (λ x. ⊎_elim (λ y. inl (y.0, x.1 ∙ y.1)) (λ y. ⊎_elim (λ z. inr (inl (omega (arith, z, count-append k a.served b.served)))) (λ z. inr (inr (gone z))) y)
            (a.got k x.0 (sym (same-level t u k d x.1) ∙ l)))
            (λ x. inr (⊎_elim (λ z. inl (omega (arith, z, count-append k a.served b.served))) (λ z. inr (none_first m a.new (sym q ∙ z))) x))
            (b.got k c l);
      }
    where
      gone : a.left ≡ [] → m ≡ []
      gone z = go b.served (sym p ∙ z)
        where
          go : (l : List ℕ) → l ++ m ≡ [] → m ≡ []
          go [] e = e
          go (x ∷ l) e = absurd (cons-none x (l ++ m) e)
  in-turn (beyond m p q) =
      record {
        served = a.served ++ a.left;
        left = [];
        new = queue u (core_queue level);
        before = a.before ∙ sym (append-nil (a.served ++ a.left));
        after = refl;
        got = λ k c l. inr (inr refl);
      }

course-on : {o s t u : State} → Course o s t → Course o t u → Course o s u
course-on a here = a
course-on a (b next c) = course-on a b next c

pub then_turns : {o s t u : State} → Turns o s t → Turns o t u → Turns o s u
then_turns {o} {s} {t} {u} a b =
    record {
      directory = b.directory ∙ a.directory;
      course = course-on a.course b.course;
      turn = λ level lo hi. in-turn b.directory (a.turn level lo hi) (b.turn level lo hi) (joined b.directory (a.turn level lo hi) (b.turn level lo hi));
    }
