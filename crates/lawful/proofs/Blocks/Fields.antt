-- The rules of one task block, along each of its changes: it is taken in hand, put in a place, given core or made to give it back, unlinked, made, freed.
-- Each says what is left to show of the new block; what it keeps it has from the old.
use mathlib.Core.Bool.{Bool, true, false, cond}
use mathlib.Core.Path.{◌≡◌, refl, ap}
use mathlib.Core.Logic.{◌≢◌, ◌⊎◌, inl, ⊎_elim}
use Prim.Native.Nat.{ℕ, ◌+◌, ◌≤◌, ◌<◌}
use native.Mathlib.Omega.{arith}
use lib.Bits.{bit_and}
use lib.Dec.{eqb}
use Rattle.words.specs.Words.{◌among◌, size}
use Rattle.image.specs.declared.Directory.{Directory}
use Rattle.tables.specs.declared.Task.{Task}
use Rattle.tables.specs.Blocks.{Free, waits_in, since_in, Running, Ready, InCore, InEvent, InTime, InLink, InCheck, Ending, no_task, new_task, moving, awaiting_events, awaiting_time, awaiting_request, with_parent, with_core, task_blocks}
use Rattle.tables.proofs.Readings.{since-again}
use Rattle.lawful.specs.Shape.{Hand, module_of, cleared, Fields}

-- x is the task t, in another place: it keeps what every move keeps
abbrev pub SameTask : Task → Task → Type 0
SameTask t x = moving 0 x Free ≡ moving 0 t Free

-- ---- Into the hand.
pub held-fields : {d : Directory} {p : ℕ} {t : Task} → Fields d p t → p ≢ Free → Fields d Hand t
held-fields f n =
    record {
      place = f.place;
      free = λ z. absurd (omega (arith, z));
      program = λ z. f.program n;
      parent = f.parent;
      core = f.core;
      inside = f.inside;
      start = f.start;
      unneeded = f.unneeded;
      waits = λ z. absurd (omega (arith, z));
      needs = λ a b. omega arith;
      clear = λ z. absurd (z refl);
      passes = λ z. absurd (omega (arith, z));
    }

-- ---- From the hand into a place: what the place asks.
pub record Asked (d : Directory) (x : Task) : Type 0 where
  pub used : 1 ≤ x.place
  pub place : x.place ≤ 8
  pub waits : x.place ≡ InCore → (1 ≤ (module_of d x).units) × (x.core ≡ 0)
  pub needs : 1 ≤ (module_of d x).units → x.core ≡ 0 → (x.place ≢ Running) × (x.place ≢ Ready) × (x.place ≢ InLink) × (x.place ≢ InCheck) × (x.place ≢ Ending)
  pub clear : x ≡ cleared x.place x
  pub passes : x.place ≡ InEvent → (bit_and x.events d.defined ≡ x.events) × (1 ≤ x.count) × (x.count ≤ size x.events)

pub put-fields : {d : Directory} {t x : Task} → Fields d Hand t → SameTask t x → Asked d x → Fields d x.place x
put-fields {d} {t} {x} f e q =
    let m : x.program ≡ t.program = ap (λ (y : Task). y.program) e in
    let c : x.core ≡ t.core = ap (λ (y : Task). y.core) e in
    let a : x.start ≡ t.start = ap (λ (y : Task). y.start) e in
    record {
      place = q.place;
      free = λ z. absurd (omega (arith, z, q.used));
      program = λ z. rw m (f.program (λ i. omega (arith, i)));
      parent = rw (ap (λ (y : Task). y.parent) e) f.parent;
      core = rw c f.core;
      inside = rw (c, a, m) f.inside;
      start = rw (c, a) f.start;
      unneeded = rw (c, m) f.unneeded;
      waits = q.waits;
      needs = q.needs;
      clear = λ z. q.clear;
      passes = q.passes;
    }

-- a block that was put into a place: what has no meaning there is zero, and its reading would be set to what it is
no-meaning : (b : Bool) → ◌≡◌ {A = ℕ} (cond b 0 0) 0
no-meaning true = refl
no-meaning false = refl

moved-clear : (now : ℕ) (t : Task) (p : ℕ) → moving now t p ≡ cleared p (moving now t p)
moved-clear now t p = rw (since-again now p, no-meaning (eqb p InEvent), no-meaning (eqb p InTime), no-meaning (eqb p InCheck))

-- into a place of no fields of its own, which asks that the task has its core, or of no queue but the core queue
module _ {d : Directory} {t : Task} (now : ℕ) (f : Fields d Hand t) where
  pub plain-fields : (p : ℕ) → 1 ≤ p → p ≤ 8 → p ≢ InCore → p ≢ InEvent → (1 ≤ (module_of d t).units → t.core ≡ 0 → ⊥)
      → Fields d p (moving now t p)
  plain-fields p a b c v n =
      put-fields f refl (record {
        used = a;
        place = b;
        waits = λ z. absurd (c z);
        needs = λ i j. absurd (n i j);
        clear = moved-clear now t p;
        passes = λ z. absurd (v z);
      })

  pub waiting-fields : 1 ≤ (module_of d t).units → t.core ≡ 0 → Fields d InCore (moving now t InCore)
  waiting-fields n c =
      put-fields f refl (record {
        used = omega arith;
        place = omega arith;
        waits = λ z. (n, c);
        needs = λ i j. omega arith;
        clear = moved-clear now t InCore;
        passes = λ z. absurd (omega (arith, z));
      })

  -- into a place with a condition of its own
  pub event-fields : {n v : ℕ} → (bit_and v d.defined ≡ v) × (1 ≤ n) × (n ≤ size v) → Fields d InEvent (awaiting_events now t n v)
  event-fields p =
      put-fields f refl (record {
        used = omega arith;
        place = omega arith;
        waits = λ z. absurd (omega (arith, z));
        needs = λ i j. omega arith;
        clear = rw (since-again now InEvent);
        passes = λ z. p;
      })

  pub time-fields : {x : ℕ} → Fields d InTime (awaiting_time now t x)
  time-fields =
      put-fields f refl (record {
        used = omega arith;
        place = omega arith;
        waits = λ z. absurd (omega (arith, z));
        needs = λ i j. omega arith;
        clear = rw (since-again now InTime);
        passes = λ z. absurd (omega (arith, z));
      })

  pub check-fields : (r : ℕ) → (1 ≤ (module_of d t).units → t.core ≡ 0 → ⊥) → Fields d InCheck (awaiting_request now t r)
  check-fields r n =
      put-fields f refl (record {
        used = omega arith;
        place = omega arith;
        waits = λ z. absurd (omega (arith, z));
        needs = λ i j. absurd (n i j);
        clear = rw (since-again now InCheck);
        passes = λ z. absurd (omega (arith, z));
      })

module _ {d : Directory} {p : ℕ} {t : Task} (f : Fields d p t) where
  -- ---- Core is granted, or given back.
  pub cored-fields : {c a : ℕ} → p ≢ Free → p ≢ InCore → 1 ≤ (module_of d t).units → (1 ≤ c) × (c ≤ 2) → (c ≡ 1 → a + (module_of d t).units ≤ 64) → (c ≢ 1 → a ≡ 0)
      → Fields d p (with_core t c a)
  cored-fields {c} {a} used apart units either inside start =
      record {
        place = f.place;
        free = λ z. absurd (used z);
        program = f.program;
        parent = f.parent;
        core = either.1;
        inside = inside;
        start = start;
        unneeded = λ z. absurd (omega (arith, z, units));
        waits = λ z. absurd (apart z);
        needs = λ x y. absurd (omega (arith, y, either));
        clear = λ z. ap (λ (y : Task). with_core y c a) (f.clear z);
        passes = f.passes;
      }

  -- ---- The link is lost.
  pub lone-fields : Fields d p (with_parent t 0)
  lone-fields =
      record {
        place = f.place;
        free = λ z. ap (λ (y : Task). with_parent y 0) (f.free z);
        program = f.program;
        parent = omega arith;
        core = f.core;
        inside = f.inside;
        start = f.start;
        unneeded = f.unneeded;
        waits = f.waits;
        needs = f.needs;
        clear = λ z. ap (λ (y : Task). with_parent y 0) (f.clear z);
        passes = f.passes;
      }

-- ---- A block with no core and no condition, of the module m and the parent q: it may be free, where it is zero, or in hand.
new-clear : (m q : ℕ) → new_task m q ≡ cleared Free (new_task m q)
unfolding since_in waits_in ◌among◌
new-clear m q = refl

pub new-fields : (d : Directory) {p m q : ℕ} → (p ≡ Free) ⊎ (p ≡ Hand) → (p ≡ Free → new_task m q ≡ no_task) → (p ≢ Free → m < d.modules) → q ≤ task_blocks → Fields d p (new_task m q)
new-fields d {p} {m} {q} either zero known parent =
    let other : (n : ℕ) → 1 ≤ n → n ≤ 8 → p ≢ n = λ n a b z. ⊎_elim (λ e. omega (arith, e, z)) (λ e. omega (arith, e, z)) either in
    record {
      place = omega arith;
      free = zero;
      program = known;
      parent = parent;
      core = omega arith;
      inside = λ z. absurd (omega (arith, z));
      start = λ z. refl;
      unneeded = λ z. refl;
      waits = λ z. absurd (other InCore (omega arith) (omega arith) z);
      needs = λ i j. (other Running (omega arith) (omega arith), other Ready (omega arith) (omega arith), other InLink (omega arith) (omega arith), other InCheck (omega arith) (omega arith), other Ending (omega arith) (omega arith));
      clear = λ n. ⊎_elim (λ e. rw e (new-clear m q)) (λ e. absurd (n e)) either;
      passes = λ z. absurd (other InEvent (omega arith) (omega arith) z);
    }

-- a block that is zero is free
pub free-fields : (d : Directory) → Fields d Free no_task
free-fields d = new-fields d (inl refl) (λ z. refl) (λ z. absurd (z refl)) (omega arith)
