-- The tests of one task block, and its `Fields`: each test is one field, and back.
use mathlib.Core.Bool.{Bool, true, false, cond, not, ◌&&◌, ◌||◌, true≢false}
use mathlib.Core.Path.{◌≡◌, refl, sym, ap, ◌∙◌}
use mathlib.Core.Logic.{◌≢◌}
use Prim.Native.Nat.{ℕ, ◌+◌, ◌≤◌}
use native.Mathlib.Omega.{arith}
use lib.Bits.{bit_and}
use lib.Dec.{eqb, leb, ltb}
use borrow.Author.Tests.{eqb-true, eq-eqb, ne_eqb, leb-true, le-leb, ltb-true, lt-ltb}
use Rattle.words.specs.Words.{◌implies◌, size}
use Rattle.tables.specs.declared.Task.{Task}
use Rattle.tables.specs.Blocks.{Free, InCore, InEvent, InTime, InCheck, waits_in, since_in, request_blocks}
use Rattle.tables.specs.State.{State, task_at, units_of}
use Rattle.meaning.specs.Ready.{needs_core}
use Rattle.meaning.specs.Rules.{blank_task}
use Rattle.meaning.proofs.Parts.{task_range, task_clear, task-range, task-in-range, task-clear, clear-task}
use Rattle.lawful.specs.Shape.{cleared, Fields}
use Rattle.words.proofs.Truth.{both, and-of, implied, of-implied, not-eq, unlike, one_of_three}
use Rattle.lawful.proofs.Ready.Cases.{needs, needs-true}
use Rattle.meaning.proofs.Blanks.{task-blank, of-task-blank}

-- "core waiters still need core, and besides them only event and time waiters may", of one block
abbrev pub needed_at : State → ℕ → Bool
needed_at s k =
    let p = (task_at s k).place in
    (eqb p InCore implies needs_core s k) && ((not (eqb p Free) && needs_core s k) implies (eqb p InCore || eqb p InEvent || eqb p InTime))

-- "event waiters pass 13 and 14", of one block
pub record Passes (s : State) (k : ℕ) : Type 0 where
  pub events : bit_and (task_at s k).events s.directory.defined ≡ (task_at s k).events
  pub some : 1 ≤ (task_at s k).count
  pub most : (task_at s k).count ≤ size (task_at s k).events

-- ---- A number that is zero where a test fails.
meant : (b : Bool) (n : ℕ) → (not b implies eqb n 0) ≡ true → n ≡ cond b n 0
meant true n e = refl
meant false n e = eqb-true n 0 e

of-meant : (b : Bool) (n : ℕ) → n ≡ cond b n 0 → (not b implies eqb n 0) ≡ true
of-meant true n e = refl
of-meant false n e = eq-eqb n 0 e

meant-both : (b : Bool) (m n : ℕ) → (not b implies (eqb m 0 && eqb n 0)) ≡ true → (m ≡ cond b m 0) × (n ≡ cond b n 0)
meant-both true m n e = (refl, refl)
meant-both false m n e = let w = both (eqb m 0) (eqb n 0) e in (eqb-true m 0 w.0, eqb-true n 0 w.1)

of-meant-both : (b : Bool) (m n : ℕ) → m ≡ cond b m 0 → n ≡ cond b n 0 → (not b implies (eqb m 0 && eqb n 0)) ≡ true
of-meant-both true m n e f = refl
of-meant-both false m n e f = and-of _ _ (eq-eqb m 0 e) (eq-eqb n 0 f)

-- ---- The tests, and what they give.
module _ (s : State) (k : ℕ) (r : task_range s k ≡ true) (c : task_clear s k ≡ true) (n : needed_at s k ≡ true) (v : (task_at s k).place ≡ InEvent → Passes s k) where
  -- a task that still needs core is in a place where it may
  only : 1 ≤ units_of s k → (task_at s k).core ≡ 0 → (q : ℕ) → q ≢ 0 → (eqb q InCore || eqb q InEvent || eqb q InTime) ≡ false → (task_at s k).place ≢ q
  only x y q d f z =
      let p = (task_at s k).place in
      let m = both (eqb p InCore implies needs_core s k) ((not (eqb p Free) && needs_core s k) implies (eqb p InCore || eqb p InEvent || eqb p InTime)) n in
      let w = implied (not (eqb p Free) && needs_core s k) (eqb p InCore || eqb p InEvent || eqb p InTime) m.1
      (and-of _ _ (not-eq p Free (λ i. d (sym z ∙ i))) (needs s k (λ i. omega (arith, x, i)) y)) in
      true≢false (sym w ∙ ap (λ (x : ℕ). eqb x InCore || eqb x InEvent || eqb x InTime) z ∙ f)

  pub fields-of : Fields s.directory (task_at s k).place (task_at s k)
  unfolding since_in
  fields-of =
      let t = task_at s k in
      let i = task-range s.directory.modules (units_of s k) t r in
      let w = task-clear (units_of s k) t c in
      let e = meant-both (eqb t.place InEvent) t.count t.events w.event in
      let m = both (eqb t.place InCore implies needs_core s k) _ n in
      record {
        place = leb-true _ _ i.place;
        free = λ z. task-blank t (implied (eqb t.place Free) (blank_task t) w.free (eq-eqb _ _ z));
        program = λ z. ltb-true _ _ (implied (not (eqb t.place Free)) (ltb t.program s.directory.modules) i.program (not-eq _ _ z));
        parent = leb-true _ _ i.parent;
        core = leb-true _ _ i.core;
        inside = λ z. leb-true _ _ (implied (eqb t.core 1) (leb (t.start + units_of s k) 64) i.run (eq-eqb _ _ z));
        start = λ z. eqb-true t.start 0 (implied (not (eqb t.core 1)) (eqb t.start 0) w.start (not-eq _ _ z));
        unneeded = λ z. eqb-true t.core 0 (implied (eqb (units_of s k) 0) (eqb t.core 0) w.core (eq-eqb _ _ z));
        waits = λ z. needs-true s k (implied (eqb t.place InCore) (needs_core s k) m.0 (eq-eqb _ _ z));
        needs = λ x y. let o = only x y in (o 1 (λ z. omega (arith, z)) refl, o 2 (λ z. omega (arith, z)) refl, o 6 (λ z. omega (arith, z)) refl, o 7 (λ z. omega (arith, z)) refl, o 8 (λ z. omega (arith, z)) refl);
        clear = λ n j. record {
          place = t.place;
          program = t.program;
          parent = t.parent;
          core = t.core;
          start = t.start;
          count = e.0 j;
          events = e.1 j;
          time = meant (eqb t.place InTime) t.time w.time j;
          since = meant (waits_in t.place) t.since w.since j;
          request = meant (eqb t.place InCheck) t.request w.request j;
        };
        passes = λ z. ((v z).events, (v z).some, (v z).most);
      }

-- ---- And back.

lowest-three : (p : ℕ) → p ≢ 0 → p ≢ 1 → p ≢ 2 → 3 ≤ p
lowest-three p a b c = omega arith

highest-five : (p : ℕ) → p ≤ 8 → p ≢ 6 → p ≢ 7 → p ≢ 8 → p ≤ 5
highest-five p h a b c = omega arith

module _ (s : State) (k : ℕ) (f : Fields s.directory (task_at s k).place (task_at s k)) where
  pub of_range : (task_at s k).request ≤ request_blocks → task_range s k ≡ true
  of_range q =
      let t = task_at s k in
      task-in-range s.directory.modules (units_of s k) t (record {
        place = le-leb t.place 8 f.place;
        parent = le-leb t.parent 24 f.parent;
        core = le-leb t.core 2 f.core;
        request = le-leb t.request 16 q;
        program = of-implied (not (eqb t.place Free)) (ltb t.program s.directory.modules) (λ z. lt-ltb _ _ (f.program (unlike _ _ z)));
        run = of-implied (eqb t.core 1) (leb (t.start + units_of s k) 64) (λ z. le-leb _ _ (f.inside (eqb-true _ _ z)));
      })

  clear_of : task_at s k ≡ cleared (task_at s k).place (task_at s k)
  clear_of = f.clear (λ z. omega (arith, f.place, z))

  pub no-request : (task_at s k).place ≢ InCheck → (task_at s k).request ≡ 0
  no-request n = ap (λ (t : Task). t.request) clear_of ∙ ap (λ (b : Bool). cond b (task_at s k).request 0) (ne_eqb _ InCheck n)

  pub of-clear : task_clear s k ≡ true
  unfolding since_in
  of-clear =
      let t = task_at s k in
      clear-task (units_of s k) t (record {
        free = of-implied (eqb t.place Free) _ (λ z. of-task-blank (f.free (eqb-true _ _ z)));
        core = of-implied (eqb (units_of s k) 0) (eqb t.core 0) (λ z. eq-eqb _ 0 (f.unneeded (eqb-true _ _ z)));
        start = of-implied (not (eqb t.core 1)) (eqb t.start 0) (λ z. eq-eqb _ 0 (f.start (unlike _ _ z)));
        event = of-meant-both (eqb t.place InEvent) t.count t.events (ap (λ (x : Task). x.count) clear_of) (ap (λ (x : Task). x.events) clear_of);
        time = of-meant (eqb t.place InTime) t.time (ap (λ (x : Task). x.time) clear_of);
        request = of-meant (eqb t.place InCheck) t.request (ap (λ (x : Task). x.request) clear_of);
        since = of-meant (waits_in t.place) t.since (ap (λ (x : Task). x.since) clear_of);
      })

  -- by the places that are left
  may : (p : ℕ) → p ≤ 8 → p ≢ Free → (p ≢ 1) × (p ≢ 2) × (p ≢ 6) × (p ≢ 7) × (p ≢ 8) → (eqb p InCore || eqb p InEvent || eqb p InTime) ≡ true
  may p b a n =
      let low : 3 ≤ p = lowest-three p a n.0 n.1 in
      let high : p ≤ 5 = highest-five p b n.2 n.3 n.4 in
      one_of_three p InCore InEvent InTime (λ x y. omega (arith, low, high, x, y))

  pub of-needed : needed_at s k ≡ true
  of-needed =
      let p = (task_at s k).place in
      and-of _ _
      (of-implied (eqb p InCore) (needs_core s k) (λ z. let w = f.waits (eqb-true _ _ z) in needs s k (λ i. omega (arith, i, w.0)) w.1))
      (of-implied (not (eqb p Free) && needs_core s k) (eqb p InCore || eqb p InEvent || eqb p InTime)
      (λ z. let w = both (not (eqb p Free)) (needs_core s k) z in let c = needs-true s k w.1 in may p f.place (unlike _ _ w.0) (f.needs c.0 c.1)))
