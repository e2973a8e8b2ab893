-- Document 02, E8, of tables that keep the rules: a task that holds a run after a call held it before, or was given it at a moment of the call, from the start that the rule
-- gives in the state of that moment. By the course of core, which Overtakes follows through each call; and what that start is, by the laws of each rule. And that the rule does
-- not say who waits.
use mathlib.Core.Bool.{Bool, true, false, not, ◌||◌, cond}
use mathlib.Core.Path.{◌≡◌, refl, sym, ap, ap₂, ◌∙◌}
use mathlib.Core.Logic.{◌⊎◌, inl, inr, ⊎_elim}
use mathlib.Core.List.{List, ◌∷◌, [], ◌++◌}
use Prim.Native.Nat.{ℕ, ◌<◌}
use native.Mathlib.Omega.{arith}
use lib.ListN.{set, get_or}
use lib.Dec.{ltb}
use Rattle.words.specs.Rows.{first_of}
use Rattle.words.specs.Words.{is_empty}
use Rattle.image.specs.declared.Directory.{Directory}
use Rattle.image.specs.declared.Entry.{Entry}
use Rattle.image.specs.Directory.{no_entry}
use Rattle.pools.specs.Pools.{shortest, smallest_hole, lowest_start, LowestStart, SmallestHole, start_of}
use Rattle.pools.proofs.Holes.{shortest-long}
use Rattle.pools.proofs.Rules.{lowest-free, lowest-before, smallest-hole, smallest-first}
use Rattle.pools.proofs.Starts.{start-lowest, start-smallest, start-given, given-where}
use Rattle.tables.specs.declared.Task.{Task}
use Rattle.tables.specs.declared.Tables.{Tables}
use Rattle.tables.specs.Blocks.{HoldsRun, GaveBack, no_task, with_core}
use Rattle.tables.specs.State.{State, ready_queue, core_queue, task_at, pool_at, queue, entry_for, level_of, units_of, read}
use Rattle.calls.specs.Calls.{call_of}
use Rattle.meaning.specs.Ready.{fits, start_for, needs_core, given_run, readied, awaits_core, made_ready}
use Rattle.meaning.specs.Refusals.{refusals}
use Rattle.meaning.specs.Step.{accepted, step_of}
use Rattle.lawful.specs.Tables.{LawfulTables}
use Rattle.lawful.specs.Granted.{SmallestFirst, LowestFirst, by_rule, KeepsRun, Change, grants, returns, other, Course, here, ◌next◌, Granted, NewRun, GrantsSmallest, GrantsLowest}
use Rattle.lawful.proofs.Ready.Cases.{needs-true}
use Rattle.lawful.proofs.Chained.Views.{set_at}
use Rattle.lawful.proofs.Chained.Framed.{given-level}
use Rattle.lawful.proofs.Tested.Accepted.{accepts, rows_left}
use Rattle.lawful.proofs.Each.Keeps.{keeps}
use Rattle.lawful.proofs.Told.Ends.{step-ends, refused-leaves}
use Rattle.lawful.proofs.Told.Steps.{read-tabled}
use Rattle.lawful.proofs.Told.Overtakes.{none-overtakes}

-- ---- One change, of a task that holds a run after it: it held it, or this is the grant.
as_it_was : {s t : State} {k : ℕ} → task_at t k ≡ task_at s k → (task_at t k).core ≡ HoldsRun → KeepsRun s t k
as_it_was e h =
    record { held = sym (ap (λ (x : Task). x.core) e) ∙ h; holds = h; program = ap (λ (x : Task). x.program) e; start = ap (λ (x : Task). x.start) e }

module _ {o s : State} (c : Course o o s) (k : ℕ) where
  given-now : (j : ℕ) → needs_core s j ≡ true → fits s j ≡ true → (task_at (given_run s j) k).core ≡ HoldsRun → KeepsRun s (given_run s j) k ⊎ Granted o (given_run s j) k
  unfolding given_run
  given-now j n f h =
      ⊎_elim (λ e. inl (as_it_was e h)) (λ e. inr (now e.0 e.1)) (set_at (with_core (task_at s j) HoldsRun (start_for s j)) no_task s.tasks j k)
    where
      now : k ≡ j → task_at (given_run s j) k ≡ with_core (task_at s j) HoldsRun (start_for s j) → Granted o (given_run s j) k
      now z e =
          record {
            moment = s;
            before = c;
            needs = ap (needs_core s) z ∙ n;
            long = ap (fits s) z ∙ f;
            after = rw z here;
            program = ap (λ (x : Task). x.program) e ∙ ap (λ (i : ℕ). (task_at s i).program) (sym z);
            start = ap (λ (x : Task). x.start) e ∙ ap (start_for s) (sym z);
          }

  by-change : {t : State} → Change o s t → (task_at t k).core ≡ HoldsRun → KeepsRun s t k ⊎ Granted o t k
  by-change (grants j n f) h = given-now j n f h
  by-change (returns j r) h =
      ⊎_elim (λ e. inl (as_it_was e h)) (λ e. absurd (omega (arith, ap (λ (x : Task). x.core) e.1, h))) (set_at (with_core (task_at s j) GaveBack 0) no_task s.tasks j k)
  by-change (other e) h = inl (e.kept k (e.only k h))

-- ---- A course of them: it held the run at the beginning, or was given it on the way.
whence : {o t : State} → Course o o t → (k : ℕ) → (task_at t k).core ≡ HoldsRun → KeepsRun o t k ⊎ Granted o t k
whence here k h = inl (as_it_was refl h)
whence (◌next◌ {t} {u} c p) k h =
    ⊎_elim
    (λ r.
    ⊎_elim (λ b. inl (record { held = b.held; holds = h; program = r.program ∙ b.program; start = r.start ∙ b.start }))
    (λ g.
    inr (record {
      moment = g.moment;
      before = g.before;
      needs = g.needs;
      long = g.long;
      after = g.after next p;
      program = r.program ∙ g.program;
      start = r.start ∙ g.start;
    })) (whence c k r.held))
    (λ g. inr g) (by-change c k p h)

-- no change is one of the directory or of the rule
change-directory : {o s t : State} → Change o s t → t.directory ≡ s.directory
unfolding given_run
change-directory (grants k n f) = refl
change-directory (returns k r) = refl
change-directory (other e) = e.directory

change-holes : {o s t : State} → Change o s t → t.holes ≡ s.holes
unfolding given_run
change-holes (grants k n f) = refl
change-holes (returns k r) = refl
change-holes (other e) = e.holes

course-directory : {o s t : State} → Course o s t → t.directory ≡ s.directory
course-directory here = refl
course-directory (c next p) = change-directory p ∙ course-directory c

course-holes : {o s t : State} → Course o s t → t.holes ≡ s.holes
course-holes here = refl
course-holes (c next p) = change-holes p ∙ course-holes c

module _ {o t : State} {k : ℕ} (g : Granted o t k) where
  moment-holes : g.moment.holes ≡ o.holes
  moment-holes = course-holes g.before

  -- the level and the units are those of the task, at the moment and after
  given-directory : t.directory ≡ g.moment.directory
  unfolding given_run
  given-directory = course-directory g.after

  moment-entry : entry_for t k ≡ entry_for g.moment k
  moment-entry = ap₂ (λ (d : Directory) (m : ℕ). get_or d.entries m no_entry) given-directory g.program

  moment-level : level_of t k ≡ level_of g.moment k
  moment-level = ap (λ (x : Entry). x.level) moment-entry

  moment-units : units_of t k ≡ units_of g.moment k
  moment-units = ap (λ (x : Entry). x.units) moment-entry

-- ---- What the start is, by each rule.
module _ (s : State) (k : ℕ) (n : needs_core s k ≡ true) (f : fits s k ≡ true) where
  abbrev pool : ℕ
  pool = pool_at s (level_of s k)

  given : start_for s k < 64
  unfolding fits start_for
  given = start-given _ pool (units_of s k) f

  takes-smallest : s.holes ≡ SmallestHole → SmallestFirst pool (units_of s k) (start_for s k)
  unfolding start_for
  takes-smallest e =
      let some = (needs-true s k n).0 in
      let b : start_for s k ≡ smallest_hole pool (units_of s k) = start-smallest s.holes pool (units_of s k) (λ z. omega (arith, z, e)) in
      rw b (record {
        units = shortest pool (units_of s k);
        enough = shortest-long pool (units_of s k);
        hole = smallest-hole pool (units_of s k) some (omega (arith, b, given));
        first = smallest-first pool (units_of s k) some;
      })

  takes-lowest : s.holes ≡ LowestStart → LowestFirst pool (units_of s k) (start_for s k)
  unfolding start_for
  takes-lowest e =
      let b : start_for s k ≡ lowest_start pool (units_of s k) = start-lowest s.holes pool (units_of s k) e in
      rw b (record { enough = lowest-free pool (units_of s k) (omega (arith, b, given)); first = lowest-before pool (units_of s k) })

-- ---- A grant in a call, by each rule: the pool is that of the moment, the level and the units are the task's.
module _ {o t : State} {k : ℕ} (g : Granted o t k) where
  granted-smallest : o.holes ≡ SmallestHole → SmallestFirst (pool_at g.moment (level_of t k)) (units_of t k) (task_at t k).start
  granted-smallest e =
      rw (g.start, moment-level g, moment-units g) (takes-smallest g.moment k g.needs g.long (moment-holes g ∙ e))

  granted-lowest : o.holes ≡ LowestStart → LowestFirst (pool_at g.moment (level_of t k)) (units_of t k) (task_at t k).start
  granted-lowest e =
      rw (g.start, moment-level g, moment-units g) (takes-lowest g.moment k g.needs g.long (moment-holes g ∙ e))

-- ---- One step.
module _ (t : Tables) (bytes : List ℕ) (g : LawfulTables t) where
  pub step-course : Course (read t) (read t) (read (step_of t bytes).tables)
  unfolding accepted
  step-course =
      ⊎_elim (λ z. rw (z.1, refused-leaves t (first_of (refusals t bytes))) here)
      (λ z.
      let a = accepts (read t) (call_of bytes) (rows_left t bytes z.0).rows g.state in
      rw (z.1, read-tabled (keeps g.state a)) (none-overtakes g.state a).course)
      (step-ends t bytes)

  step-granted : (k : ℕ) → NewRun (read t) (read (step_of t bytes).tables) k → Granted (read t) (read (step_of t bytes).tables) k
  step-granted k n = ⊎_elim (λ r. absurd (n.1 r)) (λ r. r) (whence step-course k n.0)

  pub step-smallest : t.holes ≡ SmallestHole → GrantsSmallest (read t) (read (step_of t bytes).tables)
  step-smallest e k n = let r = step-granted k n in (r, granted-smallest r e)

  pub step-lowest : t.holes ≡ LowestStart → GrantsLowest (read t) (read (step_of t bytes).tables)
  step-lowest e k n = let r = step-granted k n in (r, granted-lowest r e)

-- ---- Who waits: the rule does not say it.
pub same-given : (holes others granted n : ℕ) → ltb (start_of holes granted n) 64 ≡ ltb (start_of others granted n) 64
same-given holes others granted n = sym (given-where holes granted n) ∙ given-where others granted n

module _ (holes : ℕ) (s : State) (k : ℕ) where
  pub same-fits : fits (by_rule holes s) k ≡ fits s k
  unfolding fits
  same-fits = refl

  -- whoever is made ready goes to the same queue
  pub same-queues : (made_ready (by_rule holes s) k).queues ≡ (made_ready s k).queues
  unfolding made_ready needs_core fits awaits_core readied given_run
  same-queues = go (needs_core s k) (not (is_empty (queue s (core_queue (level_of s k)))) || not (fits s k))
    where
      seated : (readied (given_run (by_rule holes s) k) k).queues ≡ (readied (given_run s k) k).queues
      seated = ap (λ (l : ℕ). set s.queues (ready_queue l) (queue s (ready_queue l) ++ k ∷ [])) (given-level (by_rule holes s) k ∙ sym (given-level s k))

      go : (b c : Bool)
          → (cond b (cond c (awaits_core (by_rule holes s) k) (readied (given_run (by_rule holes s) k) k)) (readied (by_rule holes s) k)).queues
          ≡ (cond b (cond c (awaits_core s k) (readied (given_run s k) k)) (readied s k)).queues
      go true true = refl
      go true false = seated
      go false c = refl
