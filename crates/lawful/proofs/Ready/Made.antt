-- Making a task ready keeps the rules: from 'k in hand' to 'k in its place', in each of the three cases. And what it leaves as it was.
use mathlib.Core.Bool.{Bool, true, false, cond, not, ◌||◌, true≢false}
use mathlib.Core.Path.{◌≡◌, refl, sym, ap, ap₂, ◌∙◌}
use mathlib.Core.Logic.{◌≢◌, ⊎_elim}
use mathlib.Core.List.{List, [], ◌∷◌, ◌++◌}
use Prim.Native.Nat.{ℕ, ◌≤◌}
use native.Mathlib.Omega.{arith}
use lib.ListN.{set, get_or}
use lib.Seq.{get_or-set_same, get_or-set_other}
use Rattle.threads.specs.Threads.{hd, count}
use Rattle.words.proofs.Truth.{tested}
use Rattle.words.specs.Words.{is_empty}
use Rattle.image.specs.Directory.{no_entry}
use Rattle.tables.specs.declared.Task.{Task}
use Rattle.tables.specs.State.{State, event_queue, core_queue, task_at, pool_at, queue, level_of, units_of, joining}
use Rattle.tables.specs.Blocks.{Free, Ready, InCore, no_task, moving}
use Rattle.pools.specs.Pools.{long_enough}
use Rattle.meaning.specs.Ready.{placed, start_for, fits, needs_core, given_run, readied, awaits_core, made_ready}
use Rattle.meaning.specs.Conditions.{enough}
use Rattle.meaning.specs.Rules.{queue_for}
use Rattle.lawful.specs.Shape.{place_of, Shape, InHand}
use Rattle.lawful.specs.Resting.{Asleep, Stuck}
use Rattle.lawful.proofs.Ready.Cases.{needs, needs-true}
use Rattle.lawful.proofs.Chained.Small.{none}
use Rattle.lawful.proofs.Chained.Framed.{Any, Framed, framed, readied-ready, awaits-ready, seats-ready}
use Rattle.lawful.proofs.Blocks.Sums.{field-kept}
use Rattle.lawful.proofs.Blocks.Shape.{held_place}
use Rattle.threads.proofs.Queues.{set-queue, set-others, count-last}
use Rattle.lawful.proofs.Blocks.Members.{level-best, level-worst}
use Rattle.lawful.proofs.Blocks.Cored.{grant, core-units}
use Rattle.lawful.proofs.Blocks.Fields.{plain-fields, waiting-fields}
use Rattle.lawful.proofs.Blocks.Enter.{hand-stands, enter-other}

-- ---- What getting ready touches: the block k, and a ready or core queue.
abbrev pub Lines : ℕ → Type 0
Lines q = (1 ≤ q) × (q ≤ 6)

abbrev pub Frame : State → State → ℕ → Type 0
Frame s s' k = Framed (λ y. y ≡ k) Lines s s'

pub record Made (s s' : State) (k : ℕ) (h : List ℕ) (e : ℕ) : Type 0 where
  pub shape : Shape s' h e
  pub frame : Frame s s' k
  pub stuck : (level : ℕ) → 1 ≤ level → level ≤ 3 → Stuck s level → Stuck s' level

-- ---- The rules of rest, where nothing that they read has changed.
pub stuck-same : {s s' : State} {level : ℕ} → queue s' (core_queue level) ≡ queue s (core_queue level) → pool_at s' level ≡ pool_at s level
    → ((y : ℕ) → units_of s' y ≡ units_of s y) → Stuck s level → Stuck s' level
stuck-same {s} {s'} {level} q p u g =
    record { stuck = λ k l e. rw (ap₂ long_enough p (u k)) (g.stuck k l (sym q ∙ e)) }

pub asleep-same : {s s' : State} {m : List ℕ} → queue s' event_queue ≡ queue s event_queue → s'.on ≡ s.on
    → ((y : ℕ) → 1 ≤ count y (queue s event_queue) → task_at s' y ≡ task_at s y) → Asleep s m → Asleep s' m
unfolding enough
asleep-same {s} {s'} {m} q o t g =
    record { asleep = λ y c n. let c' = rw q at c in rw (t y c', o) (g.asleep y c' n) }

needs-false : (s : State) (k : ℕ) → needs_core s k ≡ false → 1 ≤ units_of s k → (task_at s k).core ≡ 0 → ⊥
needs-false s k e a b = true≢false (sym (needs s k (λ z. omega (arith, a, z)) b) ∙ e)

-- ---- To the end of the ready queue, or of the core queue, of its level.
module _ {s : State} {k : ℕ} {h : List ℕ} {e : ℕ} (i : InHand s k h e) where
  hand-used : place_of s (k ∷ h) k ≢ Free
  hand-used z = omega (arith, z, held_place s h k)

  best : 1 ≤ level_of s k
  best = level-best i.shape i.some i.low hand-used

  worst : level_of s k ≤ 3
  worst = level-worst i.shape i.some i.low hand-used

  same_units : (q : ℕ) (m : List ℕ) (p : ℕ) (y : ℕ) → units_of (joining (placed s k p) q k) y ≡ units_of s y
  same_units q m p y =
      ap (λ (j : ℕ). (get_or s.directory.entries j no_entry).units)
      (field-kept (λ t. t.program) s.tasks k y _ no_task refl)

  pub ready : (1 ≤ units_of s k → (task_at s k).core ≡ 0 → ⊥) → Made s (readied s k) k h e
  unfolding readied queue_for
  ready n =
      record {
        shape =
            enter-other i (moving s.clock (task_at s k) Ready) (level_of s k) (queue s (level_of s k) ++ k ∷ []) (omega (arith, worst)) refl (λ y. count-last k y _) refl refl
            (plain-fields s.clock (hand-stands i).fields Ready (omega arith) (omega arith) (λ z. omega (arith, z)) (λ z. omega (arith, z)) n)
            (omega arith) (λ z. omega (arith, z, worst));
        frame = framed (readied-ready (λ y. y ≡ k) Any Lines s s k refl (omega (arith, best, worst)) none);
        stuck = λ level a b. stuck-same {s = s}
            (set-others s.queues (level_of s k) _ i.shape.sizes.queues (omega (arith, worst)) (core_queue level) (λ z. omega (arith, z, worst)))
            refl (same_units (level_of s k) [] Ready);
      }

  pub ready-core : (level : ℕ) → 1 ≤ level → level ≤ 3 → queue (readied s k) (core_queue level) ≡ queue s (core_queue level)
  unfolding readied
  ready-core level a b = set-others s.queues (level_of s k) _ i.shape.sizes.queues (omega (arith, worst)) (core_queue level) (λ z. omega (arith, z, worst))

  granted-core-queue : (level : ℕ) → queue (given_run s k) (core_queue level) ≡ queue s (core_queue level)
  unfolding given_run
  granted-core-queue level = refl

  pub awaits : needs_core s k ≡ true → (queue s (core_queue (level_of s k)) ≡ [] → fits s k ≡ false) → Made s (awaits_core s k) k h e
  unfolding awaits_core queue_for fits
  awaits n f =
      let c = needs-true s k n in
      let q = core_queue (level_of s k) in
      let m = queue s (core_queue (level_of s k)) ++ k ∷ [] in
      let nine = i.shape.sizes.queues in
      record {
        shape =
            enter-other i (moving s.clock (task_at s k) InCore) q m (omega (arith, worst)) refl (λ y. count-last k y _) refl refl
            (waiting-fields s.clock (hand-stands i).fields c.0 c.1) (omega arith) (λ z. omega (arith, z, worst));
        frame = framed (awaits-ready (λ y. y ≡ k) Any Lines s s k refl refl (omega (arith, best, worst)) none);
        stuck = λ level a b g.
            ⊎_elim
            (λ z. record { stuck = λ j l d. rw (same_units q [] InCore j) (first level z.1 g j l (queue s (core_queue (level_of s k))) refl (sym (set-queue s.queues q m nine (omega (arith, worst))) ∙ ap (λ (y : ℕ). get_or (set s.queues q m) (core_queue y) []) (sym z.1) ∙ d)) })
            (λ z. stuck-same {s = s} (set-others s.queues q m nine (omega (arith, worst)) (core_queue level) (λ y. z.1 (omega (arith, y)))) refl (same_units q [] InCore) g)
            (tested level (level_of s k));
      }
    where
      first : (level : ℕ) → level ≡ level_of s k → Stuck s level → (j : ℕ) (l m : List ℕ) → queue s (core_queue (level_of s k)) ≡ m → m ++ k ∷ [] ≡ j ∷ l
          → long_enough (pool_at s level) (units_of s j) ≡ false
      first level z g j l [] d c = let b : k ≡ j = ap hd c in rw (z, ← b) (f d)
      first level z g j l (a ∷ m) d c = let b : a ≡ j = ap hd c in rw (← b) (g.stuck a m (ap (λ (y : ℕ). queue s (core_queue y)) z ∙ d))

  pub granted-core : (task_at (given_run s k) k).core ≡ 1
  unfolding given_run
  granted-core = ap (λ (t : Task). t.core) (get_or-set_same s.tasks k _ no_task (omega (arith, i.shape.sizes.tasks, i.low)))

  -- a level whose pool is another's, or for which nobody waits
  granted-stuck : (level : ℕ) → (level ≡ level_of s k → queue s (core_queue level) ≡ []) → Stuck s level → Stuck (given_run s k) level
  unfolding given_run
  granted-stuck level f g =
      ⊎_elim
      (λ z. record { stuck = λ j l d. absurd (true≢false (ap is_empty (sym (f z.1) ∙ d))) })
      (λ z. stuck-same {s = s} refl (get_or-set_other s.pools (level_of s k) level _ 0 z.1) (core-units s k 1 (start_for s k) (level_of s k) 0) g)
      (tested level (level_of s k))

-- with core of its own, which is free, and on to the ready queue
pub record Seated (s s' : State) (k : ℕ) (h : List ℕ) (e : ℕ) : Type 0 where
  pub shape : Shape s' h e
  pub frame : Frame s s' k
  pub stuck : (level : ℕ) → 1 ≤ level → level ≤ 3 → (level ≡ level_of s k → queue s (core_queue level) ≡ []) → Stuck s level → Stuck s' level
  pub waiting : (level : ℕ) → 1 ≤ level → level ≤ 3 → queue s' (core_queue level) ≡ queue s (core_queue level)

module _ {s : State} {k : ℕ} {h : List ℕ} {e : ℕ} (i : InHand s k h e) where
  pub seats : needs_core s k ≡ true → fits s k ≡ true → Seated s (readied (given_run s k) k) k h e
  seats n f =
      let c = needs-true s k n in
      let g = grant i.shape i.some i.low (held_place s h k) c.0 c.1 f in
      let j : InHand (given_run s k) k h e = record { some = i.some; low = i.low; out = i.out; shape = g } in
      let r = ready j (λ a b. omega (arith, b, granted-core i)) in
      record {
        shape = r.shape;
        frame = framed (seats-ready (λ y. y ≡ k) Any Lines s s k refl (omega (arith, best i, worst i)) none);
        stuck = λ level a b d u. r.stuck level a b (granted-stuck i level d u);
        waiting = λ level a b. ready-core j level a b ∙ granted-core-queue i level;
      }

  -- ---- The law.
  pub made-ready : Made s (made_ready s k) k h e
  unfolding made_ready
  made-ready = go (needs_core s k) refl (queue s (core_queue (level_of s k))) refl (fits s k) refl
    where
      go : (b : Bool) → needs_core s k ≡ b → (l : List ℕ) → queue s (core_queue (level_of s k)) ≡ l → (c : Bool) → fits s k ≡ c
          → Made s (cond b (cond (not (is_empty l) || not c) (awaits_core s k) (readied (given_run s k) k)) (readied s k)) k h e
      go false n l q c f = ready i (needs-false s k n)
      go true n [] q false f = awaits i n (λ z. f)
      go true n [] q true f =
          let r = seats n f in
          record { shape = r.shape; frame = r.frame; stuck = λ level a b g. r.stuck level a b (λ z. rw z q) g }
      go true n (a ∷ l) q c f = awaits i n (λ z. absurd (true≢false (ap is_empty (sym z ∙ q))))
