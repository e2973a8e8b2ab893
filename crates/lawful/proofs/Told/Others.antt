-- What an abort leaves of the tasks that it does not take: each stays where it is, or is given the core that it waits for and is ready. By the definitions, one after the other; no rule
-- of the tables is asked.
use mathlib.Core.Bool.{Bool, true, false, ◌&&◌}
use mathlib.Core.Path.{◌≡◌, refl, sym, ap, ◌∙◌}
use mathlib.Core.Logic.{◌≢◌, ◌⊎◌, inl, inr, ⊎_elim}
use mathlib.Core.List.{List, [], ◌∷◌}
use Prim.Native.Nat.{ℕ, ◌-◌}
use lib.Dec.{eqb}
use Rattle.threads.specs.Threads.{count}
use Rattle.threads.proofs.Lists.{absent-head}
use Rattle.words.specs.Words.{if◌then◌else◌, one_to, each}
use Rattle.pools.specs.Pools.{run}
use Rattle.tables.specs.declared.Task.{Task}
use Rattle.tables.specs.Blocks.{Ready, Ending, Done, HoldsRun, GaveBack, no_task, with_core, request_blocks}
use Rattle.tables.specs.State.{State, core_queue, with_pool, with_task, task_at, request_at, pool_at, queue, level_of, units_of, leaving}
use Rattle.meaning.specs.Ready.{placed, fits, given_run, readied, seated, serving, served}
use Rattle.meaning.specs.Finish.{freed_task, freed_request, given_back, pending, freed_if_done, freed_done, parent_ready, finished, ended, unlinked}
use Rattle.lawful.specs.Reached.{taken}
use Rattle.lawful.proofs.Chained.Views.{set_at, set_own}

-- ---- Every task stays in its place or becomes ready, and keeps its parent.
pub record Calm (s t : State) : Type 0 where
  pub place : (y : ℕ) → ((task_at t y).place ≡ (task_at s y).place) ⊎ ((task_at t y).place ≡ Ready)
  pub parent : (y : ℕ) → (task_at t y).parent ≡ (task_at s y).parent

calm-same : {s t : State} → ((y : ℕ) → task_at t y ≡ task_at s y) → Calm s t
calm-same f = record { place = λ y. inl (ap (λ (x : Task). x.place) (f y)); parent = λ y. ap (λ (x : Task). x.parent) (f y) }

calm-next : {s t u : State} → Calm s t → Calm t u → Calm s u
calm-next a b =
    record { place = λ y. ⊎_elim (λ i. ⊎_elim (λ j. inl (i ∙ j)) (λ j. inr (i ∙ j)) (a.place y)) (λ i. inr i) (b.place y); parent = λ y. b.parent y ∙ a.parent y }

-- one block changes
calm-task : (s : State) (k : ℕ) (x : Task) → (x.place ≡ (task_at s k).place) ⊎ (x.place ≡ Ready) → x.parent ≡ (task_at s k).parent → Calm s (with_task s k x)
calm-task s k x p q =
    record {
      place = λ y.
          ⊎_elim (λ e. inl (ap (λ (t : Task). t.place) e))
          (λ e. let w = ap (λ (t : Task). t.place) e.1 in ⊎_elim (λ i. inl (w ∙ i ∙ ap (λ (j : ℕ). (task_at s j).place) (sym e.0))) (λ i. inr (w ∙ i)) p) (set_at x no_task s.tasks k y);
      parent = λ y.
          ⊎_elim (λ e. ap (λ (t : Task). t.parent) e)
          (λ e. ap (λ (t : Task). t.parent) e.1 ∙ q ∙ ap (λ (j : ℕ). (task_at s j).parent) (sym e.0)) (set_at x no_task s.tasks k y);
    }

either : {s : State} (b : Bool) {x y : State} → Calm s x → Calm s y → Calm s (if b then x else y)
either true a c = a
either false a c = c

-- ---- Serving a core queue, giving core back, freeing requests.
calm-readied : (s : State) (k : ℕ) → Calm s (readied s k)
unfolding readied
calm-readied s k = let c = calm-task s k _ (inr refl) refl in record { place = c.place; parent = c.parent }

calm-given : (s : State) (k : ℕ) → Calm s (given_run s k)
unfolding given_run
calm-given s k = let c = calm-task s k _ (inl refl) refl in record { place = c.place; parent = c.parent }

calm-seated : (s : State) (q k : ℕ) → Calm s (seated s q k)
unfolding seated
calm-seated s q k =
    let l = leaving s q k in
    let a : Calm s l = calm-same (λ y. refl) in
    calm-next a (calm-next (calm-given l k) (calm-readied (given_run l k) k))

calm-serving : (q : ℕ) (l : List ℕ) (s : State) → Calm s (serving q l s)
unfolding serving
calm-serving q [] s = calm-same (λ y. refl)
calm-serving q (k ∷ l) s = either (fits s k) (calm-next (calm-seated s q k) (calm-serving q l (seated s q k))) (calm-same (λ y. refl))

calm-served : (s : State) (level : ℕ) → Calm s (served s level)
unfolding served
calm-served s level = calm-serving (core_queue level) (queue s (core_queue level)) s

calm-back : (s : State) (k : ℕ) → Calm s (given_back s k)
unfolding given_back
calm-back s k =
    let t = task_at s k in
    let c = calm-task s k (with_core t GaveBack 0) (inl refl) refl in
    let f = with_pool (with_task s k (with_core t GaveBack 0)) (level_of s k) (pool_at s (level_of s k) - run t.start (units_of s k)) in
    let a : Calm s f = record { place = c.place; parent = c.parent } in
    either (eqb t.core HoldsRun) (calm-next a (calm-served f (level_of s k))) (calm-same (λ y. refl))

calm_done : (k r : ℕ) (s : State) → Calm s (freed_if_done k r s)
unfolding freed_if_done freed_request
calm_done k r s = either (eqb (request_at s r).owner k && eqb (request_at s r).place Done) (calm-same (λ y. refl)) (calm-same (λ y. refl))

calm-each : (k : ℕ) (l : List ℕ) (s : State) → Calm s (each (freed_if_done k) l s)
unfolding each
calm-each k [] s = calm-same (λ y. refl)
calm-each k (r ∷ l) s = calm-next (calm_done k r s) (calm-each k l (freed_if_done k r s))

-- ---- Taking a task: the others.
abbrev pub Other : State → State → ℕ → Type 0
Other s t y = ((task_at t y).place ≡ (task_at s y).place) ⊎ ((task_at t y).place ≡ Ready)

other_block : (s : State) (k y : ℕ) (x : Task) → y ≢ k → task_at (with_task s k x) y ≡ task_at s y
other_block s k y x d = ⊎_elim (λ e. e) (λ e. absurd (d e.0)) (set_at x no_task s.tasks k y)

other-next : (s t u : State) (y : ℕ) → Other s t y → task_at u y ≡ task_at t y → Other s u y
other-next s t u y a e = let w = ap (λ (x : Task). x.place) e in ⊎_elim (λ i. inl (w ∙ i)) (λ i. inr (w ∙ i)) a

pub freed-free : (s : State) (k : ℕ) → task_at (freed_task s k) k ≡ no_task
unfolding freed_task
freed-free s k = ⊎_elim (λ z. z) (λ z. z) (set_own no_task no_task s.tasks k)

freed-other : (s : State) (k y : ℕ) → y ≢ k → task_at (freed_task s k) y ≡ task_at s y
unfolding freed_task
freed-other s k y d = other_block s k y no_task d

-- no parent is made ready: the link is lost
finished-other : (s : State) (k y : ℕ) → y ≢ k → (task_at s k).parent ≡ 0 → Other s (finished s k) y
unfolding finished freed_done parent_ready
finished-other s k y d z =
    let b = each (freed_if_done k) (one_to request_blocks) (given_back s k) in
    let c : Calm s b = calm-next (calm-back s k) (calm-each k (one_to request_blocks) (given_back s k)) in
    rw (c.parent k ∙ z) (other-next s b (freed_task b k) y (c.place y) (freed-other b k y d))

ended-other : (s : State) (k y : ℕ) → y ≢ k → (task_at s k).parent ≡ 0 → Other s (ended s k) y
unfolding ended
ended-other s k y d z = go (pending s k)
  where
    go : (b : Bool) → Other s (if b then placed s k Ending else finished s k) y
    go true = inl (ap (λ (t : Task). t.place) (other_block s k y _ d))
    go false = finished-other s k y d z

-- "each loses its link"
pub unlinked-parent : (s : State) (k : ℕ) → (task_at (unlinked s k) k).parent ≡ 0
unfolding unlinked
unlinked-parent s k = ⊎_elim (λ e. ap (λ (t : Task). t.parent) e) (λ e. ap (λ (t : Task). t.parent) e) (set_own _ no_task s.tasks k)

pub taken-other : (s : State) (k y : ℕ) → y ≢ k → Other s (taken k s) y
unfolding taken unlinked
taken-other s k y d =
    let e = ap (λ (t : Task). t.place) (other_block s k y _ d) in
    ⊎_elim (λ i. inl (i ∙ e)) (λ i. inr i) (ended-other (unlinked s k) k y d (unlinked-parent s k))

-- the law
pub others-stay : (l : List ℕ) (s : State) (y : ℕ) → count y l ≡ 0 → Other s (each taken l s) y
unfolding each
others-stay [] s y c = inl refl
others-stay (k ∷ l) s y c =
    let w = absent-head k y l c in
    ⊎_elim (λ i. ⊎_elim (λ j. inl (i ∙ j)) (λ j. inr (i ∙ j)) (taken-other s k y (λ z. w.0 (sym z)))) (λ i. inr i) (others-stay l (taken k s) y w.1)
