-- A task gives its core back, if it has any, and the core queue of its level is served: FREEMAIN, and the first step of finishing.
use mathlib.Core.Path.{◌≡◌, refl, sym, ap, ◌∙◌}
use mathlib.Core.Logic.{◌≢◌, ◌⊎◌, inl, inr, ⊎_elim}
use mathlib.Core.List.{List}
use Prim.Native.Nat.{ℕ, ◌-◌, ◌≤◌}
use native.Mathlib.Omega.{arith}
use lib.Seq.{get_or-set_same, get_or-set_other}
use Rattle.threads.specs.Threads.{count}
use Rattle.words.proofs.Truth.{tested}
use Rattle.tables.specs.declared.Task.{Task}
use Rattle.tables.specs.State.{State, core_queue, task_at, pool_at, queue, level_of, units_of}
use Rattle.tables.specs.Blocks.{no_task, task_blocks}
use Rattle.calls.specs.declared.Call.{Call}
use Rattle.pools.specs.Pools.{run}
use Rattle.meaning.specs.Conditions.{enough}
use Rattle.meaning.specs.Ready.{served}
use Rattle.meaning.specs.Finish.{given_back}
use Rattle.meaning.specs.Services.{freemain}
use Rattle.lawful.specs.Shape.{Shape}
use Rattle.lawful.specs.Resting.{Rest, Lawful, Settled}
use Rattle.lawful.proofs.Chained.Small.{none}
use Rattle.lawful.proofs.Chained.Framed.{Any, Framed, framed, back-ready}
use Rattle.lawful.proofs.Blocks.Sums.{field-kept}
use Rattle.lawful.proofs.Blocks.Cored.{recored, coring, give-back, core-units, used-holder}
use Rattle.lawful.proofs.Blocks.Members.{level-best, level-worst, not-waiting}
use Rattle.lawful.proofs.Ready.Made.{stuck-same}
use Rattle.lawful.proofs.Ready.Served.{RestBut, serve, served-frame}
use Rattle.lawful.proofs.Each.Calls.{settled}

-- what giving back touches: k, and those that wait for core of its level
pub back-frame : (s : State) (k : ℕ) → Framed (λ y. (y ≡ k) ⊎ (1 ≤ count y (queue s (core_queue (level_of s k))))) Any s (given_back s k)
back-frame s k = framed (back-ready _ Any _ s s k (inl refl) (λ y c. inr c) (λ q. refl) none)

pub record GivesBack (s' : State) (k : ℕ) (h : List ℕ) (e : ℕ) (m : List ℕ) : Type 0 where
  pub shape : Shape s' h e
  pub rest : Rest s' m
  pub core : (task_at s' k).core ≢ 1

module _ {s : State} {h : List ℕ} {e : ℕ} {m : List ℕ} (g : Shape s h e) (r : Rest s m) (k : ℕ) (some : 1 ≤ k) (low : k ≤ task_blocks) where
  module _ (o : (task_at s k).core ≡ 1) where
    abbrev pub freed : State
    freed = coring s k 2 0 (level_of s k) (pool_at s (level_of s k) - run (task_at s k).start (units_of s k))

    kept : (f : Task → ℕ) → f (recored s k 2 0 0 0) ≡ f (task_at s k) → (y : ℕ) → f (task_at freed y) ≡ f (task_at s y)
    kept f c y = field-kept f s.tasks k y (recored s k 2 0 0 0) no_task c

    pub freed-rest : RestBut freed m (level_of s k)
    unfolding enough
    freed-rest =
        record {
          asleep = record { asleep = λ y c n. rw (kept (λ t. t.count) refl y, kept (λ t. t.events) refl y) (r.asleep.asleep y c n) };
          stuck = λ i a b n. stuck-same {s = s} refl (get_or-set_other s.pools (level_of s k) i _ 0 n) (core-units s k 2 0 (level_of s k) 0) (r.stuck i a b);
          flowing = record { flowing = r.flowing.flowing };
        }

    freed-served : GivesBack (served freed (level_of s k)) k h e m
    freed-served =
        let u = used-holder g some low o in
        let best = level-best g some low u in
        let worst = level-worst g some low u in
        let w = serve best worst freed (give-back g some low o) freed-rest in
        let own = (served-frame freed (level_of s k)).tasks k (λ c. omega (arith, c, not-waiting g some low o (level_of s k) best worst)) in
        record {
          shape = w.shape;
          rest = w.rest;
          core = λ z. omega (arith, sym (ap (λ (t : Task). t.core) (own ∙ get_or-set_same s.tasks k _ no_task (omega (arith, g.sizes.tasks)))) ∙ z);
        }

  pub gives_back : GivesBack (given_back s k) k h e m
  unfolding given_back
  gives_back = ⊎_elim (λ z. rw z.0 (freed-served z.1)) (λ z. rw z.0 (record { shape = g; rest = r; core = z.1 })) (tested (task_at s k).core 1)

-- ---- FREEMAIN.
pub freemain-keeps : {s : State} (c : Call) → Lawful s → s.running ≢ 0 → Settled (freemain s c).state
unfolding freemain
freemain-keeps {s} c g n =
    let w = gives_back g.shape g.rest s.running (omega arith) g.shape.blank.running in
    settled w.shape w.rest
