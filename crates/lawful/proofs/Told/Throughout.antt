-- Document 02, E4, of tables that keep the rules: a task that has a request queued or on the channel keeps its run through any calls, as long as it has one, and no other task is given a unit of
-- it. By UnderRead for one call, and by induction on the calls.
use mathlib.Core.Bool.{true}
use mathlib.Core.Path.{◌≡◌, refl, ap, ap₂, ◌∙◌}
use mathlib.Core.Logic.{⊎_elim}
use mathlib.Core.List.{List}
use Prim.Native.Nat.{ℕ, ◌≤◌}
use lib.ListN.{get_or}
use Rattle.words.specs.Rows.{first_of}
use Rattle.image.specs.declared.Directory.{Directory}
use Rattle.image.specs.declared.Entry.{Entry}
use Rattle.image.specs.Directory.{no_entry}
use Rattle.tables.specs.declared.Task.{Task}
use Rattle.tables.specs.Blocks.{task_blocks}
use Rattle.tables.specs.State.{State, entry_for, read}
use Rattle.tables.specs.declared.Tables.{Tables}
use Rattle.calls.specs.Calls.{IO-DONE, call_of}
use Rattle.meaning.specs.Finish.{pending}
use Rattle.meaning.specs.Rules.{holds_unit}
use Rattle.meaning.specs.Refusals.{refusals}
use Rattle.meaning.specs.Step.{accepted, step_of}
use Rattle.lawful.specs.Tables.{LawfulTables}
use Rattle.lawful.specs.UnderRead.{SameRun, During, begun, call}
use Rattle.lawful.proofs.Tested.Pendings.{pending-some}
use Rattle.lawful.proofs.Tested.Accepted.{accepts, rows_left}
use Rattle.lawful.proofs.Each.Keeps.{keeps}
use Rattle.lawful.proofs.Told.Ends.{step-ends, refused-leaves}
use Rattle.lawful.proofs.Told.Steps.{read-tabled, step-lawful}
use Rattle.lawful.proofs.Told.After.{step-directory}
use Rattle.lawful.proofs.Told.Corollaries.{runs-apart}
use Rattle.lawful.proofs.Told.Pages.{Same, Holds, still-holds, untouched}
use Rattle.lawful.proofs.Told.UnderRead.{owner-block, call_same}

-- ---- One call.
step_same : (t : Tables) (bytes : List ℕ) → LawfulTables t → (y : ℕ) → Holds y (read t) → pending (read t) y ≡ true
    → ((call_of bytes).code ≡ IO-DONE → pending (read (step_of t bytes).tables) y ≡ true) → Same y (read t) (read (step_of t bytes).tables)
unfolding accepted
step_same t bytes g y h p =
    let i = pending-some (read t) y p in
    ⊎_elim (λ z q. rw (z.1, refused-leaves t (first_of (refusals t bytes))) (untouched refl))
    (λ z.
    let a = accepts (read t) (call_of bytes) (rows_left t bytes z.0).rows g.state in
    rw (z.1, read-tabled (keeps g.state a)) (λ q. call_same g.state a h i.1 (λ e. pending-some _ y (q e))))
    (step-ends t bytes)

-- what is kept of a block makes the same run, since the directory stays
same-run : {s u : State} {y : ℕ} → u.directory ≡ s.directory → Holds y s → Same y s u → SameRun s u y
same-run {s} {u} {y} d h e =
    let m : entry_for u y ≡ entry_for s y = ap₂ (λ (x : Directory) (t : Task). get_or x.entries t.program no_entry) d e.same in
    record {
      holds = still-holds e h;
      level = ap (λ (x : Entry). x.level) m;
      start = ap (λ (t : Task). t.start) e.same;
      units = ap (λ (x : Entry). x.units) m;
    }

pub step_run : (t : Tables) (bytes : List ℕ) → LawfulTables t → (y : ℕ) → Holds y (read t) → pending (read t) y ≡ true
    → ((call_of bytes).code ≡ IO-DONE → pending (read (step_of t bytes).tables) y ≡ true) → SameRun (read t) (read (step_of t bytes).tables) y
step_run t bytes g y h p q = same-run (step-directory t bytes) h (step_same t bytes g y h p q)

-- ---- Over any calls.
then-run : {s t u : State} {k : ℕ} → SameRun s t k → SameRun t u k → SameRun s u k
then-run a b = record { holds = b.holds; level = b.level ∙ a.level; start = b.start ∙ a.start; units = b.units ∙ a.units }

module _ {t : Tables} {k : ℕ} (g : LawfulTables t) (h : Holds k (read t)) where
  during-lawful : {u : Tables} → During k t u → LawfulTables u
  during-lawful (begun p) = g
  during-lawful (call {u} bytes d p) = step-lawful u bytes (during-lawful d)

  asks-now : {u : Tables} → During k t u → pending (read u) k ≡ true
  asks-now (begun p) = p
  asks-now (call bytes d p) = p

  pub during-run : {u : Tables} → During k t u → SameRun (read t) (read u) k
  during-run (begun p) = record { holds = h; level = refl; start = refl; units = refl }
  during-run (call {u} bytes d p) =
      let r = during-run d in
      then-run r (step_run u bytes (during-lawful d) k r.holds (asks-now d) (λ z. p))

  -- its units are the same, and so no other task has one of them
  units-same : {u : Tables} → During k t u → (level unit : ℕ) → holds_unit (read u) level unit k ≡ holds_unit (read t) level unit k
  unfolding holds_unit
  units-same d level unit = let r = during-run d in rw (r.holds, h, r.level, r.start, r.units)

  pub during-alone : {u : Tables} → During k t u → (j level unit : ℕ) → 1 ≤ j → j ≤ task_blocks → holds_unit (read t) level unit k ≡ true → holds_unit (read u) level unit j ≡ true → j ≡ k
  during-alone {u} d j level unit lo hi e f =
      let g = (during-lawful d).state in
      let b = owner-block g (pending-some (read u) k (asks-now d)).1 in
      runs-apart g.shape j k level unit lo hi b.0 b.1 f (units-same d level unit ∙ e)
