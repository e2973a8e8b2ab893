-- What a load begins with: the tables of the two cases, and the line that the desk writes of it.
use mathlib.Core.Bool.{Bool, true, false}
use mathlib.Core.Path.{◌≡◌, refl, sym, ap, ◌∙◌}
use mathlib.Core.List.{List}
use Prim.Native.Nat.{ℕ, ◌<◌}
use lib.Dec.{eqb}
use borrow.Author.Tests.{ne_eqb}
use Rattle.std.specs.Prelude.{Ok, Err}
use Rattle.words.specs.Words.{if◌then◌else◌}
use Rattle.words.specs.Rows.{first_of}
use Rattle.answers.specs.declared.Refusal.{Refusal}
use Rattle.answers.specs.Answer.{Refused, Accepted, refusal_of, number}
use Rattle.answers.proofs.Cases.{number-some}
use Rattle.image.specs.declared.Directory.{Directory}
use Rattle.image.specs.Load.{Loaded, directory_of, load_rows, load_of, loaded as load_given}
use Rattle.image.proofs.Loads.{good, load-accepted, check-is-load}
use Rattle.image.proofs.Small.{small}
use Rattle.tables.specs.State.{tabled, loaded, all_zero}
use Rattle.meaning.specs.declared.Stepped.{Stepped}
use Rattle.meaning.specs.Step.{Step, stepped, tables_of, line_of, load_line}

-- what loading an image gives
abbrev pub begun : ℕ → List ℕ → Step
begun holes image = record { tables = tables_of holes image; outcome = (load_of image).outcome }

pub begun-accepted : (holes : ℕ) (b : List ℕ) (d : Directory) → load_given (Ok d) ≡ load_of b
    → record { tables = tabled (loaded holes d); outcome = Accepted d.modules } ≡ begun holes b
unfolding tables_of
begun-accepted holes b d e = rw (← e)

pub begun-refused : (holes : ℕ) (b : List ℕ) (r : Refusal) → load_given (Err r) ≡ load_of b
    → record { tables = tabled all_zero; outcome = Refused (number r) } ≡ begun holes b
unfolding tables_of
begun-refused holes b r e = rw (← e, ne_eqb (number r) 0 (number-some r))

-- M of an image that loads fits a byte
pub accepted-small : (b : List ℕ) (d : Directory) → load_given (Ok d) ≡ load_of b → d.modules < 256
accepted-small b d e =
    let none : first_of (load_rows b) ≡ 0 = sym (check-is-load b) ∙ ap (λ (l : Loaded). refusal_of l.outcome) (sym e) in
    let same : d ≡ directory_of b = ap (λ (l : Loaded). l.directory) (e ∙ load-accepted b none) in
    rw same (small (directory_of b) (good b none).sound).modules

-- "a line for the load (refusal, M or 0, 0)": no task runs in the tables of a load
none_runs : (x : Bool) (holes : ℕ) (d : Directory) → (tabled (if x then loaded holes d else all_zero)).running ≡ 0
unfolding loaded all_zero
none_runs true holes d = refl
none_runs false holes d = refl

pub begun-line : (holes : ℕ) (b : List ℕ) → line_of (begun holes b) ≡ load_line b
unfolding line_of load_line tables_of
begun-line holes b = rw (none_runs (eqb (refusal_of (load_of b).outcome) 0) holes (load_of b).directory)

-- what is stored of a load: its line and its tables
pub begun-stored : (holes : ℕ) (b : List ℕ) (next : Stepped Refusal) → stepped number next ≡ begun holes b → (line_of (stepped number next) ≡ load_line b) × (next.tables ≡ tables_of holes b)
begun-stored holes b next e = (ap line_of e ∙ begun-line holes b, ap (λ (x : Step). x.tables) e)
