-- What the list of load refusals says: which tests hold of an image that none refuses, and which row decides where one fails.
use mathlib.Core.Bool.{true, false, not}
use mathlib.Core.Path.{◌≡◌, sym, ap, ◌∙◌}
use mathlib.Core.Logic.{⊎_elim}
use mathlib.Core.List.{List, [], ◌∷◌, ◌++◌}
use Prim.Native.Nat.{ℕ}
use native.Mathlib.Nat.{eq-zero-or-pos}
use native.Mathlib.Omega.{arith}
use borrow.Author.Tests.{eqb-true, eq-eqb, ne_eqb}
use lib.ListN.{length, get_or}
use lib.Dec.{eqb}
use Rattle.std.specs.Prelude.{Result, Ok, Err}
use Rattle.words.specs.Rows.{Row, ◌when◌, first_of}
use Rattle.words.proofs.Rows.{Numbered, none, numbered, row-past, row_here, row-passed, first-stays, first_past, first-none}
use Rattle.sealed.specs.Sealed.{passes}
use Rattle.image.specs.declared.Directory.{Directory}
use Rattle.image.specs.Block.{fillers_zero}
use Rattle.image.specs.Directory.{directory_rows}
use Rattle.answers.specs.declared.Refusal.{Refusal}
use Rattle.answers.specs.Answer.{Accepted, refusal_of, number}
use Rattle.image.specs.Load.{directory_of, block_rows, load_rows, refused_load, load_of, Loaded, loaded}
use Rattle.answers.proofs.Cases.{refusal-of, refused-by, number-once, number-some}

-- the rows from the fourth on, and the last of all
abbrev last_row : List ℕ → List Row
last_row b = 7 when (not (fillers_zero b)) ∷ []

abbrev later_rows : List ℕ → List Row
later_rows b = directory_rows (directory_of b) ++ last_row b

block-numbered : (b : List ℕ) → Numbered (block_rows b)
unfolding block_rows
block-numbered b = numbered (omega arith) (numbered (omega arith) (numbered (omega arith) none))

directory-numbered : (d : Directory) → Numbered (directory_rows d)
unfolding directory_rows
directory-numbered d = numbered (omega arith) (numbered (omega arith) (numbered (omega arith) (numbered (omega arith) none)))

pub block-long : (b : List ℕ) → first_of (block_rows b) ≡ 0 → length b ≡ 512
unfolding block_rows
block-long b w = eqb-true _ _ (row-passed 1 (eqb (length b) 512) _ (omega arith) w).0

module _ (b : List ℕ) where
  -- the block's own fault decides first
  pub refuses-block : (first_of (block_rows b) ≡ 0 → ⊥) → first_of (block_rows b) ≡ first_of (load_rows b)
  unfolding load_rows
  refuses-block h = sym (first-stays (block-numbered b) (later_rows b) h)

  later : first_of (block_rows b) ≡ 0 → first_of (load_rows b) ≡ first_of (later_rows b)
  unfolding load_rows
  later w = first_past (block-numbered b) (later_rows b) w

  -- then its directory's fault, then 7
  pub refuses-directory : first_of (block_rows b) ≡ 0 → (first_of (directory_rows (directory_of b)) ≡ 0 → ⊥) → first_of (directory_rows (directory_of b)) ≡ first_of (load_rows b)
  refuses-directory w h = sym (later w ∙ first-stays (directory-numbered (directory_of b)) (last_row b) h)

  last : first_of (block_rows b) ≡ 0 → first_of (directory_rows (directory_of b)) ≡ 0 → first_of (load_rows b) ≡ first_of (last_row b)
  last w e = later w ∙ first_past (directory-numbered (directory_of b)) (last_row b) e

  pub refuses-7 : first_of (block_rows b) ≡ 0 → first_of (directory_rows (directory_of b)) ≡ 0 → fillers_zero b ≡ false → 7 ≡ first_of (load_rows b)
  refuses-7 w e h = sym (last w e ∙ row_here 7 (fillers_zero b) [] h)

  pub refuses-none : first_of (block_rows b) ≡ 0 → first_of (directory_rows (directory_of b)) ≡ 0 → fillers_zero b ≡ true → 0 ≡ first_of (load_rows b)
  unfolding first_of
  refuses-none w e h = sym (last w e ∙ row-past 7 (fillers_zero b) [] h)

-- An image that no row refuses.
pub record Good (b : List ℕ) : Type 0 where
  pub long : length b ≡ 512
  pub checked : passes b ≡ true
  pub formed : get_or b 0 0 ≡ 1
  pub sound : first_of (directory_rows (directory_of b)) ≡ 0
  pub clears : fillers_zero b ≡ true

pub good : (b : List ℕ) → first_of (load_rows b) ≡ 0 → Good b
unfolding load_rows block_rows
good b e =
    let w = first-none (block-numbered b) (later_rows b) e in
    let one = row-passed 1 (eqb (length b) 512) _ (omega arith) w in
    let two = row-passed 2 (passes b) _ (omega arith) one.1 in
    let three = row-passed 3 (eqb (get_or b 0 0) 1) _ (omega arith) two.1 in
    let rest = sym (later b w) ∙ e in
    let d = first-none (directory-numbered (directory_of b)) (last_row b) rest in
    let seven = row-passed 7 (fillers_zero b) [] (omega arith) (sym (last b w d) ∙ e) in
    record {
      long = block-long b w;
      checked = two.0;
      formed = eqb-true _ _ three.0;
      sound = d;
      clears = seven.0;
    }

block-passes : (b : List ℕ) → Good b → first_of (block_rows b) ≡ 0
unfolding block_rows first_of
block-passes b g = rw (eq-eqb (length b) 512 g.long, g.checked, eq-eqb (get_or b 0 0) 1 g.formed)

pub good-passes : (b : List ℕ) → Good b → first_of (load_rows b) ≡ 0
good-passes b g = sym (refuses-none b (block-passes b g) g.sound g.clears)

-- What loading gives in the two cases.
pub load-refused : (b : List ℕ) → (first_of (load_rows b) ≡ 0 → ⊥) → load_of b ≡ refused_load (first_of (load_rows b))
unfolding load_of
load-refused b h = rw (ne_eqb (first_of (load_rows b)) 0 h)

pub load-accepted : (b : List ℕ) → first_of (load_rows b) ≡ 0 → load_of b ≡ record { outcome = Accepted (directory_of b).modules; directory = directory_of b }
unfolding load_of
load-accepted b e = rw (eq-eqb (first_of (load_rows b)) 0 e)

-- The image check's answer is the load's: the number that the rows give.
pub check-is-load : (b : List ℕ) → refusal_of (load_of b).outcome ≡ first_of (load_rows b)
unfolding refused_load
check-is-load b =
    ⊎_elim (λ e. ap (λ (l : Loaded). refusal_of l.outcome) (load-accepted b e) ∙ sym e)
    (λ h. ap (λ (l : Loaded). refusal_of l.outcome) (load-refused b (λ e. omega arith)) ∙ refusal-of (first_of (load_rows b)) 0)
    (eq-zero-or-pos (first_of (load_rows b)))

-- A refusal by the number that the rows give is the load's answer.
pub load-refused-by : (b : List ℕ) (e : Refusal) → number e ≡ first_of (load_rows b) → loaded (Err e) ≡ load_of b
unfolding refused_load
load-refused-by b e h =
    let some : first_of (load_rows b) ≡ 0 → ⊥ = λ z. number-some e (h ∙ z) in
    let same : refused_load (number e) ≡ loaded (Err e) = rw (refused-by (number e) (number-some e)) in
    sym same ∙ ap refused_load h ∙ sym (load-refused b some)

-- What loading gives is that of one result.
pub loaded-once : (r s : Result Directory Refusal) → loaded r ≡ loaded s → r ≡ s
loaded-once (Ok d) (Ok f) h = ap Ok (ap (λ (l : Loaded). l.directory) h)
loaded-once (Ok d) (Err f) h = absurd (number-some f (sym (ap (λ (l : Loaded). refusal_of l.outcome) h)))
loaded-once (Err e) (Ok d) h = absurd (number-some e (ap (λ (l : Loaded). refusal_of l.outcome) h))
loaded-once (Err e) (Err f) h = ap Err (number-once e f (ap (λ (l : Loaded). refusal_of l.outcome) h))
