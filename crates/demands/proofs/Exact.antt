-- Demand 2: "Loading, writing back, and every service call and interrupt do exactly what document 01 says, step by step: same answer, same tables, same running task. An accepted
-- image written back gives the same 512 bytes, and a directory written and loaded comes back equal."
--
-- That the code does exactly that is said by its contracts, which are proved of it, have no `requires` and leave no second answer (proofs/Unique.antt of those crates):
--   `executive::load`     of any bytes, the tables and the answer are those of `tables_of` and `load_of`, by either rule: the lowest start is the old program's
--   `executive::step`     of any tables and any bytes, the tables and the answer are those of `step_of`
--   `executive::khilzurgee_advance`  the tables that are lent are left as those of `step_of`, and the three numbers are its line
--   `executive::line`     the three numbers are `line_of`
--   `image::load`         of any bytes, the answer and the directory are `load_of`
--   `image::write`        of any directory and any buffer, the answer and the buffer as it is left are `write_of`
-- Here is what those definitions say of answers, and the two round trips.
use mathlib.Core.Path.{◌≡◌}
use mathlib.Core.List.{List, [], ◌∷◌}
use Prim.Native.Nat.{ℕ}
use lib.ListN.{length}
use lib.Dec.{eqb}
use Rattle.words.specs.Words.{if◌then◌else◌}
use Rattle.image.specs.declared.Directory.{Directory}
use Rattle.answers.specs.Answer.{Refused, Accepted, refusal_of}
use Rattle.image.specs.Fits.{Bytes, Fits}
use Rattle.image.specs.Load.{directory_of, load_of}
use Rattle.image.specs.Write.{write_of}
use Rattle.image.proofs.RoundTrips as trips
use Rattle.image.proofs.Loads.{good, check-is-load}
use Rattle.tables.specs.declared.Tables.{Tables}
use Rattle.meaning.specs.Step.{step_of, tables_of, line_of, load_line}
use Rattle.lawful.specs.Reached.{Reached}
use Rattle.lawful.proofs.Told.After.{refused-line, accepted-line, loaded-line, reached-loads, reached-directory}

-- ---- "same answer, .. same running task": the three numbers. A refused call names the running task unchanged, 0 with refusal 9; an accepted one names that of its tables
module _ (t : Tables) (bytes : List ℕ) where
  pub refused-answer : (n : ℕ) → (step_of t bytes).outcome ≡ Refused n → line_of (step_of t bytes) ≡ n ∷ 0 ∷ (if eqb n 9 then 0 else t.running) ∷ []
  refused-answer = refused-line t bytes

  pub accepted-answer : (r : ℕ) → (step_of t bytes).outcome ≡ Accepted r → line_of (step_of t bytes) ≡ 0 ∷ r ∷ (step_of t bytes).tables.running ∷ []
  accepted-answer = accepted-line t bytes

-- ---- Loading: the M that is answered is that of the tables, and their directory is what the bytes spell
module _ (holes : ℕ) (image : List ℕ) (accepted : refusal_of (load_of image).outcome ≡ 0) where
  pub loaded-answer : (load_line image ≡ 0 ∷ (tables_of holes image).directory.modules ∷ 0 ∷ []) × ((tables_of holes image).directory ≡ directory_of image)
  loaded-answer = loaded-line image holes accepted

-- ---- "An accepted image written back gives the same 512 bytes": into any buffer of that length
pub written_back : (image buffer : List ℕ) → Bytes image → length buffer ≡ 512 → refusal_of (load_of image).outcome ≡ 0
    → write_of (load_of image).directory buffer ≡ record { outcome = Accepted 1; buffer = image }
written_back = trips.written_back

pub of-512 : (image : List ℕ) → refusal_of (load_of image).outcome ≡ 0 → length image ≡ 512
of-512 image e = (good image (rw (check-is-load image) at e)).long

-- and so does the directory of the tables, after any calls
pub still-written-back : (image buffer : List ℕ) {t : Tables} → Reached image t → Bytes image → length buffer ≡ 512
    → write_of t.directory buffer ≡ record { outcome = Accepted 1; buffer = image }
still-written-back image buffer r bytes long = rw (reached-directory image r) (written_back image buffer bytes long (reached-loads image r))

-- ---- "and a directory written and loaded comes back equal"
pub loaded-back : (d : Directory) (buffer : List ℕ) → Fits d → refusal_of (write_of d buffer).outcome ≡ 0
    → load_of (write_of d buffer).buffer ≡ record { outcome = Accepted d.modules; directory = d }
loaded-back = trips.loaded-back
