-- Demand 1: "Any phase image and any call bytes, in any state, get a definite answer. Bad ones are refused by the number in document 01. A refused call changes no table, a refused
-- image gives all-zero tables, a refused write writes nothing, and no accepted answer carries a zero result."
-- Each sentence is a theorem of what a call, a load and a write are proved to give: `step_of` of any tables and any bytes, `load_of` and `tables_of` of any bytes, `write_of` of any
-- directory and any buffer (contracts of `executive::step`, `executive::load`, `image::write`, which have no `requires`).
use mathlib.Core.Path.{◌≡◌, refl}
use mathlib.Core.Logic.{◌≢◌, ◌⊎◌, ⊎_elim, ◌↔◌}
use mathlib.Core.List.{List}
use Prim.Native.Nat.{ℕ, ◌≤◌, suc}
use native.Mathlib.Omega.{arith}
use lib.ListN.{replicate}
use Rattle.threads.specs.Threads.{after, before, list_of, tab, row, threaded, BLOCKS}
use Rattle.words.specs.Words.{◌among◌}
use Rattle.words.specs.Rows.{first_of}
use Rattle.image.specs.declared.Directory.{Directory}
use Rattle.answers.specs.Answer.{Refused, Accepted, refusal_of, result_of}
use Rattle.image.specs.Directory.{no_directory}
use Rattle.image.specs.Load.{directory_of, load_rows, refused_load, load_of}
use Rattle.image.specs.Write.{image_of, write_rows, write_of}
use Rattle.tables.specs.declared.Tables.{Tables}
use Rattle.tables.specs.State.{tabled, all_zero}
use Rattle.meaning.specs.Refusals.{refusals}
use Rattle.meaning.specs.Step.{refused, accepted, step_of, tables_of}
use Rattle.meaning.proofs.Loaded.{zero-refused}
use Rattle.lawful.proofs.Told.Ends.{refused-where, some_result, step-ends, step-outcome, refused-leaves, load-ends, load-outcome, refused-tables, loaded-modules, write-ends, write-outcome}
use Rattle.lawful.proofs.Told.Results.{result-some}

-- ---- Calls: any tables, any bytes.
module _ (t : Tables) (bytes : List ℕ) where
  -- the number by which document 01 refuses the call; 0 where no row applies
  abbrev pub refusal_number : ℕ
  refusal_number = first_of (refusals t bytes)

  -- "Any .. call bytes, in any state, get a definite answer": the refusal by that number, or what document 01 says of the call
  pub definite : ((refusal_number ≢ 0) × (step_of t bytes ≡ refused t refusal_number)) ⊎ ((refusal_number ≡ 0) × (step_of t bytes ≡ accepted t bytes))
  definite = step-ends t bytes

  -- "Bad ones are refused by the number in document 01": by n where n is the first row that applies, and only there
  pub refused-exactly : (n : ℕ) → ((step_of t bytes).outcome ≡ Refused n) ↔ ((refusal_number ≡ n) × (n ≢ 0))
  refused-exactly = refused-where (step-outcome t bytes)

  -- "A refused call changes no table"
  pub refused-changes-nothing : (n : ℕ) → (step_of t bytes).outcome ≡ Refused n → (step_of t bytes).tables ≡ t
  refused-changes-nothing n e =
      let w = (refused-exactly n).0 e in
      ⊎_elim (λ z. rw z.1 (refused-leaves t refusal_number)) (λ z. absurd (omega (arith, w, z.0))) definite

  -- "no accepted answer carries a zero result": of its first two numbers, refusal and result, not both are 0
  pub no-zero-result : refusal_of (step_of t bytes).outcome ≡ 0 → result_of (step_of t bytes).outcome ≢ 0
  no-zero-result = some_result (step-outcome t bytes) (λ z i. omega (arith, result-some t bytes z, i))

-- ---- Images: any bytes.
module _ (image : List ℕ) where
  abbrev pub image_refusal : ℕ
  image_refusal = first_of (load_rows image)

  -- "Any phase image .. get[s] a definite answer"
  pub image-definite : ((image_refusal ≢ 0) × (load_of image ≡ refused_load image_refusal))
      ⊎ ((image_refusal ≡ 0) × (load_of image ≡ record { outcome = Accepted (directory_of image).modules; directory = directory_of image }))
  image-definite = load-ends image

  -- "Bad ones are refused by the number in document 01"
  pub image-refused-exactly : (n : ℕ) → ((load_of image).outcome ≡ Refused n) ↔ ((image_refusal ≡ n) × (n ≢ 0))
  image-refused-exactly = refused-where (load-outcome image)

  -- "a refused image gives all-zero tables", whichever program it is loaded for, and an all-zero directory
  pub refused-image-zero : (holes n : ℕ) → (load_of image).outcome ≡ Refused n → (tables_of holes image ≡ tabled all_zero) × ((load_of image).directory ≡ no_directory)
  refused-image-zero = refused-tables image

  -- "no accepted answer carries a zero result": M is 1 to 32
  pub no-zero-modules : refusal_of (load_of image).outcome ≡ 0 → (1 ≤ result_of (load_of image).outcome) × (result_of (load_of image).outcome ≤ 32)
  no-zero-modules = loaded-modules image

-- all-zero tables: every number in them is 0
pub zeros : tabled all_zero ≡ record {
  directory = record { modules = 0; every = 0; defined = 0; entries = replicate 32 (record { level = 0; units = 0; flags = 0; point = 0 }) };
  clock = 0;
  holes = 0;
  on = 0;
  signalled = 0;
  running = 0;
  channel = 0;
  free_tasks = 0;
  free_requests = 0;
  pools = replicate 4 0;
  tasks = replicate 25 (record { place = 0; program = 0; parent = 0; core = 0; start = 0; count = 0; events = 0; time = 0; since = 0; request = 0 });
  requests = replicate 17 (record { place = 0; owner = 0; device = 0; command = 0; bytes = 0 });
  threads = record { fwd = replicate (suc BLOCKS) 0; back = replicate (suc BLOCKS) 0; first = replicate 9 0; last = replicate 9 0 };
}
unfolding all_zero threaded after before list_of ◌among◌ tab row
zeros = refl

-- "on which every call answers 9"
pub zero-answers-nine : (bytes : List ℕ) → step_of (tabled all_zero) bytes ≡ refused (tabled all_zero) 9
zero-answers-nine bytes = zero-refused bytes

-- ---- Writing: any directory, any buffer.
module _ (d : Directory) (buffer : List ℕ) where
  abbrev pub write_refusal : ℕ
  write_refusal = first_of (write_rows d buffer)

  -- the answer to a write is definite too
  pub write-definite : ((write_refusal ≢ 0) × (write_of d buffer ≡ record { outcome = Refused write_refusal; buffer = buffer }))
      ⊎ ((write_refusal ≡ 0) × (write_of d buffer ≡ record { outcome = Accepted 1; buffer = image_of d }))
  write-definite = write-ends d buffer

  -- "Bad ones are refused by the number in document 01"
  pub write-refused-exactly : (n : ℕ) → ((write_of d buffer).outcome ≡ Refused n) ↔ ((write_refusal ≡ n) × (n ≢ 0))
  write-refused-exactly = refused-where (write-outcome d buffer)

  -- "a refused write writes nothing"
  pub refused-writes-nothing : (n : ℕ) → (write_of d buffer).outcome ≡ Refused n → (write_of d buffer).buffer ≡ buffer
  refused-writes-nothing n e =
      let w = (write-refused-exactly n).0 e in
      ⊎_elim (λ z. rw z.1) (λ z. absurd (omega (arith, w, z.0))) write-definite

  -- "no accepted answer carries a zero result": it is 1
  pub no-zero-written : refusal_of (write_of d buffer).outcome ≡ 0 → result_of (write_of d buffer).outcome ≡ 1
  no-zero-written e = ⊎_elim (λ z. absurd (z.0 (rw z.1 at e))) (λ z. rw z.1) write-definite
