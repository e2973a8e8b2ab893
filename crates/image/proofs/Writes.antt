-- The image of a directory as its bytes come together, those below the check from the front, and what writing gives.
use mathlib.Core.Path.{◌≡◌, refl, sym, ap, ◌∙◌}
use mathlib.Core.Logic.{⊎_elim}
use mathlib.Core.List.{List, map}
use Prim.Native.Nat.{ℕ}
use native.Mathlib.Nat.{eq-zero-or-pos}
use native.Mathlib.Omega.{arith}
use lib.ListN.{length, take}
use lib.Dec.{eqb}
use borrow.Author.Tests.{eqb-true, eq-eqb, ne_eqb}
use Rattle.words.specs.Rows.{first_of}
use Rattle.words.proofs.Lists.{listed-length}
use Rattle.words.proofs.Rows.{row-past, row-passed}
use Rattle.words.specs.Words.{below}
use Rattle.sealed.specs.Sealed.{sealed}
use Rattle.sealed.proofs.Seals.{sealed-length}
use Rattle.image.specs.declared.Directory.{Directory}
use Rattle.answers.specs.Answer.{Refused, Accepted, refusal_of}
use Rattle.image.specs.Directory.{directory_rows}
use Rattle.image.specs.Write.{byte_of, body_of, image_of, write_rows, Written, write_of}

pub image-made : (d : Directory) (out : List ℕ) (i : ℕ) {after : List ℕ} → i ≡ 510 → take i out ≡ map (byte_of d) (below i) → after ≡ sealed (take 510 out) → after ≡ image_of d
unfolding image_of body_of
image-made d out i z e s = s ∙ ap sealed (rw z at e)

pub body-length : (d : Directory) → length (body_of d) ≡ 510
unfolding body_of
body-length d = listed-length (byte_of d) 510

pub image-length : (d : Directory) → length (image_of d) ≡ 512
unfolding image_of
image-length d = sealed-length (body_of d) (body-length d)

-- ---- What writing gives in the three cases.
module _ (d : Directory) (buffer : List ℕ) where
  pub write-length : (length buffer ≡ 512 → ⊥) → record { outcome = Refused 1; buffer = buffer } ≡ write_of d buffer
  unfolding write_of write_rows first_of
  write-length h = rw (ne_eqb (length buffer) 512 h)

  rows_of : length buffer ≡ 512 → first_of (write_rows d buffer) ≡ first_of (directory_rows d)
  unfolding write_rows
  rows_of l = row-past 1 (eqb (length buffer) 512) (directory_rows d) (eq-eqb _ _ l)

  pub write-fault : {n : ℕ} → length buffer ≡ 512 → n ≡ first_of (directory_rows d) → (n ≡ 0 → ⊥) → record { outcome = Refused n; buffer = buffer } ≡ write_of d buffer
  unfolding write_of
  write-fault {n} l e h = rw (rows_of l, ← e, ne_eqb n 0 h)

  pub write-accepted : {n : ℕ} {image : List ℕ} → length buffer ≡ 512 → n ≡ first_of (directory_rows d) → n ≡ 0 → image ≡ image_of d → record { outcome = Accepted 1; buffer = image } ≡ write_of d buffer
  unfolding write_of
  write-accepted {n} {image} l e z i = rw (rows_of l, ← e, eq-eqb n 0 z, i)

  -- Where writing accepts, the directory has no fault and its image is in the buffer.
  none-applies : refusal_of (write_of d buffer).outcome ≡ 0 → first_of (write_rows d buffer) ≡ 0
  unfolding write_of
  none-applies e =
      ⊎_elim (λ z. z) (λ some. rw (ne_eqb (first_of (write_rows d buffer)) 0 (λ z. omega arith)) at e)
      (eq-zero-or-pos (first_of (write_rows d buffer)))

  pub write-good : refusal_of (write_of d buffer).outcome ≡ 0 → (first_of (directory_rows d) ≡ 0) × ((write_of d buffer).buffer ≡ image_of d)
  unfolding write_rows
  write-good e =
      let one = row-passed 1 (eqb (length buffer) 512) (directory_rows d) (omega arith) (none-applies e) in
      (one.1, sym (ap (λ (w : Written). w.buffer) (write-accepted (eqb-true _ _ one.0) refl one.1 refl)))
