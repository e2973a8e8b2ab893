-- A directory that passes has no field that is wider than its byte in an image: M and N by their rows, the flags of an entry because it is good, as one
-- that is used, or blank, as one that is not.
use mathlib.Core.Bool.{true, ◌&&◌}
use mathlib.Core.Path.{◌≡◌}
use mathlib.Core.Logic.{⊎_elim}
use Prim.Native.Nat.{ℕ, ◌+◌, ◌-◌, ◌≤◌, ◌<◌}
use native.Mathlib.Nat.{eq-zero-or-pos}
use native.Mathlib.Omega.{arith}
use lib.Dec.{eqb, leb}
use borrow.Author.Tests.{eqb-true, leb-true}
use Rattle.words.specs.Rows.{first_of}
use Rattle.words.proofs.Rows.{row-passed}
use Rattle.words.proofs.Lists.{all-at}
use Rattle.words.proofs.Truth.{and_left, and_right}
use Rattle.image.specs.declared.Directory.{Directory}
use Rattle.image.specs.Directory.{entry_at, modules_good, every_good, entry_good, entry_blank, used_good, unused_blank, entries_pass, directory_rows}
use Rattle.image.specs.Write.{Small}

module _ (d : Directory) (e : first_of (directory_rows d) ≡ 0) where
  rows : (modules_good d ≡ true) × (every_good d ≡ true) × (used_good d ≡ true) × (unused_blank d ≡ true)
  unfolding directory_rows
  rows =
      let four = row-passed 4 (modules_good d) _ (omega arith) e in
      let five = row-passed 5 (every_good d) _ (omega arith) four.1 in
      let six = row-passed 6 (used_good d) _ (omega arith) five.1 in
      let seven = row-passed 7 (unused_blank d) _ (omega arith) six.1 in
      (four.0, five.0, six.0, seven.0)

  good : (m : ℕ) → m < d.modules → entry_good (entry_at d m) ≡ true
  unfolding entries_pass
  good m l =
      let same : 0 + m ≡ m = omega arith in
      rw same at (all-at (λ i. entry_good (entry_at d (0 + i))) d.modules m rows.2 l)

  blank : (m : ℕ) → d.modules ≤ m → m < 32 → entry_blank (entry_at d m) ≡ true
  unfolding entries_pass
  blank m h l =
      let same : d.modules + (m - d.modules) ≡ m = omega arith in
      rw same at (all-at (λ i. entry_blank (entry_at d (d.modules + i))) (32 - d.modules) (m - d.modules) rows.3 (omega arith))

  used : (m : ℕ) → m < d.modules → (entry_at d m).flags < 256
  used m l =
      let x = entry_at d m in
      omega (arith, leb-true x.flags 1 (and_right (leb 1 x.level && leb x.level 3 && leb x.units 64) (leb x.flags 1) (good m l)))

  unused : (m : ℕ) → d.modules ≤ m → m < 32 → (entry_at d m).flags < 256
  unused m h l =
      let x = entry_at d m in
      let three = and_left (eqb x.level 0 && eqb x.units 0 && eqb x.flags 0) (eqb x.point 0) (blank m h l) in
      omega (arith, eqb-true x.flags 0 (and_right (eqb x.level 0 && eqb x.units 0) (eqb x.flags 0) three))

  pub small : Small d
  small =
      record {
        modules = omega (arith, leb-true d.modules 32 (and_right (leb 1 d.modules) (leb d.modules 32) rows.0));
        every = omega (arith, leb-true d.every 255 (and_right (leb 1 d.every) (leb d.every 255) rows.1));
        flags = λ m l. ⊎_elim (λ z. unused m (omega arith) l) (λ h. used m (omega arith)) (eq-zero-or-pos (d.modules - m));
      }
