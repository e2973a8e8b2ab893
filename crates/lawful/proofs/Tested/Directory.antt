-- The directory's test shows what the rules of the blocks take from it: each used entry is good. By the rows of its refusals, none of which applies.
use mathlib.Core.Bool.{true}
use mathlib.Core.Path.{◌≡◌}
use Prim.Native.Nat.{ℕ, ◌+◌, ◌≤◌, ◌<◌}
use native.Mathlib.Omega.{arith}
use lib.Dec.{leb}
use borrow.Author.Tests.{eqb-true, leb-true}
use Rattle.words.proofs.Rows.{row-passed}
use Rattle.words.proofs.Lists.{all-at}
use Rattle.image.specs.declared.Directory.{Directory}
use Rattle.image.specs.Directory.{entry_at, modules_good, every_good, entry_good, used_good, entries_pass, directory_rows}
use Rattle.meaning.specs.Rules.{directory_passes}
use Rattle.lawful.specs.Shape.{Passing}
use Rattle.words.proofs.Truth.{both}

module _ (d : Directory) (e : directory_passes d ≡ true) where
  rows : (modules_good d ≡ true) × (every_good d ≡ true) × (used_good d ≡ true)
  unfolding directory_passes directory_rows
  rows =
      let four = row-passed 4 (modules_good d) _ (omega arith) (eqb-true _ 0 e) in
      let five = row-passed 5 (every_good d) _ (omega arith) four.1 in
      let six = row-passed 6 (used_good d) _ (omega arith) five.1 in
      (four.0, five.0, six.0)

  good : (m : ℕ) → m < d.modules → entry_good (entry_at d m) ≡ true
  unfolding entries_pass
  good m low =
      let z : 0 + m ≡ m = omega arith in
      rw z at (all-at (λ i. entry_good (entry_at d (0 + i))) d.modules m rows.2 low)

  -- of a used entry: its level is 1 to 3, and it has at most 64 units
  entry-good : (m : ℕ) → m < d.modules → (1 ≤ (entry_at d m).level) × ((entry_at d m).level ≤ 3) × ((entry_at d m).units ≤ 64)
  entry-good m low =
      let x = entry_at d m in
      let a = both _ _ (good m low) in
      let b = both _ _ a.0 in
      let c = both _ _ b.0 in
      (leb-true 1 x.level c.0, leb-true x.level 3 c.1, leb-true x.units 64 b.1)

  pub modules-some : 1 ≤ d.modules
  modules-some = leb-true 1 d.modules (both (leb 1 d.modules) (leb d.modules 32) rows.0).0

  pub passing : Passing d
  passing =
      record {
        passes = e;
        modules = leb-true d.modules 32 (both (leb 1 d.modules) (leb d.modules 32) rows.0).1;
        every = leb-true 1 d.every (both (leb 1 d.every) (leb d.every 255) rows.1).0;
        best = λ m low. (entry-good m low).0;
        worst = λ m low. (entry-good m low).1;
        units = λ m low. (entry-good m low).2;
      }
