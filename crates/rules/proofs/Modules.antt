-- There is a module 0: by the first row of the directory's refusals, which does not apply.
use mathlib.Core.Bool.{true}
use mathlib.Core.Path.{◌≡◌}
use Prim.Native.Nat.{◌≤◌}
use native.Mathlib.Omega.{arith}
use lib.Dec.{leb}
use borrow.Author.Tests.{eqb-true, leb-true}
use Rattle.words.proofs.Rows.{row-passed}
use Rattle.image.specs.declared.Directory.{Directory}
use Rattle.image.specs.Directory.{modules_good, directory_rows}
use Rattle.meaning.specs.Rules.{directory_passes}
use Rattle.words.proofs.Truth.{both}

pub some-module : (d : Directory) → directory_passes d ≡ true → 1 ≤ d.modules
unfolding directory_passes directory_rows
some-module d e =
    let four = row-passed 4 (modules_good d) _ (omega arith) (eqb-true _ 0 e) in
    leb-true 1 d.modules (both (leb 1 d.modules) (leb d.modules 32) four.0).0
