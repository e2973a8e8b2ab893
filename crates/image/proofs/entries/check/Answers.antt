-- `entries::check` meets its contract: the rows are passed over one by one, up to the one that applies.
use mathlib.Core.Bool.{true, false}
use mathlib.Core.Path.{◌≡◌, sym, ◌∙◌}
use native.Mathlib.Omega.{arith}
use Rattle.words.specs.Rows.{first_of}
use Rattle.words.proofs.Rows.{row-past, row_here}
use Rattle.image.specs.declared.Directory.{Directory}
use Rattle.image.specs.Directory.{modules_good, every_good, used_good, unused_blank, directory_rows}
use Rattle.image.proofs.entries.check.Goals as goal

module _ (d : Directory) where
  four : modules_good d ≡ false → 4 ≡ first_of (directory_rows d)
  unfolding directory_rows
  four m = sym (row_here 4 _ _ m)

  module _ (m : modules_good d ≡ true) where
    five : every_good d ≡ false → 5 ≡ first_of (directory_rows d)
    unfolding directory_rows
    five n = sym (row-past 4 _ _ m ∙ row_here 5 _ _ n)

    module _ (n : every_good d ≡ true) where
      six : used_good d ≡ false → 6 ≡ first_of (directory_rows d)
      unfolding directory_rows
      six u = sym (row-past 4 _ _ m ∙ row-past 5 _ _ n ∙ row_here 6 _ _ u)

      module _ (u : used_good d ≡ true) where
        seven : unused_blank d ≡ false → 7 ≡ first_of (directory_rows d)
        unfolding directory_rows
        seven b = sym (row-past 4 _ _ m ∙ row-past 5 _ _ n ∙ row-past 6 _ _ u ∙ row_here 7 _ _ b)

        none : unused_blank d ≡ true → 0 ≡ first_of (directory_rows d)
        unfolding directory_rows first_of
        none b = rw (m, n, u, b)

pub returns-then-not-contains : goal.returns-then-not-contains
returns-then-not-contains c = four c.args.d (grind arith)

pub returns-then-not-contains-2 : goal.returns-then-not-contains-2
returns-then-not-contains-2 c = five c.args.d (grind arith) (grind arith)

pub returns-then-not-all_pass : goal.returns-then-not-all_pass
returns-then-not-all_pass c = six c.args.d (grind arith) (grind arith) (sym c.all_pass.ensures ∙ c.if-not-all_pass.true)

pub returns-then-not-all_pass-2 : goal.returns-then-not-all_pass-2
returns-then-not-all_pass-2 c = seven c.args.d (grind arith) (grind arith) (sym c.all_pass.ensures ∙ c.if-not-all_pass.false) (sym c.all_pass-2.ensures ∙ c.if-not-all_pass-2.true)

pub returns : goal.returns
returns c = none c.args.d (grind arith) (grind arith) (sym c.all_pass.ensures ∙ c.if-not-all_pass.false) (sym c.all_pass-2.ensures ∙ c.if-not-all_pass-2.false)
