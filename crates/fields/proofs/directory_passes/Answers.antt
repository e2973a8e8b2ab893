-- The directory passes where the check refuses nothing: then no row of its refusals applies, and no refusal has the number 0.
use mathlib.Core.Path.{◌≡◌, refl, sym}
use lib.Dec.{eqb}
use borrow.Author.Tests.{ne_eqb}
use Rattle.std.specs.Prelude.{Result, Ok, Err, is_ok}
use Rattle.answers.specs.declared.Refusal.{Refusal}
use Rattle.answers.specs.Answer.{refused_by, number}
use Rattle.answers.proofs.Cases.{number-some}
use Rattle.meaning.specs.Rules.{directory_passes}
use Rattle.fields.proofs.directory_passes.Goals as goal

none-refuses : {A : Type 0} (r : Result A Refusal) → is_ok r ≡ eqb (refused_by r) 0
none-refuses (Ok a) = refl
none-refuses (Err e) = sym (ne_eqb (number e) 0 (number-some e))

pub returns : goal.returns
unfolding directory_passes
returns c = rw (c.is_ok.ensures.value, none-refuses, c.check.ensures)
