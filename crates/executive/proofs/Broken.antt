-- Tables that break the rules are answered 9: it is the first row of the table of refusals.
use mathlib.Core.Bool.{false}
use mathlib.Core.Path.{◌≡◌}
use mathlib.Core.List.{List}
use Prim.Native.Nat.{ℕ}
use Rattle.words.specs.Rows.{first_of}
use Rattle.tables.specs.declared.Tables.{Tables}
use Rattle.meaning.specs.Rules.{rules_hold}
use Rattle.meaning.specs.Refusals.{refusals}
use Rattle.meaning.specs.Step.{refused, step_of}

pub broken : (t : Tables) (bytes : List ℕ) → rules_hold t ≡ false → refused t 9 ≡ step_of t bytes
unfolding step_of refusals first_of
broken t bytes e = rw e
