-- `told` meets its contract: the three numbers alone; words, with who begins to wait behind them; or the three numbers with the changed readings behind them.
use mathlib.Core.Path.{ap, ◌∙◌}
use mathlib.Core.List.{List, ◌++◌}
use Prim.Native.Nat.{ℕ}
use native.Mathlib.Omega.{arith}
use Rattle.readings.specs.Readings.{changed_of}
use Rattle.desk.proofs.telling.told.Goals as goal

pub returns-in-Numbers : goal.returns-in-Numbers
returns-in-Numbers c =
    let numbers = c.from-numbers.ensures in
    rw c.in-Numbers.is record { text = numbers.text; room = omega (arith, numbers.few) }

pub returns-in-Words : goal.returns-in-Words
returns-in-Words c =
    let words = c.call in
    let begun = c.begun.ensures in
    rw c.in-Words.is record {
      text = record { front = words.result; whole = begun.adds.text };
      room = omega (arith, words.ensures, begun.few);
    }

pub returns-in-Readings : goal.returns-in-Readings
returns-in-Readings c =
    let s = c.args in
    let numbers = c.from-numbers.ensures in
    let changed = c.changed.ensures in
    rw c.in-Readings.is record {
      text = changed.adds.text ∙ ap (λ (xs : List ℕ). xs ++ changed_of s.before s.after 24) numbers.text;
      room = omega (arith, numbers.few, changed.few);
    }
