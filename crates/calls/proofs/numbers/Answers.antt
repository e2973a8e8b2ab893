-- `numbers` meets its contract, case by case, whatever refuses: by the number that it has.
use mathlib.Core.Path.{sym, ◌∙◌}
use borrow.Author.Tests.{eq-eqb, ne_eqb}
use Rattle.calls.specs.Calls.{numbers}
use Rattle.calls.proofs.numbers.Goals as goal

pub returns-in-Ok : goal.returns-in-Ok
unfolding numbers
returns-in-Ok g c = rw c.in-Ok.is

pub returns-then-refusal-broken : goal.returns-then-refusal-broken
unfolding numbers
returns-then-refusal-broken g c =
    rw (c.in-Err.is, ← c.numbered-refusal.ensures, eq-eqb c.numbered-refusal.result 9 (c.if-refusal-broken.true ∙ c.from-broken.ensures))

pub returns-else-refusal-broken : goal.returns-else-refusal-broken
unfolding numbers
returns-else-refusal-broken g c =
    rw (c.in-Err.is, ← c.numbered-refusal.ensures, ne_eqb c.numbered-refusal.result 9 (λ z. c.if-refusal-broken.false (z ∙ sym c.from-broken.ensures)))
