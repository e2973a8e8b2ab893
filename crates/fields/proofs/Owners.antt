-- The set of the tasks that have a request pending, as one pending request more is looked at.
use mathlib.Core.Bool.{Bool, true, false, ◌&&◌, ◌||◌}
use mathlib.Core.Path.{◌≡◌, refl, sym, ap, ◌∙◌}
use mathlib.Core.Logic.{⊎_elim}
use Prim.Native.Nat.{ℕ}
use lib.Dec.{eqb}
use borrow.Author.Tests.{eq-eqb, ne_eqb}
use Rattle.words.proofs.Truth.{tested}
use Rattle.words.specs.Words.{has, adding}
use Rattle.words.proofs.Changes.{has-adding}
use Rattle.tables.specs.declared.Request.{Request}
use Rattle.fields.specs.Blocks.{pends}

and-all : (a b : Bool) → b ≡ true → (a && b) ≡ a
and-all true b e = e
and-all false b e = refl

pub eqb_swap : (a b : ℕ) → eqb a b ≡ eqb b a
eqb_swap a b = ⊎_elim (λ e. e.0 ∙ sym (eq-eqb b a (sym e.1))) (λ e. e.0 ∙ sym (ne_eqb b a (λ f. e.1 (sym f)))) (tested a b)

module _ (owners : ℕ) (q : Request) (k : ℕ) where
  pub owner-in : (eqb q.place 1 || eqb q.place 2) ≡ true → has (adding owners q.owner) k ≡ (has owners k || pends k q)
  owner-in h =
      has-adding owners q.owner k
      ∙ ap (λ (b : Bool). has owners k || b) (eqb_swap k q.owner ∙ sym (and-all (eqb q.owner k) _ h))
