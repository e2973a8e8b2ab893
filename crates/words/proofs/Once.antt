-- No second answer, as one statement of any function's promise. Each crate's `Unique` shows it of its public functions.
use mathlib.Core.Path.{◌≡◌}
use seplogic.Ra.Ura.{Ura}
use base.Logic.{ent, sep, fst∗, snd∗}
use contract.Monad.{fact, fact_i, fact_use}

-- `Post` is what a contract says of the arguments, the result, and the parameters at exit; κs are the lifetimes of what the function borrows
abbrev pub OneAnswer : {L : Type 0} {G R E : L → Type 0} → ((κs : L) → G κs → R κs → E κs → Type 0) → Type 0
OneAnswer {L} {G} {R} {E} Post = (κs : L) (given : G κs) (r s : R κs) (end end' : E κs) → Post κs given r end → Post κs given s end' → r ≡ s

-- Where what a function promises of what it was lent is a clause of the program logic, it stands there as a fact: what the facts of two answers give.
module _ {M : Type 1} (𝓤 : Ura M) {A B C : Type 0} (give : A → B → C) where
  pub facts-once : ent 𝓤 (sep 𝓤 (fact 𝓤 A) (fact 𝓤 B)) (fact 𝓤 C)
  facts-once =
      fact_use 𝓤 _ (fst∗ 𝓤 (fact 𝓤 A) (fact 𝓤 B)) (λ p. fact_use 𝓤 _ (snd∗ 𝓤 (fact 𝓤 A) (fact 𝓤 B)) (λ q.
      fact_i 𝓤 C (sep 𝓤 (fact 𝓤 A) (fact 𝓤 B)) (give p q)))
