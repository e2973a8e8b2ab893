-- What a line that is a call gives.
use Rattle.std.specs.Prelude.{◌≡◌, ℕ, ◌≤◌, Bool, true, false, ◌||◌, ◌==◌, Result, IfOk}
use Rattle.calls.specs.Calls.{SCHEDULE, WAIT, known}
use Rattle.calls.specs.declared.Call.{Call}
use Rattle.faults.specs.declared.Wrong.{Wrong}
use Rattle.compose.specs.declared.verbs.Verb.{Verb}
use Rattle.compose.specs.declared.verbs.Verb.TheVariants.{Every, Events, Module, Any, Call as CallOf}

-- what a first word stands for has one of document 01's codes, or none
abbrev pub verb_known : Verb → Bool
verb_known Every = true
verb_known Events = true
verb_known Module = true
verb_known Any = true
verb_known (CallOf code shape) = known code

-- "Only codes 7 and 8 use kind and set."
abbrev pub conditional : ℕ → Bool
conditional code = code == SCHEDULE || code == WAIT

-- What follows a first word has a kind that exists.
abbrev pub Follows : Result Call Wrong → Type 0
Follows r = IfOk r (λ c. c.kind ≤ 3)

-- The call has the code that the line names, a kind that exists, and the numbers that were read; where the code uses no kind and no set, both are 0.
pub record Composes (named : ℕ) (given r : Call) : Type 0 where
  pub code : r.code ≡ named
  pub kind : r.kind ≤ 3
  pub number : r.number ≡ given.number
  pub value : r.value ≡ given.value
  pub amount : r.amount ≡ given.amount
  pub used : conditional named ≡ true → (r.kind ≡ given.kind) × (r.events ≡ given.events)
  pub bare : conditional named ≡ false → (r.kind ≡ 0) × (r.events ≡ 0)
