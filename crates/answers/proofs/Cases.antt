-- The numbers of an answer and the answer of two numbers undo each other: what `outcome_of` gives has the numbers that it was given, a refused one the result 0,
-- and every answer but one refused by 0, which nothing gives, is that of its numbers. No two refusals have one number, so that an answer is no other result's.
use mathlib.Core.Path.{◌≡◌, refl, sym, ap, ◌∙◌}
use mathlib.Core.Logic.{◌≢◌, ⊎_elim}
use Prim.Native.Nat.{ℕ}
use native.Mathlib.Omega.{arith}
use native.Mathlib.Nat.{eq-zero-or-pos}
use lib.Dec.{eqb}
use borrow.Author.Tests.{eq-eqb, ne_eqb}
use Rattle.std.specs.Prelude.{Result, Ok, Err}
use Rattle.words.specs.Words.{if◌then◌else◌}
use Rattle.answers.specs.declared.Refusal.{Refusal}
use Rattle.answers.specs.declared.Refusal.TheVariants.{Length, BlockCheck, Form, Modules, Every, UsedEntry, NotZero, Rules, CallLength, NoCode, NoTask, Pending, NoModule, NoEvent, NoDevice, Amount, NotHeld, Kind, Count, PastEnd, NoTaskBlock, NoRequestBlock, ChannelEmpty, ClockEnd}
use Rattle.answers.specs.Answer.{Outcome, Refused, Accepted, refusal_of, result_of, outcome_of, number, answered}

pub refusal-of : (n r : ℕ) → refusal_of (outcome_of n r) ≡ n
refusal-of n r = ⊎_elim (λ z. rw (eq-eqb n 0 z) (sym z)) (λ h. rw (ne_eqb n 0 (λ z. omega arith))) (eq-zero-or-pos n)

pub result-of : (n r : ℕ) → result_of (outcome_of n r) ≡ (if eqb n 0 then r else 0)
result-of n r = ⊎_elim (λ z. rw (eq-eqb n 0 z)) (λ h. rw (ne_eqb n 0 (λ z. omega arith))) (eq-zero-or-pos n)

pub of-numbers : (o : Outcome) → o ≢ Refused 0 → outcome_of (refusal_of o) (result_of o) ≡ o
of-numbers (Refused n) h = rw (ne_eqb n 0 (λ z. h (ap Refused z)))
of-numbers (Accepted r) h = refl

pub refused-by : (n : ℕ) → n ≢ 0 → outcome_of n 0 ≡ Refused n
refused-by n h = rw (ne_eqb n 0 h)

-- the refusal that has a number
abbrev numbered : ℕ → Refusal
numbered n =
    if eqb n 1 then Length else if eqb n 2 then BlockCheck else if eqb n 3 then Form else if eqb n 4 then Modules
    else if eqb n 5 then Every else if eqb n 6 then UsedEntry else if eqb n 7 then NotZero else if eqb n 9 then Rules
    else if eqb n 10 then CallLength else if eqb n 11 then NoTask else if eqb n 12 then NoModule else if eqb n 13 then Kind
    else if eqb n 14 then Count else if eqb n 15 then PastEnd else if eqb n 16 then NoTaskBlock else if eqb n 17 then NoRequestBlock
    else if eqb n 18 then NotHeld else if eqb n 19 then NoEvent else if eqb n 20 then ChannelEmpty else if eqb n 21 then ClockEnd
    else if eqb n 22 then NoDevice else if eqb n 23 then Amount else if eqb n 24 then NoCode else Pending

numbered-number : (e : Refusal) → numbered (number e) ≡ e
numbered-number Length = refl
numbered-number BlockCheck = refl
numbered-number Form = refl
numbered-number Modules = refl
numbered-number Every = refl
numbered-number UsedEntry = refl
numbered-number NotZero = refl
numbered-number Rules = refl
numbered-number CallLength = refl
numbered-number NoCode = refl
numbered-number NoTask = refl
numbered-number Pending = refl
numbered-number NoModule = refl
numbered-number NoEvent = refl
numbered-number NoDevice = refl
numbered-number Amount = refl
numbered-number NotHeld = refl
numbered-number Kind = refl
numbered-number Count = refl
numbered-number PastEnd = refl
numbered-number NoTaskBlock = refl
numbered-number NoRequestBlock = refl
numbered-number ChannelEmpty = refl
numbered-number ClockEnd = refl

-- no two refusals have one number
pub number-once : (e f : Refusal) → number e ≡ number f → e ≡ f
number-once e f h = sym (numbered-number e) ∙ ap numbered h ∙ numbered-number f

-- no refusal has the number 0
pub number-some : (e : Refusal) → number e ≢ 0
number-some e h = let pending : Pending ≡ e = ap numbered (sym h) ∙ numbered-number e in
    let z : number Pending ≡ 0 = ap number pending ∙ h in omega (arith, z)

-- an answer is that of one result
pub answered-once : (r s : Result ℕ Refusal) → answered number r ≡ answered number s → r ≡ s
answered-once (Ok a) (Ok b) h = ap Ok (ap result_of h)
answered-once (Ok a) (Err f) h = absurd (number-some f (sym (ap refusal_of h)))
answered-once (Err e) (Ok b) h = absurd (number-some e (ap refusal_of h))
answered-once (Err e) (Err f) h = ap Err (number-once e f (ap refusal_of h))
