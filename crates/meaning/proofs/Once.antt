-- What the code of a call promises leaves one answer: the tables that show its state, and the result with them.
use mathlib.Core.Path.{◌≡◌, ap}
use Prim.Native.Nat.{ℕ}
use Rattle.std.specs.Prelude.{Result}
use Rattle.answers.specs.declared.Refusal.{Refusal}
use Rattle.answers.specs.Answer.{number}
use Rattle.answers.proofs.Cases.{answered-once}
use Rattle.tables.specs.declared.Tables.{Tables}
use Rattle.tables.specs.State.{State}
use Rattle.tables.specs.Held.{Shows}
use Rattle.tables.proofs.Held.{shown-once}
use Rattle.calls.specs.declared.Call.{Call}
use Rattle.meaning.specs.declared.Given.{Given}
use Rattle.meaning.specs.Given.{Gives}
use Rattle.meaning.specs.Services.{Effect}
use Rattle.meaning.specs.declared.Stepped.{Stepped}
use Rattle.meaning.specs.Step.{Step, stepped}

abbrev given : Tables → ℕ → Given
given t n = record { tables = t; result = n }

pub gives-once : {r s : Given} {e : Effect} → Gives r e → Gives s e → r ≡ s
gives-once {r} {s} p q =
    let tables = shown-once p.shows q.shows in
    let same : given r.tables r.result ≡ given s.tables s.result = cc in
    same

-- a promise for every call, of a function that is given none: the call that is all zero will do
abbrev no_call : Call
no_call = record { code = 0; kind = 0; number = 0; value = 0; amount = 0; events = 0 }

pub call-once : {t u : Tables} {state : Call → State} → ((c : Call) → Shows t (state c)) → ((c : Call) → Shows u (state c)) → t ≡ u
call-once p q = shown-once (p no_call) (q no_call)

-- a step is that of one value of the code
abbrev of_parts : Tables → Result ℕ Refusal → Stepped Refusal
of_parts t o = record { tables = t; outcome = o }

pub stepped-once : (r s : Stepped Refusal) → stepped number r ≡ stepped number s → r ≡ s
stepped-once r s e =
    let tables = ap (λ (x : Step). x.tables) e in
    let outcome = answered-once r.outcome s.outcome (ap (λ (x : Step). x.outcome) e) in
    let same : of_parts r.tables r.outcome ≡ of_parts s.tables s.outcome = cc in
    same
