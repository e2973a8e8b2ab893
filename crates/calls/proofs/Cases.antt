-- The number of what arrived, and what arrived by a number: the number of `arrival` is what the paper says of the bytes, and a number says what arrived, the call
-- of the bytes at 0 and else the refusal that has it.
use mathlib.Core.Bool.{Bool, true, false}
use mathlib.Core.Path.{◌≡◌, refl, sym, ap}
use mathlib.Core.List.{List}
use Prim.Native.Nat.{ℕ}
use lib.Dec.{eqb}
use lib.ListN.{length}
use Rattle.std.specs.Prelude.{Result, Ok, Err}
use Rattle.words.specs.Words.{if◌then◌else◌}
use Rattle.answers.specs.declared.Refusal.{Refusal}
use Rattle.answers.specs.declared.Refusal.TheVariants.{CallLength}
use Rattle.answers.specs.Answer.{number}
use Rattle.answers.proofs.Cases.{number-once, number-some}
use Rattle.calls.specs.declared.Call.{Call}
use Rattle.calls.specs.Calls.{call_of, cut_by, arrival}

arrives : Bool → Call → Result Call Refusal
arrives whole c = if whole then Ok c else Err CallLength

cut-where : (whole : Bool) (c : Call) → cut_by (arrives whole c) ≡ (if whole then 0 else 10)
unfolding arrives
cut-where true c = refl
cut-where false c = refl

pub cut_by_lem : (b : List ℕ) → cut_by (arrival b) ≡ (if eqb (length b) 16 then 0 else 10)
unfolding arrival arrives
cut_by_lem b = cut-where (eqb (length b) 16) (call_of b)

came-where : (whole : Bool) (c : Call) → cut_by (arrives whole c) ≡ 0 → arrives whole c ≡ Ok c
unfolding arrives
came-where true c e = refl
came-where false c e = absurd (number-some CallLength e)

pub came : (b : List ℕ) → cut_by (arrival b) ≡ 0 → arrival b ≡ Ok (call_of b)
unfolding arrival arrives
came b e = came-where (eqb (length b) 16) (call_of b) e

pub cut : (r : Result Call Refusal) (e : Refusal) → cut_by r ≡ number e → r ≡ Err e
cut (Ok c) e z = absurd (number-some e (sym z))
cut (Err f) e z = ap Err (number-once f e z)
