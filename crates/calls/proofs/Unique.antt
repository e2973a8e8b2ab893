-- No second answer: any two results that both meet what a public function of this crate promises are equal. `Post` is the promise itself, as the contract in
-- the source states it. An equation leaves one answer; three numbers fix an answer; and 16 bytes are fixed by the call that they spell.
use mathlib.Core.Bool.{Bool, true, false}
use mathlib.Core.Path.{◌≡◌, refl, sym, ap, ◌∙◌}
use mathlib.Core.List.{List, [], ◌∷◌}
use Prim.Native.Nat.{ℕ, ◌<◌}
use native.Mathlib.Omega.{arith}
use lib.Dec.{eqb}
use lib.ListN.{length, get_or}
use borrow.Author.Tests.{eqb-true}
use denote.RattleType.{RattleType}
use denote.Param.Laws.{Laws, IsCopy}
use Rattle.std.specs.Prelude.{Result, Ok, Err}
use Rattle.words.specs.Words.{if◌then◌else◌}
use Rattle.words.proofs.Once.{OneAnswer}
use Rattle.answers.specs.declared.Refusal.{Refusal}
use Rattle.answers.specs.declared.Refusal.TheVariants.{CallLength}
use Rattle.answers.specs.Answer.{refused_by}
use Rattle.calls.specs.Calls.{call_of, arrival}
use Rattle.calls.specs.declared.Call.{Call}
use Rattle.calls.specs.declared.Answer.{Answer}
use Rattle.calls.proofs.CallTryFromRefSliceU8.try_from.Reads as read
use Rattle.calls.proofs.Written.{bytes_of, written_back}
use Rattle.calls.proofs.ArrayU816FromCall.from.Reads as write
use Rattle.calls.proofs.numbers.Reads as numbers
use Rattle.calls.proofs.codes.is_known.Reads as is_Known
use Rattle.calls.proofs.codes.needs_task.Reads as needs-task

pub read_only : OneAnswer read.Post
read_only κs given r s end end' p q = p ∙ sym q

-- bytes that arrive as a call are 16, and spell it
record Arrived (b : List ℕ) (c : Call) : Type 0 where
  long : length b ≡ 16
  spelt : call_of b ≡ c

arrived-where : (whole : Bool) (b : List ℕ) (c : Call) → (whole ≡ true → length b ≡ 16)
    → ◌≡◌ {A = Result Call Refusal} (if whole then Ok (call_of b) else Err CallLength) (Ok c) → Arrived b c
arrived-where true b c long e = record { long = long refl; spelt = cc }
arrived-where false b c long e = let z : ◌≡◌ {A = ℕ} 10 0 = ap refused_by e in absurd (omega arith)

arrived : (b : List ℕ) (c : Call) → arrival b ≡ Ok c → Arrived b c
unfolding arrival
arrived b c e = arrived-where (eqb (length b) 16) b c (eqb-true (length b) 16) e

-- the bytes that are written: an array of bytes, each below 256
module _ (call : Call) (r s : List ℕ) (r-bytes : (k : ℕ) → get_or r k 0 < 256) (s-bytes : (k : ℕ) → get_or s k 0 < 256) where
  pub write-only : write.Post tt (call, tt) r (call, tt) → write.Post tt (call, tt) s (call, tt) → r ≡ s
  write-only p q =
      let one = arrived r call p in
      let two = arrived s call q in
      sym (written_back r r-bytes one.long) ∙ ap bytes_of (one.spelt ∙ sym two.spelt) ∙ written_back s s-bytes two.long

-- the answer of three numbers: what `numbers` promises lists them
abbrev whole : ℕ → ℕ → ℕ → Answer
whole a b c = record { refusal = a; result = b; running = c }

pub one_answer : (r s : Answer) (ns : List ℕ) → r.refusal ∷ r.result ∷ r.running ∷ [] ≡ ns → s.refusal ∷ s.result ∷ s.running ∷ [] ≡ ns → r ≡ s
one_answer r s ns p q =
    let same : whole r.refusal r.result r.running ≡ whole s.refusal s.result s.running = cc in
    same

-- whatever refuses: a refusal, or any number
pub numbers-only : (N : RattleType) (laws : Laws N) (copy : IsCopy N) (by : _) (dict : _) (clone : _) (cloned : _)
    → OneAnswer (numbers.Post N laws copy by dict clone cloned)
numbers-only N laws copy by dict clone cloned κs given r s end end' p q = one_answer r s _ p q

pub is-known-only : OneAnswer is_Known.Post
is-known-only κs given r s end end' p q = p ∙ sym q

pub needs-task-only : OneAnswer needs-task.Post
needs-task-only κs given r s end end' p q = p ∙ sym q
