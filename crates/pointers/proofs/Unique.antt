-- No second answer: any two results that both meet what `walked` promises are equal. Whether there are marks is a test of the pointers; where it holds each mark
-- is given. `Post` is the promise itself, as the contract in the source states it.
use mathlib.Core.Bool.{Bool, true, false}
use mathlib.Core.Path.{◌≡◌, refl, sym, ap, ◌∙◌}
use mathlib.Core.List.{List}
use Prim.Native.Nat.{ℕ, ◌≤◌}
use native.Mathlib.Omega.{arith}
use lib.Seq.{ext_get_or}
use Rattle.std.specs.Prelude.{Option, Some, None, is_some, unwrap_or}
use Rattle.words.proofs.Once.{OneAnswer}
use Rattle.threads.specs.declared.Threads.{Threads}
use Rattle.meaning.specs.Rules.{pointers_sound}
use Rattle.pointers.specs.Walked.{Walks, no_marks}
use Rattle.pointers.proofs.walked.Reads as walked
use Rattle.threads.specs.Threads.{BLOCKS}

module _ {t : Threads} {ok ok' : Bool} {m m' : List ℕ} (p : Walks t ok m) (q : Walks t ok' m') where
  marks-once : (b : Bool) → pointers_sound t ≡ b → m ≡ m'
  marks-once true e = ext_get_or 0 m m' (p.many ∙ sym q.many) (λ y h. let low : y ≤ BLOCKS = omega (arith, p.many) in p.stands e y low ∙ sym (q.stands e y low))
  marks-once false e = p.none e ∙ sym (q.none e)

same-option : (a b : Option (List ℕ)) → is_some a ≡ is_some b → unwrap_or a no_marks ≡ unwrap_or b no_marks → a ≡ b
same-option None None e f = refl
same-option None (Some b) e f = cc
same-option (Some a) None e f = cc
same-option (Some a) (Some b) e f = ap (λ (l : List ℕ). Some l) f

pub walked-only : OneAnswer walked.Post
walked-only κs given r s end end' p q = same-option r s (p.right ∙ sym q.right) (marks-once p q (pointers_sound given.0) refl)
