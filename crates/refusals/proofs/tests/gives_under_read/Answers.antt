-- `tests::gives_under_read` meets its contract: another code is not refused so, and of a FREEMAIN it is what `pending` answers.
use mathlib.Core.Bool.{Bool, false, ◌&&◌}
use mathlib.Core.Path.{◌≡◌, ◌∙◌}
use mathlib.Core.Logic.{◌≢◌}
use Prim.Native.Nat.{ℕ}
use borrow.Author.Rules.{rules}
use borrow.Author.Tests.{eq-eqb, ne_eqb}
use lib.Dec.{eqb}
use Rattle.calls.specs.Calls.{FREEMAIN}
use Rattle.refusals.proofs.tests.gives_under_read.Goals as goal

-- of any code and any answer
another : (code : ℕ) (asked : Bool) → code ≢ FREEMAIN → false ≡ (eqb code FREEMAIN && asked)
another code asked d = rw (ne_eqb code FREEMAIN d)

freemain : (code : ℕ) (asked : Bool) → code ≡ FREEMAIN → asked ≡ (eqb code FREEMAIN && asked)
freemain code asked e = rw (eq-eqb code FREEMAIN e)

pub returns-then-code-ne-FREEMAIN : goal.returns-then-code-ne-FREEMAIN
returns-then-code-ne-FREEMAIN c = another c.args.code _ (search rules)

pub returns : goal.returns
returns c = c.pending.ensures ∙ freemain c.args.code _ (search rules)
