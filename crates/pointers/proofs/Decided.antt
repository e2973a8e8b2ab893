-- The walk decides the rule: it passes exactly where the pointers are those of nine lists apart.
use mathlib.Core.Path.{◌≡◌}
use lib.ListN.{get_or}
use Rattle.threads.specs.declared.Threads.{Threads}
use Rattle.meaning.specs.Rules.{pointers_sound}
use Rattle.words.proofs.Truth.{same_truth}
use Rattle.meaning.proofs.Pointers.{sound-of, of-sound, nine-queues}
use Rattle.pointers.proofs.Passes.{passes}
use Rattle.pointers.proofs.Found.{Lengths, passes-sound}
use Rattle.pointers.proofs.Goes.{sound-passes}
use Rattle.pointers.specs.Walked.{steps, no_marks}

pub decided : (t : Threads) → Lengths t → passes t steps 0 0 (get_or t.first 0 0) no_marks ≡ pointers_sound t
decided t s =
    same_truth (passes t steps 0 0 (get_or t.first 0 0) no_marks) (pointers_sound t)
    (λ e. of-sound t (passes-sound t s e))
    (λ e. sound-passes t (sound-of t (nine-queues t s.first) e))
