-- The chain over the three arrays: true where each place is clear, and false where one is not.
use Rattle.std.proofs.Common.{arith}
use Rattle.std.proofs.lemmas.Grind.{common_steps}
use Rattle.pointers.specs.Walked.{clear_at}
use Rattle.pointers.proofs.Passes.{rest-told}
use Rattle.pointers.proofs.rest_clear.Goals as goal

pub returns : goal.returns
unfolding clear_at
returns c =
    let a = c.args in
    rest-told a.t a.marks {b = c.all.result} (λ h y l. grind (arith, common_steps)) (λ h. grind (arith, common_steps))
