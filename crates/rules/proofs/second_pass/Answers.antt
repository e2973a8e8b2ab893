-- The second pass is its rules, as the two functions that it calls give them.
use Rattle.tables.specs.State.{read}
use Rattle.words.proofs.Named.{joined, chain, chain-all}
use Rattle.rules.specs.Orderly.{link_tests, queue_tests, second_pass}
use mathlib.Core.Bool.{Bool, ◌&&◌}
use mathlib.Core.Path.{ap₂, ◌∙◌}
use Rattle.rules.proofs.second_pass.Goals as goal

pub returns : goal.returns
unfolding second_pass link_tests queue_tests chain joined
returns c =
    let s = read c.args.t.now in
    ap₂ (λ (a b : Bool). a && b) (c.links_right.ensures ∙ chain-all (link_tests s)) (c.queues_right.ensures ∙ chain-all (queue_tests s))
