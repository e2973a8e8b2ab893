-- The first pass is its parts, as the functions that it calls give them.
use Rattle.words.proofs.Named.{joined, chain, chain-all}
use Rattle.words.proofs.Truth.{and-true}
use Rattle.words.specs.Words.{all_true}
use Rattle.tables.specs.State.{read}
use Rattle.fields.specs.Blocks.{first_tests, first_pass}
use Rattle.fields.proofs.ByPlace.{and_none}
use Rattle.fields.proofs.first_pass.Goals as goal

pub returns-in_default : goal.returns-in_default
unfolding first_pass first_tests all_true
returns-in_default c = rw c.in_default.ensures (simp and_none)

pub returns : goal.returns
unfolding first_pass first_tests chain joined
returns c =
    rw (c.directory_passes.ensures, c.has.ensures, c.has-2.ensures, c.blank_task.ensures, c.blank_request.ensures, c.tasks.ensures, c.in-Some.ensures.0)
    (simp and-true at (rw c.in-Some.ensures.0 at (chain-all (first_tests (read c.args.t)))))
