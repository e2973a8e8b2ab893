-- A block that is zero: the test of its fields, and the block itself. Field by field.
use mathlib.Core.Bool.{true}
use mathlib.Core.Path.{◌≡◌, ap}
use borrow.Author.Tests.{eqb-true}
use Rattle.tables.specs.declared.Task.{Task}
use Rattle.tables.specs.declared.Request.{Request}
use Rattle.tables.specs.Blocks.{no_task, no_request}
use Rattle.meaning.specs.Rules.{blank_task, blank_request}
use Rattle.meaning.proofs.Parts.{sides}

pub task-blank : (t : Task) → blank_task t ≡ true → t ≡ no_task
task-blank t e =
    λ i. record {
      place = eqb-true t.place 0 (search sides depth 10) i;
      program = eqb-true t.program 0 (search sides depth 10) i;
      parent = eqb-true t.parent 0 (search sides depth 10) i;
      core = eqb-true t.core 0 (search sides depth 10) i;
      start = eqb-true t.start 0 (search sides depth 10) i;
      count = eqb-true t.count 0 (search sides depth 10) i;
      events = eqb-true t.events 0 (search sides depth 10) i;
      time = eqb-true t.time 0 (search sides depth 10) i;
      since = eqb-true t.since 0 (search sides depth 10) i;
      request = eqb-true t.request 0 (search sides depth 10) i;
    }

pub of-task-blank : {t : Task} → t ≡ no_task → blank_task t ≡ true
of-task-blank e = ap blank_task e

pub request-blank : (q : Request) → blank_request q ≡ true → q ≡ no_request
request-blank q e =
    λ i. record {
      place = eqb-true q.place 0 (search sides depth 10) i;
      owner = eqb-true q.owner 0 (search sides depth 10) i;
      device = eqb-true q.device 0 (search sides depth 10) i;
      command = eqb-true q.command 0 (search sides depth 10) i;
      bytes = eqb-true q.bytes 0 (search sides depth 10) i;
    }

pub of-request-blank : {q : Request} → q ≡ no_request → blank_request q ≡ true
of-request-blank e = ap blank_request e
