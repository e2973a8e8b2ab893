-- `step` meets its contract: where the rules break it is 9, and where they hold the tables are lawful, which is all that `services` asks.
use borrow.Author.Rules.{rules}
use mathlib.Core.Path.{sym, ◌∙◌}
use Prim.Native.Nat.{ℕ}
use lib.ListN.{get_or}
use mir.Syntax.{w64}
use mir.Val.{Fits}
use Rattle.meaning.specs.Step.{refused}
use Rattle.lawful.specs.Tables.{Typed}
use Rattle.lawful.proofs.Told.Steps.{rules-tables}
use Rattle.executive.proofs.Broken.{broken}
use Rattle.executive.proofs.step.Goals as goal

pub returns-then-not-holds : goal.returns-then-not-holds
unfolding refused
returns-then-not-holds c = broken _ _ (sym c.holds.ensures ∙ c.if-not-holds.true)

pub call-requires : goal.call-requires
call-requires c =
    -- what the types of the tables say: each array has its length, and a pool is 64 bits
    let fits : (level : ℕ) → Fits w64 (get_or c.args.t.pools level 0) = λ level. search rules in
    let typed : Typed c.args.t = record {
      tasks = search rules;
      requests = search rules;
      pools = search rules;
      queues = search rules;
      low = λ level. (fits level).fits;
    } in
    rules-tables _ typed (sym c.holds.ensures ∙ c.if-not-holds.false)
