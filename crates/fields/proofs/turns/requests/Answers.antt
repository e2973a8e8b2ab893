-- The pass over the request blocks. The invariant: each block so far passes, and the set has the owners of the pending ones among them.
use mathlib.Core.Path.{◌≡◌, refl, sym, ap, ◌∙◌}
use borrow.Author.Count.{below_more}
use Rattle.words.proofs.OneTo.{some-start}
use Rattle.words.proofs.Members.{has-none}
use Rattle.words.specs.Words.{one_to, some_of, has}
use Rattle.tables.specs.Blocks.{request_blocks}
use Rattle.tables.specs.State.{read, request_at}
use Rattle.fields.specs.Blocks.{pends, request_passes}
use Rattle.fields.proofs.Gathered.{each-passes, one-fails, some-turn, request-turn}
use native.Mathlib.Omega.{arith}
use Prim.Native.Nat.{ℕ, ◌-◌}
use Rattle.fields.proofs.turns.requests.Goals as goal
use Rattle.fields.proofs.turns.requests.Goals.{After-request_right}

turn : (c : After-request_right) → c.request_right.result ≡ request_passes (read c.args.t.now) c.loop-r.r
turn c =
    request-turn c.args.t.now c.requires c.loop-r.r (omega arith) (c.has-free.ensures ∙ ap (has c.args.t.now.free_requests) c.from.ensures)
    (rw c.from-at.ensures at c.request_right.ensures)

pub loop-r-init : goal.loop-r-init
loop-r-init c = record { pass = λ n h l. absurd (omega arith); own = λ k l. has-none k ∙ some-start _ }

pub returns-then-not-request_right : goal.returns-then-not-request_right
returns-then-not-request_right c =
    let e = turn (goal.at.returns-then-not-request_right c).After-request_right in
    one-fails (request_passes (read c.args.t.now)) request_blocks c.loop-r.r (omega arith) (omega arith) (sym e ∙ c.if-not-request_right.true)

pub loop-r-preserved : goal.loop-r-preserved
loop-r-preserved c =
    let s = read c.args.t.now in
    let i = c.loop-r.invariant in
    let e = turn (goal.at.loop-r-preserved c).After-request_right in
    record {
      pass = below_more _ _ i.pass (λ l. sym e ∙ c.if-not-request_right.false);
      own = λ k h.
          (rw c.from-at.ensures at (c.with_owner-owners.ensures k h))
          ∙ some-turn (λ n. pends k (request_at s n)) c.loop-r.r {b = has c.loop-r.owners k} {r = pends k (request_at s c.loop-r.r)} (omega arith) (i.own k h) refl;
    }

pub returns : goal.returns
returns c =
    let s = read c.args.t.now in
    let i = c.loop-r.invariant in
    let n : c.loop-r.r - 1 ≡ request_blocks = omega arith in (
      each-passes (request_passes s) request_blocks c.loop-r.r i.pass (omega arith),
      record { each = λ k h. i.own k h ∙ ap (λ (m : ℕ). some_of (λ n. pends k (request_at s n)) (one_to m)) n },
    )
