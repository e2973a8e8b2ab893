-- `serve::serve` meets its contract: the invariant is `Turn`, and the queue gets shorter.
use native.Mathlib.Omega.{arith}
use mathlib.Core.Path.{sym, ap, ◌∙◌}
use Rattle.image.specs.declared.Entry.{Entry}
use Rattle.scheduler.proofs.Served.{turn-start, turn_end, turn-waiter, turn-member, turn_at, turn-fits, turn-stop, turn-next, turn-less}
use Rattle.scheduler.proofs.serve.serve.Goals as goal

pub loop-k-init : goal.loop-k-init
loop-k-init c = turn-start c.requires c.first_of-k.ensures

pub entry_of-e-requires : goal.entry_of-e-requires
entry_of-e-requires c = let w = turn-waiter c.loop-k.invariant c.loop-k-test.true in (w.low, w.program)

pub offset_bounds-u-level : goal.offset_bounds-u-level
offset_bounds-u-level c = omega (arith, c.loop-k.invariant.waiters.worst)

pub bounds-u-level : goal.bounds-u-level
bounds-u-level c = omega (arith, c.loop-k.invariant.waiters.worst)

pub returns-in_default : goal.returns-in_default
returns-in_default c =
    let i = c.loop-k.invariant in
    let n = c.loop-k-test.true in
    let e = ap (λ (x : Entry). x.units) c.entry_of-e.ensures in
    turn-stop i n e (sym c.find.ensures ∙ c.in_default.is)

pub serve_one-u-requires : goal.serve_one-u-requires
serve_one-u-requires c =
    let i = c.loop-k.invariant in
    let n = c.loop-k-test.true in
    let e = ap (λ (x : Entry). x.units) c.entry_of-e.ensures in
    let f = turn_at i n e (sym c.find.ensures ∙ c.in-Some.is) in
    record {
      best = i.waiters.best;
      worst = i.waiters.worst;
      member = turn-member i n;
      waiter = turn-waiter i n;
      start = f.1;
      own-units = e;
      own-start = f.0;
    }

pub first_of-k-requires-in-loop-k : goal.first_of-k-requires-in-loop-k
first_of-k-requires-in-loop-k c = (c.serve_one-u.ensures.sound, omega (arith, c.loop-k.invariant.waiters.worst))

pub loop-k-smaller : goal.loop-k-smaller
loop-k-smaller c =
    let b = c in
    turn-less b.loop-k.invariant b.loop-k-test.true c.serve_one-u.ensures

pub loop-k-preserved : goal.loop-k-preserved
loop-k-preserved c =
    let b = c in
    let e = ap (λ (x : Entry). x.units) c.entry_of-e.ensures in
    let f = turn-fits b.loop-k.invariant b.loop-k-test.true e (sym c.find.ensures ∙ c.in-Some.is) in
    turn-next b.loop-k.invariant b.loop-k-test.true c.serve_one-u.ensures f c.first_of-k-in-loop-k.ensures

pub returns : goal.returns
returns c = turn_end c.loop-k.invariant c.loop-k-test.false
