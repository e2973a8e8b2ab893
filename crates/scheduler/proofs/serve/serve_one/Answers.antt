-- `serve::serve_one` meets its contract: it leaves the core queue, is granted its run, and joins the ready queue.
use mathlib.Core.Path.{sym, ap, ◌∙◌}
use native.Mathlib.Omega.{arith}
use Rattle.threads.specs.Threads.{counts}
use Rattle.tables.proofs.Held.{left_out}
use Rattle.tables.specs.State.{State, core_queue, leaving, read}
use Rattle.meaning.specs.Ready.{given_run}
use Rattle.scheduler.proofs.Served.{seated-as, moved-start}
use Rattle.scheduler.proofs.Granted.{granted-out}
use Rattle.scheduler.proofs.serve.serve_one.Goals as goal

pub grant-u-requires : goal.grant-u-requires
grant-u-requires c =
    let p = c.requires in
    let e = c.leave-v.ensures in (
      rw e.reads (record {
        low = p.waiter.low;
        worst = p.worst;
        start = p.start;
        own-level = sym p.waiter.own;
        own-units = p.own-units;
        own-start = moved-start (read c.args.t) (core_queue c.args.level) c.args.k p.own-start;
      }),
      e.sound,
    )

pub put_in-requires : goal.put_in-requires
put_in-requires c =
    let s = c in
    let p = s.requires in
    let e = c.grant-u.ensures in
    let l = c.leave-v.ensures in
    let out = ap (λ (x : State). counts s.args.k (given_run x s.args.k).queues) l.reads ∙ granted-out (leaving (read s.args.t) (core_queue s.args.level) s.args.k) s.args.k s.args.k (left_out p.member) in (
      record {
        sound = e.sound;
        queue = omega (arith, p.worst);
        some = p.waiter.some;
        low = omega (arith, p.waiter.low);
        none = ap (λ (x : State). counts s.args.k x.queues) e.reads ∙ out;
      },
      p.waiter.low,
    )

pub returns : goal.returns
returns c =
    let s = c in
    let e = c.grant-u.ensures.reads ∙ ap (λ (x : State). given_run x s.args.k) c.leave-v.ensures.reads in
    rw (← seated-as (read s.args.t) (core_queue s.args.level) s.args.k, s.requires.waiter.own, ← e) c.put_in.ensures
