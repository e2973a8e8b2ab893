-- `serve::give_back` meets its contract: without a run nothing changes; else the run is freed and the queue served.
use mathlib.Core.Path.{sym}
use Rattle.tables.specs.State.{read}
use Rattle.scheduler.proofs.GivenBack.{keeps-core, gives-core, unseated-waiters}
use Rattle.scheduler.proofs.serve.give_back.Goals as goal

pub returns-then-x-ne-HOLDS_RUN : goal.returns-then-x-ne-HOLDS_RUN
returns-then-x-ne-HOLDS_RUN c =
    let s = c in
    record { sound = s.requires.0; reads = sym (keeps-core (read s.args.t) s.args.k c.if-x-ne-HOLDS_RUN.true) }

pub serve-requires : goal.serve-requires
serve-requires c =
    let s = c in
    let u = c.unseat-u.ensures in
    (u.sound, rw u.reads (unseated-waiters (read s.args.t) s.args.k c.entry_of-e.ensures s.requires.1))

pub returns : goal.returns
returns c =
    let s = c in
    rw (gives-core (read s.args.t) s.args.k c.entry_of-e.ensures c.if-x-ne-HOLDS_RUN.false, ← c.unseat-u.ensures.reads)
    c.serve.ensures
