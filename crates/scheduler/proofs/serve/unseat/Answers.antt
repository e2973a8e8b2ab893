-- `serve::unseat` meets its contract: the two stores are the meaning's.
use native.Mathlib.Omega.{arith}
use Rattle.tables.specs.State.{read}
use Rattle.scheduler.proofs.GivenBack.{held-run, unseated-as}
use Rattle.scheduler.proofs.serve.unseat.Goals as goal

pub bounds-r-e : goal.bounds-r-e
bounds-r-e c = let b = c in rw b.entry_of-e.ensures (omega (arith, b.requires.1.waiters.worst))

pub give_back-requires : goal.give_back-requires
give_back-requires c =
    let s = c in
    held-run (read s.args.t) s.args.k c.entry_of-e.ensures s.requires.1 s.requires.2

pub bounds-r-e-2 : goal.bounds-r-e-2
bounds-r-e-2 c = let b = c in rw b.entry_of-e.ensures (omega (arith, b.requires.1.waiters.worst))

pub returns : goal.returns
returns c =
    let s = c in
    record {
      sound = s.requires.0;
      reads = unseated-as (read s.args.t) s.args.k c.entry_of-e.ensures c.give_back.ensures;
    }
