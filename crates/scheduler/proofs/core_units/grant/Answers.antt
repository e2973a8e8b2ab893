-- `core_units::grant` meets its contract: the run is free by the search, and the two stores are the meaning's.
use Rattle.tables.specs.State.{read}
use Rattle.scheduler.proofs.Granted.{grant-free, granted-as}
use Rattle.scheduler.proofs.core_units.grant.Goals as goal

pub grant-requires : goal.grant-requires
grant-requires c = grant-free (read c.args.t) c.requires.0

pub returns : goal.returns
returns c =
    let s = c in
    record { sound = s.requires.1; reads = rw c.grant.ensures (granted-as (read s.args.t) s.requires.0) }
