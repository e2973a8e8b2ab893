-- `queue::level` meets its contract: the request's owner is a task block, of a module of the directory.
use mathlib.Core.Path.{refl}
use native.Mathlib.Omega.{arith}
use Prim.Native.Nat.{◌-◌}
use Rattle.meaning.specs.Channel.{channel_level}
use Rattle.channel.proofs.queue.level.Goals as goal

pub bounds-t-task : goal.bounds-t-task
bounds-t-task c = c.requires.0.program (c.args.n - 24) (omega (arith, c.requires.2))

pub returns : goal.returns
unfolding channel_level
returns c = refl
