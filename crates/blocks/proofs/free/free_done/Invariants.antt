-- `free::free_done` meets its contract: before turn n the requests below n are seen to.
use Prim.Native.Nat.{◌-◌}
use Rattle.words.specs.Words.{one_to, each}
use Rattle.tables.specs.State.{read}
use Rattle.tables.specs.Held.{Shows}
use Rattle.meaning.specs.Finish.{freed_if_done}
use Rattle.blocks.proofs.free.free_done.Given as goal

abbrev pub invariant-loop-n : goal.invariant-loop-n
invariant-loop-n l = Shows l.u (each (freed_if_done l.k) (one_to (l.n - 1)) (read l.initial.u))
