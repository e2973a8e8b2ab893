-- DISPATCH CHECK: the caller is a task of a module, of no queue, so that it can go to the front of its level's.
use mathlib.Core.Path.{ap}
use mathlib.Core.Logic.{◌≢◌}
use Prim.Native.Nat.{◌<◌, suc}
use native.Mathlib.Omega.{arith}
use Rattle.threads.specs.Threads.{Outside, counts}
use Rattle.tables.specs.declared.Tables.{Tables}
use Rattle.tables.specs.Blocks.{Ready, task_blocks}
use Rattle.tables.specs.State.{State, task_at, level_of, read}
use Rattle.tables.specs.Held.{Shows}
use Rattle.meaning.specs.Services.{stopped}
use Rattle.lawful.specs.Tables.{LawfulTables}
use Rattle.lawful.proofs.Blocks.Members.{runs-stands, runs-place}
use Rattle.threads.proofs.Queues.{counts-none}
use Rattle.lawful.proofs.Blocks.Enter.{hand-count}
use Rattle.lawful.proofs.Each.Timer.{caller, worst}

module _ {t : Tables} (g : LawfulTables t) (n : t.running ≢ 0) where
  abbrev s : State
  s = read t

  pub caller-low : s.running < suc task_blocks
  caller-low = omega (arith, g.state.shape.blank.running)

  pub caller-program : (task_at s s.running).program < 32
  caller-program =
      let h = g.state.shape in
      let p = (runs-stands h n).fields.program (λ z. omega (arith, z, runs-place h n)) in
      omega (arith, p, h.directory.modules)

  pub can-lead : {u : Tables} → Shows u (stopped s Ready) → Outside u.threads (level_of s s.running) s.running
  unfolding stopped
  can-lead h =
      let i = caller g.state n in
      record {
        sound = h.sound;
        queue = omega (arith, worst g.state n);
        some = i.some;
        low = omega (arith, i.low);
        none = rw (ap (λ (x : State). counts s.running x.queues) h.reads) (counts-none s.running s.queues (λ q l. hand-count i q (omega (arith, l, i.shape.sizes.queues))));
      }
