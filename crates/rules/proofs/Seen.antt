-- One task block after the other: what is gathered of links and of core, block by block, and what it tells at the end.
use mathlib.Core.Bool.{Bool, true, ◌&&◌}
use mathlib.Core.Path.{◌≡◌, ap₂}
use mathlib.Core.List.{List}
use Prim.Native.Nat.{ℕ, ◌+◌, ◌-◌, ◌/◌, ◌≤◌}
use native.Mathlib.Omega.{arith}
use lib.Bits.{bit_or}
use lib.Dec.{eqb}
use lib.ListN.{replicate}
use Rattle.tables.specs.declared.Tables.{Tables}
use Rattle.tables.specs.State.{State, task_at, pool_at, read}
use Rattle.meaning.specs.Rules.{upward, core_held, chains_end, linked}
use Rattle.rules.specs.Orderly.{Orderly}
use Rattle.words.specs.Words.{adding}
use Rattle.rules.specs.declared.links.Met.{Met}
use Rattle.rules.specs.Links.{Exact, Counted, Seen, with_set, none_met, alone}
use Rattle.words.proofs.OneTo.{gather-start, gather-next}
use Rattle.rules.proofs.Places.{parent-low}
use Rattle.rules.proofs.Tally.{tally-start, tally-next}
use Rattle.rules.proofs.Children.{parent-has, waiters-start, waiters-next, linked-end}
use Rattle.rules.proofs.Runs.{counted_start, met_of, counted-end}

module _ (s : State) where
  pub seen_start : Seen s 0 none_met 0 true (replicate 4 none_met)
  seen_start = record { parents = tally-start; waiters = waiters-start s; chains = gather-start _; core = counted_start s }

  module _ {k waits : ℕ} {met : Met} {ends : Bool} {runs : List Met} (g : Seen s k met waits ends runs) where
    -- the parents with the next block's, the block as a set where it waits in LINK, whether the walk up from it came to none, and the units with its run
    seen_next : {met' : Met} {waiter : ℕ} {end : Bool} {runs' : List Met} → met' ≡ with_set met (adding 0 (task_at s (k + 1)).parent)
        → waiter ≡ alone (task_at s (k + 1)).place (k + 1) → end ≡ eqb (upward s 24 (k + 1)) 0 → Counted s (k + 1) runs'
        → Seen s (k + 1) met' (bit_or waits waiter) (ends && end) runs'
    seen_next {end = end} p w e c =
        record {
          parents = rw p (tally-next g.parents _ (parent-has s (k + 1)));
          waiters = rw w (waiters-next s g.waiters);
          chains = gather-next (λ j. eqb (upward s 24 j) 0) k ends end g.chains e;
          core = c;
        }

  -- the same of the task k, after those below it
  pub seen-turn : (k : ℕ) {waits waiter : ℕ} {met met' : Met} {ends end : Bool} {runs runs' : List Met} → 1 ≤ k → Seen s (k - 1) met waits ends runs
      → met' ≡ with_set met (adding 0 (task_at s k).parent) → waiter ≡ alone (task_at s k).place k → end ≡ eqb (upward s 24 k) 0 → Counted s k runs'
      → Seen s (k + 1 - 1) met' (bit_or waits waiter) (ends && end) runs'
  seen-turn k h g p w e c =
      let again : k - 1 + 1 ≡ k = omega arith in
      let more : k + 1 - 1 ≡ k - 1 + 1 = omega arith in
      rw more (seen_next g (rw again p) (rw again w) (rw again e) (rw again c))

module _ (t : Tables) (o : Orderly t) where
  pub seen_end : {waits : ℕ} {met : Met} {ends a b c l : Bool} {runs : List Met} → Seen (read t) 24 met waits ends runs
      → Exact (met_of runs 1).once (met_of runs 1).twice (pool_at (read t) 1) a → Exact (met_of runs 2).once (met_of runs 2).twice (pool_at (read t) 2) b
      → Exact (met_of runs 3).once (met_of runs 3).twice (pool_at (read t) 3) c → Exact (met.once / 2) (met.twice / 2) (waits / 2) l
      → (a && b && c && ends && l) ≡ (core_held (read t) && chains_end (read t) && linked (read t))
  unfolding chains_end
  seen_end g x y z w =
      ap₂ (λ (m n : Bool). m && n) (ap₂ (λ (m n : Bool). m && n) (counted-end t o g.core x y z) g.chains)
      (linked-end (read t) (parent-low t o) g.parents g.waiters w)
