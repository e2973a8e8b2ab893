-- The rules of rest as tests: each is a test over one queue, and back.
use mathlib.Core.Bool.{Bool, true, not, ◌&&◌}
use mathlib.Core.Path.{◌≡◌, refl, sym, ap, ◌∙◌}
use mathlib.Core.Logic.{⊎_elim}
use mathlib.Core.List.{List, [], ◌∷◌, ◌++◌}
use Prim.Native.Nat.{ℕ, ◌≤◌}
use native.Mathlib.Omega.{arith}
use lib.Dec.{eqb, leb}
use borrow.Author.Tests.{not-true, not-false, leb-true, le-leb, eqb-true, eq-eqb}
use Rattle.threads.specs.Threads.{hd, count}
use Rattle.threads.proofs.Lists.{count-nil, count-append}
use Rattle.words.specs.Words.{◌implies◌, size, is_empty, one_to, all_of}
use Rattle.words.proofs.Places.{under-or-from}
use Rattle.tables.specs.State.{State, channel_queue, event_queue, core_queue, ready_queue, task_at, pool_at, queue, level_of, units_of}
use Rattle.pools.specs.Pools.{long_enough}
use Rattle.meaning.specs.Conditions.{enough, undefined_in}
use Rattle.meaning.specs.Ready.{fits}
use Rattle.meaning.specs.Rules.{idle_only_if_none_ready, events_wait, core_waits, of_their_level, channel_busy, events_pass}
use Rattle.lawful.specs.Shape.{Shape}
use Rattle.lawful.specs.Resting.{Flowing, Asleep, Stuck, Busy}
use Rattle.words.proofs.Counting.{one_same}
use Rattle.threads.proofs.Queues.{count-cons}
use Rattle.threads.proofs.Tests.{all-of, of-all, all-to, to-all, emptied}
use Rattle.words.proofs.Truth.{both, and-of, implied, of-implied}
use Rattle.lawful.proofs.Tested.TaskRules.{Passes}
use Rattle.lawful.proofs.Blocks.Members.{member-stands, member-ready, member-core, member-event}

module _ (s : State) where
  -- "The processor is idle only if nothing is ready"
  pub busy-of : idle_only_if_none_ready s ≡ true → Busy s
  unfolding idle_only_if_none_ready
  busy-of e =
      record {
        busy = λ z level a b.
            emptied (queue s level) (all-to (λ level. is_empty (queue s (ready_queue level))) 3
            (implied (eqb s.running 0) (all_of (λ level. is_empty (queue s (ready_queue level))) (one_to 3)) e (eq-eqb _ _ z)) level a b);
      }

  pub of-busy : Busy s → idle_only_if_none_ready s ≡ true
  unfolding idle_only_if_none_ready
  of-busy g =
      of-implied (eqb s.running 0) (all_of (λ level. is_empty (queue s (ready_queue level))) (one_to 3))
      (λ t. to-all (λ level. is_empty (queue s (ready_queue level))) 3 (λ y a b. ap is_empty (g.busy (eqb-true _ _ t) y a b)))

  -- "No event waiter's condition already holds"
  pub asleep-of : events_wait s ≡ true → Asleep s []
  unfolding events_wait
  asleep-of e = record { asleep = λ y c n. not-true (enough s (task_at s y).count (task_at s y).events) (all-of _ (queue s event_queue) e y c) }

  pub of-asleep : Asleep s [] → events_wait s ≡ true
  unfolding events_wait
  of-asleep g = of-all _ (queue s event_queue) (λ y c. ap not (g.asleep y c (count-nil y)))

  -- "no queue behind an empty channel"
  pub flowing-of : channel_busy s ≡ true → Flowing s []
  unfolding channel_busy
  flowing-of e =
      record { flowing = λ x z. emptied (queue s channel_queue) (implied (eqb s.channel 0) (is_empty (queue s channel_queue)) e (eq-eqb _ _ z)) }

  pub of-flowing : Flowing s [] → channel_busy s ≡ true
  unfolding channel_busy
  of-flowing g =
      of-implied (eqb s.channel 0) (is_empty (queue s channel_queue)) (λ t. ap is_empty (g.flowing (count-nil 0) (eqb-true _ _ t)))

-- ---- "and no first waiter for core would fit": who waits for core of a level has a module of that level.
module _ {s : State} (g : Shape s [] 0) where
  core-fits : (level k : ℕ) (l : List ℕ) → 1 ≤ level → level ≤ 3 → queue s (core_queue level) ≡ k ∷ l → fits s k ≡ long_enough (pool_at s level) (units_of s k)
  unfolding fits
  core-fits level k l a b e =
      let c : 1 ≤ count k (queue s (core_queue level)) = omega (arith, ap (count k) e, count-cons k k l, one_same k k refl) in
      let m = member-core g k (core_queue level) (omega (arith, b)) c (omega (arith, a)) (omega (arith, b)) in
      let i : level_of s k ≡ level = omega (arith, m.1) in
      ap (λ (x : ℕ). long_enough (pool_at s x) (units_of s k)) i

  abbrev waits_at : ℕ → Bool
  waits_at level = not (is_empty (queue s (core_queue level))) implies not (fits s (hd (queue s (core_queue level))))

  pub stuck-of : core_waits s ≡ true → (level : ℕ) → 1 ≤ level → level ≤ 3 → Stuck s level
  unfolding core_waits
  stuck-of e level a b =
      record {
        stuck = λ k l q.
            let w = all-to waits_at 3 e level a b in
            let f : not (fits s k) ≡ true = rw q at w in
            sym (core-fits level k l a b q) ∙ not-true _ f;
      }

  pub of-stuck : ((level : ℕ) → 1 ≤ level → level ≤ 3 → Stuck s level) → core_waits s ≡ true
  unfolding core_waits
  of-stuck f = to-all waits_at 3 (λ level a b. go level a b (queue s (core_queue level)) refl)
    where
      go : (level : ℕ) → 1 ≤ level → level ≤ 3 → (l : List ℕ) → queue s (core_queue level) ≡ l → (not (is_empty l) implies not (fits s (hd l))) ≡ true
      go level a b [] e = refl
      go level a b (k ∷ l) e = ap not (core-fits level k l a b e ∙ (f level a b).stuck k l e)

  -- "ready and core queues hold their level's tasks"
  of-level : (level k : ℕ) → 1 ≤ level → level ≤ 3 → 1 ≤ count k (queue s (ready_queue level) ++ queue s (core_queue level)) → level_of s k ≡ level
  of-level level k a b c =
      ⊎_elim
      (λ z. let m = member-core g k (core_queue level) (omega (arith, b)) (omega (arith, c, z, count-append k (queue s (ready_queue level)) (queue s (core_queue level)))) (omega (arith, a)) (omega (arith, b)) in omega (arith, m.1))
      (λ z. let m = member-ready g k (ready_queue level) (omega (arith, b)) z a b in sym m.1)
      (under-or-from (count k (queue s (ready_queue level))) 1)

  pub of-levels : of_their_level s ≡ true
  unfolding of_their_level
  of-levels =
      to-all (λ level. all_of (λ k. eqb (level_of s k) level) (queue s (ready_queue level) ++ queue s (core_queue level))) 3
      (λ level a b. of-all (λ k. eqb (level_of s k) level) (queue s (ready_queue level) ++ queue s (core_queue level)) (λ k c. eq-eqb _ _ (of-level level k a b c)))

  -- "event waiters pass 13 and 14"
  pub of-passes : events_pass s ≡ true
  unfolding events_pass undefined_in
  of-passes =
      of-all (λ k. not (undefined_in s (task_at s k).events) && leb 1 (task_at s k).count && leb (task_at s k).count (size (task_at s k).events)) (queue s event_queue)
      (λ k c.
      let w = (member-stands g k event_queue (omega arith) c).fields.passes (member-event g k event_queue (omega arith) c refl) in
      and-of _ _ (and-of _ _ (ap not (ap not (eq-eqb _ _ w.0))) (le-leb 1 (task_at s k).count w.1)) (le-leb (task_at s k).count (size (task_at s k).events) w.2))

pub passes_of : (s : State) → events_pass s ≡ true → (k : ℕ) → 1 ≤ count k (queue s event_queue) → Passes s k
unfolding events_pass undefined_in
passes_of s e k c =
    let t = task_at s k in
    let a = both (not (undefined_in s t.events) && leb 1 t.count) (leb t.count (size t.events))
    (all-of (λ k. not (undefined_in s (task_at s k).events) && leb 1 (task_at s k).count && leb (task_at s k).count (size (task_at s k).events)) (queue s event_queue) e k c) in
    let b = both (not (undefined_in s t.events)) (leb 1 t.count) a.0 in
    record { events = eqb-true _ _ (not-false _ (not-true _ b.0)); some = leb-true _ _ b.1; most = leb-true _ _ a.1 }
