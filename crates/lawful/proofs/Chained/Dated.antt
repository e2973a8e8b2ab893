-- Since when a task waits. Along a call a block keeps its place and its reading, or was put into its place by this call: then it has the reading that this place gets, by the clock as it
-- is now, and where it waits there, it came from elsewhere. For any state and any call, with no rule of the tables asked; by the chain of small changes.
use mathlib.Core.Bool.{true, false, true≢false}
use mathlib.Core.Path.{◌≡◌, refl, sym, ap, ◌∙◌}
use mathlib.Core.Logic.{◌≢◌, ◌⊎◌, inl, inr, ⊎_elim}
use mathlib.Core.List.{List}
use Prim.Native.Nat.{ℕ, ◌≤◌}
use native.Mathlib.Omega.{arith}
use lib.ListN.{get_or}
use Rattle.tables.specs.declared.Task.{Task}
use Rattle.tables.specs.Blocks.{Free, Running, Ready, InCore, InEvent, InTime, InLink, InCheck, Ending, waits_in, since_in, no_task, moving}
use Rattle.tables.specs.State.{State, task_at}
use Rattle.tables.proofs.Readings.{waits-not, waits-within, since-not}
use Rattle.calls.specs.declared.Call.{Call}
use Rattle.meaning.specs.Ready.{dispatched}
use Rattle.meaning.specs.Services.{effect}
use Rattle.lawful.proofs.Chained.Small.{Waiter, Comes, itself, Block, moves, awaits, sleeps, checks, cores, unlinks, makes, frees, Turn, small, runs, kept}
use Rattle.lawful.proofs.Chained.Views.{set_at, clock-of, block_of}
use Rattle.lawful.proofs.Chained.Chain.{turn-chain}

-- of the places that wait, all but one are excluded
in-link : (p : ℕ) → (InCore ≤ p) × (p ≤ Ending) → p ≢ InCore → p ≢ Ending → (2 ≤ p) × (p ≢ InEvent) × (p ≢ InTime) × (p ≢ InCheck) → p ≡ InLink
in-link p l n m w =
    let low : InTime ≤ p = omega (arith, l.0, n, w.1) in
    let high : p ≤ InCheck = omega (arith, l.1, m) in
    omega (arith, low, high, w.2, w.3)

module _ (o : State) (y : ℕ) where
  -- it was put into its place
  pub record Anew (t : State) : Type 0 where
    pub since : (task_at t y).since ≡ since_in t.clock (task_at t y).place
    pub comes : waits_in (task_at t y).place ≡ true → Comes o y
    pub alone : waits_in (task_at t y).place ≡ true → (task_at t y).place ≢ InCore → (task_at t y).place ≢ Ending → Waiter o y

  abbrev pub Dated : State → Type 0
  Dated t = (((task_at t y).place ≡ (task_at o y).place) × ((task_at t y).since ≡ (task_at o y).since)) ⊎ Anew t

  -- a change that is no move, while the clock stands
  still : {t u : State} → (task_at u y).place ≡ (task_at t y).place → (task_at u y).since ≡ (task_at t y).since → u.clock ≡ t.clock → Dated t → Dated u
  still p s c = ⊎_elim (λ d. inl (p ∙ d.0, s ∙ d.1)) (λ a. inr (record { since = rw (p, s, c) a.since; comes = rw p a.comes; alone = rw p a.alone }))

  same : {t u : State} → task_at u y ≡ task_at t y → u.clock ≡ t.clock → Dated t → Dated u
  same e c = still (ap (λ (x : Task). x.place) e) (ap (λ (x : Task). x.since) e) c

  -- into a place in which it does not wait
  idle : {u : State} → (task_at u y).since ≡ since_in u.clock (task_at u y).place → (task_at u y).place ≤ Ready → Dated u
  idle {u} e l =
      let n : waits_in (task_at u y).place ≡ false = waits-not (task_at u y).place (λ a b. omega (arith, l, a)) in
      inr (record { since = e; comes = λ w. absurd (true≢false (sym w ∙ n)); alone = λ w. absurd (true≢false (sym w ∙ n)) })

  -- a new block, or a free one
  blank : {u : State} → (task_at u y).since ≡ 0 → (task_at u y).place ≡ Free → Dated u
  blank {u} e p =
      let l : (task_at u y).place ≤ Ready = omega (arith, p) in
      idle (e ∙ sym (since-not _ _ (waits-not _ (λ a b. omega (arith, l, a))))) l

  -- into a place in which it waits: it may come
  waits : {u : State} → (task_at u y).since ≡ since_in u.clock (task_at u y).place → Waiter o y → Dated u
  waits e w = inr (record { since = e; comes = λ i. itself w; alone = λ i n m. w })

  module _ {c : Call} where
    dated-block : {t u : State} → u.clock ≡ t.clock → Dated t → Block o c t y (task_at u y) → Dated u
    dated-block {t} {u} k d b = go b refl
      where
        go : {x : Task} → Block o c t y x → task_at u y ≡ x → Dated u
        go (moves p w e) i =
            let place : (task_at u y).place ≡ p = ap (λ (x : Task). x.place) i in
            inr (record {
              since = ap (λ (x : Task). x.since) i ∙ rw (place, k);
              comes = λ h. e.waits (λ z. let l = waits-within _ h in omega (arith, l, place, z));
              alone = λ h n m. e.links (sym place ∙ in-link (task_at u y).place (waits-within _ h) n m (rw place w));
            })
        go (awaits w e) i = waits (ap (λ (x : Task). x.since) i ∙ rw (i, k)) w
        go (sleeps due w e) i = waits (ap (λ (x : Task). x.since) i ∙ rw (i, k)) w
        go (checks r e) i = waits (ap (λ (x : Task). x.since) i ∙ rw (i, k)) (inl e)
        go (cores h a) i = still (ap (λ (x : Task). x.place) i) (ap (λ (x : Task). x.since) i) k d
        go unlinks i = still (ap (λ (x : Task). x.place) i) (ap (λ (x : Task). x.since) i) k d
        go (makes p e w) i = blank (ap (λ (x : Task). x.since) i) (ap (λ (x : Task). x.place) i)
        go frees i = blank (ap (λ (x : Task). x.since) i) (ap (λ (x : Task). x.place) i)

    dated-next : (t u : State) → Turn o c t u → Dated t → Dated u
    dated-next t u (small p) d =
        ⊎_elim
        (λ k. ⊎_elim (λ e. same e k d) (dated-block k d) (block_of p y))
        (λ z. let e = ap (λ (l : List Task). get_or l y no_task) z in inl (ap (λ (x : Task). x.place) e, ap (λ (x : Task). x.since) e))
        (clock-of p)
    dated-next t u (runs q k z f) d =
        ⊎_elim (λ e. same e refl d)
        (λ e. idle (ap (λ (x : Task). x.since) e.1 ∙ rw e.1) (omega (arith, ap (λ (x : Task). x.place) e.1)))
        (set_at (moving t.clock (task_at t k) Running) no_task t.tasks k y)

-- the law
pub dated : (s : State) (c : Call) (y : ℕ) → Dated s y (dispatched (effect s c).state)
dated s c y = kept (Dated s y) (dated-next s y) (turn-chain s c) (inl (refl, refl))
