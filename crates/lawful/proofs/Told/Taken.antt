-- Who an abort takes: the running task, its parent, and so on upward, as the tables had them before the call; each once; and the bound of 24 cuts nothing. By induction on
-- the chain: a step leaves the parents of all others, and the chain does not come back to the task that is taken.
use mathlib.Core.Path.{◌≡◌, refl, sym, ap, ◌∙◌}
use mathlib.Core.Logic.{◌≢◌, ⊎_elim}
use mathlib.Core.List.{List, [], ◌∷◌}
use Prim.Native.Nat.{ℕ, zero, suc, ◌≤◌}
use native.Mathlib.Omega.{arith}
use lib.ListN.{length, get_or}
use lib.Seq.{get_or-set_other}
use borrow.Author.Tests.{ne_eqb}
use Rattle.threads.specs.Threads.{count}
use Rattle.threads.proofs.Lists.{count-nil, count_past}
use Rattle.words.proofs.Truth.{tested}
use Rattle.words.specs.Words.{each}
use Rattle.tables.specs.declared.Task.{Task}
use Rattle.tables.specs.State.{State, task_at, with_running}
use Rattle.tables.specs.Blocks.{no_task}
use Rattle.meaning.specs.Rules.{upward}
use Rattle.calls.specs.declared.Call.{Call}
use Rattle.meaning.specs.Finish.{ended, unlinked, aborted}
use Rattle.calls.specs.Calls.{PROGRAM-CHECK}
use Rattle.meaning.specs.Services.{program_check, deeds, deed_of, effect}
use Rattle.meaning.proofs.Deeds.{deed-at}
use Rattle.lawful.specs.Resting.{Aborting, Lawful}
use Rattle.lawful.specs.Reached.{taken, taken_by}
use Rattle.words.proofs.Counting.{one-other, one-le}
use Rattle.threads.proofs.Queues.{count-cons}
use Rattle.lawful.proofs.Each.Chains.{upward-none, each-once}
use Rattle.lawful.proofs.Each.Abort.{aborted-none, aborted-step, upward-zero, upward-step, done, abort-next, starts-abort}

-- ---- The list, and the abort that goes by it.
taken_none : (n : ℕ) (s : State) → taken_by n 0 s ≡ []
unfolding taken_by
taken_none zero s = refl
taken_none (suc n) s = refl

taken-some : (n k : ℕ) (s : State) → k ≢ 0 → taken_by (suc n) k s ≡ k ∷ taken_by n (task_at s k).parent (taken k s)
unfolding taken_by
taken-some n k s d = rw (ne_eqb k 0 d)

nothing-taken : (k : ℕ) (s : State) → aborted 0 k s ≡ each taken (taken_by 0 k s) s
unfolding aborted taken_by each
nothing-taken k s = refl

-- the abort is to take each of them in turn
pub abort-takes : (n k : ℕ) (s : State) → aborted n k s ≡ each taken (taken_by n k s) s
unfolding each taken
abort-takes zero k s = nothing-taken k s
abort-takes (suc n) k s =
    ⊎_elim (λ z. rw (z.1, aborted-none (suc n) s, taken_none (suc n) s))
    (λ z. aborted-step n k s z.1 ∙ abort-takes n (task_at s k).parent (taken k s) ∙ sym (ap (λ (l : List ℕ). each taken l s) (taken-some n k s z.1))) (tested k 0)

pub at_most : (n k : ℕ) (s : State) → length (taken_by n k s) ≤ n
unfolding taken_by
at_most zero k s = omega arith
at_most (suc n) k s =
    ⊎_elim (λ z. rw z.0 (omega arith)) (λ z. rw z.0 (omega (arith, at_most n (task_at s k).parent (taken k s)))) (tested k 0)

-- ---- One step, where the task has a parent: the parents of all others stay, and the chain does not come back.
module _ {n k : ℕ} {s : State} (a : Aborting (suc n) k s) where
  pub some : k ≢ 0
  some z = omega (arith, z, a.hand.some)

  module _ (z : (task_at s k).parent ≢ 0) where
    pub on : Aborting n (task_at s k).parent (taken k s)
    unfolding taken
    on = abort-next a z

    others : (y : ℕ) → y ≢ k → (task_at (taken k s) y).parent ≡ (task_at s y).parent
    unfolding taken unlinked
    others y d = (done a.hand a.rest a.core z).parents y d ∙ ap (λ (t : Task). t.parent) (get_or-set_other s.tasks k y _ no_task d)

    pub not-again : (i : ℕ) → upward s i (task_at s k).parent ≢ k
    not-again i e =
        let d : upward s (suc i) k ≢ 0 = λ j. some (sym (upward-step s i k ∙ e) ∙ j) in
        each-once a.hand.shape 0 (suc i) k a.hand.low (omega arith) d (upward-step s i k ∙ e ∙ sym (upward-zero s k))

    -- above the parent all is as it was
    pub above : (j p : ℕ) → ((i : ℕ) → upward s i p ≢ k) → upward (taken k s) j p ≡ upward s j p
    above zero p f = upward-zero (taken k s) p ∙ sym (upward-zero s p)
    above (suc j) p f =
        upward-step (taken k s) j p ∙ ap (upward (taken k s) j) (others p (λ e. f 0 (upward-zero s p ∙ e)))
        ∙ above j (task_at s p).parent (λ i e. f (suc i) (upward-step s i p ∙ e)) ∙ sym (upward-step s j p)

-- ---- The bound cuts nothing.
pub no_cut : (n m k : ℕ) (s : State) → Aborting n k s → n ≤ m → aborted m k s ≡ aborted n k s
no_cut zero m k s a l = absurd (omega (arith, sym (upward-zero s k) ∙ a.chain, a.hand.some))
no_cut (suc n) zero k s a l = absurd (omega (arith, l))
no_cut (suc n) (suc m) k s a l =
    let p = (task_at s k).parent in
    aborted-step m k s (some a)
    ∙ ⊎_elim (λ z. rw (z.1, aborted-none m (ended (unlinked s k) k), aborted-none n (ended (unlinked s k) k)))
    (λ z. no_cut n m (task_at s k).parent (ended (unlinked s k) k) (abort-next a z.1) (omega (arith, l))) (tested (task_at s k).parent 0)
    ∙ sym (aborted-step n k s (some a))

-- ---- The list is the chain of parents, as it was.
pub chain-taken : (n k : ℕ) (s : State) → Aborting n k s → (i : ℕ) → get_or (taken_by n k s) i 0 ≡ upward s i k
chain-taken zero k s a i = absurd (omega (arith, sym (upward-zero s k) ∙ a.chain, a.hand.some))
chain-taken (suc n) k s a zero = ap (λ (l : List ℕ). get_or l 0 0) (taken-some n k s (some a)) ∙ sym (upward-zero s k)
chain-taken (suc n) k s a (suc i) =
    ap (λ (l : List ℕ). get_or l (suc i) 0) (taken-some n k s (some a))
    ∙ ⊎_elim (λ z. rw (z.1, taken_none n (taken k s)) (sym (upward-none a.hand.shape i)))
    (λ z. chain-taken n (task_at s k).parent (taken k s) (on a z.1) i ∙ above a z.1 i (task_at s k).parent (not-again a z.1)) (tested (task_at s k).parent 0)
    ∙ sym (upward-step s i k)

-- ---- Each once.
pub absent : (y : ℕ) (l : List ℕ) → y ≢ 0 → ((i : ℕ) → get_or l i 0 ≢ y) → count y l ≡ 0
absent y [] d f = count-nil y
absent y (a ∷ l) d f = omega (arith, count-cons a y l, one-other a y (f 0), absent y l d (λ i. f (suc i)))

pub once-taken : (n k : ℕ) (s : State) → Aborting n k s → (y : ℕ) → count y (taken_by n k s) ≤ 1
once-taken zero k s a y = absurd (omega (arith, sym (upward-zero s k) ∙ a.chain, a.hand.some))
once-taken (suc n) k s a y =
    rw (taken-some n k s (some a))
    (⊎_elim
    (λ z. rw (z.1, taken_none n (taken k s)) (omega (arith, count-cons k y [], count-nil y, one-le k y)))
    (λ z.
    let p = (task_at s k).parent in
    let l = taken_by n (task_at s k).parent (taken k s) in
    ⊎_elim
    (λ i. let c = absent y l (λ j. some a (i.1 ∙ j)) (λ j e. not-again a z.1 j (sym (chain-taken n p (taken k s) (on a z.1) j ∙ above a z.1 j p (not-again a z.1)) ∙ e ∙ sym i.1)) in
    omega (arith, count-cons k y l, c, one-le k y))
    (λ i. omega (arith, count_past k y l i.1, once-taken n p (taken k s) (on a z.1) y)) (tested k y))
    (tested (task_at s k).parent 0))

-- ---- The abort of a program check: the chain is that of the tables before the call.
pub upward-stopped : (s : State) (r i k : ℕ) → upward (with_running s r) i k ≡ upward s i k
unfolding upward
upward-stopped s r zero k = refl
upward-stopped s r (suc i) k = upward-stopped s r i (task_at s k).parent

module _ {s : State} (g : Lawful s) where
  abbrev all : List ℕ
  all = taken_by 24 s.running (with_running s 0)

  -- who runs is none, or an abort can begin
  by-running : {C : Type 0} → (s.running ≡ 0 → C) → (Aborting 24 s.running (with_running s 0) → C) → C
  by-running f h = ⊎_elim (λ z. f z.1) (λ z. h (starts-abort g z.1)) (tested s.running 0)

  pub none-cut : (n : ℕ) → 24 ≤ n → aborted n s.running (with_running s 0) ≡ aborted 24 s.running (with_running s 0)
  none-cut n l =
      by-running (λ z. rw (z, aborted-none n (with_running s 0), aborted-none 24 (with_running s 0))) (λ a. no_cut 24 n s.running (with_running s 0) a l)

  pub the-chain : (i : ℕ) → get_or all i 0 ≡ upward s i s.running
  the-chain i =
      by-running (λ z. ap (λ (k : ℕ). get_or (taken_by 24 k (with_running s 0)) i 0) z ∙ ap (λ (l : List ℕ). get_or l i 0) (taken_none 24 (with_running s 0)) ∙ sym (ap (upward s i) z ∙ upward-none g.shape i))
      (λ a. chain-taken 24 s.running (with_running s 0) a i ∙ upward-stopped s 0 i s.running)

  pub each-taken-once : (y : ℕ) → count y all ≤ 1
  each-taken-once y =
      by-running (λ z. rw (z, taken_none 24 (with_running s 0)) (omega (arith, count-nil y))) (λ a. once-taken 24 s.running (with_running s 0) a y)

-- a program check is that abort
pub check-takes : (s : State) (c : Call) → c.code ≡ PROGRAM-CHECK → (effect s c).state ≡ each taken (taken_by 24 s.running (with_running s 0)) (with_running s 0)
unfolding deeds deed_of program_check
check-takes s c z = rw (deed-at s c PROGRAM-CHECK z) (abort-takes 24 s.running (with_running s 0))
