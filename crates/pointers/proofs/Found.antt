-- Where the walk passes, the pointers are sound: the lists are what it went through.
use mathlib.Core.Bool.{true, true≢false}
use mathlib.Core.Path.{◌≡◌, refl, sym, ap, ap₂, ◌∙◌}
use mathlib.Core.Logic.{◌≢◌, ⊎_elim}
use mathlib.Core.List.{List, [], ◌∷◌, map}
use Prim.Native.Nat.{ℕ, zero, suc, ◌+◌, ◌≤◌, ◌<◌}
use native.Mathlib.Numerals.{add-one}
use native.Mathlib.Omega.{arith}
use native.Mathlib.Nat.{eq-zero-or-pos}
use lib.ListN.{length, set, get_or, drop, drop_of_length-le, length-set, get_or-replicate}
use lib.Seq.{drop-cons, get_or-set_same, get_or-set_other}
use lib.Dec.{eqb, leb}
use borrow.Author.Tests.{eq-eqb, eqb-true, leb-true}
use Rattle.threads.specs.declared.Threads.{Threads}
use Rattle.threads.specs.Threads.{hd, lst, after, before, list_of, counts, row, threaded, Sound, BLOCKS, QUEUES, no_queue}
use Rattle.threads.proofs.Lists.{count-nil, count-hit, count_past, after-here, after-past, before_here, before-past}
use Rattle.words.proofs.Truth.{tested, both}
use Rattle.threads.proofs.Rows.{row_is}
use Rattle.threads.proofs.Flat.{flat, after-flat, before-flat}
use Rattle.threads.proofs.Read.{sound}
use Rattle.words.specs.Words.{one_to}
use Rattle.threads.proofs.Tests.{all-of, one-to}
use Rattle.pointers.proofs.Passes.{passes}
use Rattle.pointers.specs.Walked.{clear_at, rest_clear, steps, no_marks, last_queue}

-- the arrays have their lengths
pub record Lengths (t : Threads) : Type 0 where
  pub fwd : length t.fwd ≡ 41
  pub back : length t.back ≡ 41
  pub first : length t.first ≡ QUEUES
  pub last : length t.last ≡ QUEUES

-- What the walk from y on has gone through: the rest of the queue q, and the queues after it. Their blocks had no mark before, and each cell of
-- a block with no mark says what these lists say.
pub record Ran (t : Threads) (q p y : ℕ) (m : List ℕ) : Type 0 where
  pub here : List ℕ
  pub later : List (List ℕ)
  pub start : y ≡ hd here
  pub many : length later + q ≡ last_queue
  pub firsts : map hd later ≡ drop (suc q) t.first
  pub lasts : lst p here ∷ map (lst 0) later ≡ drop q t.last
  pub once : (z : ℕ) → counts z (here ∷ later) ≤ 1
  pub inside : (z : ℕ) → 1 ≤ counts z (here ∷ later) → (1 ≤ z) × (z ≤ BLOCKS) × (get_or m z 0 ≡ no_queue)
  pub next : (z : ℕ) → 1 ≤ z → z ≤ BLOCKS → get_or m z 0 ≡ no_queue → get_or t.fwd z 0 ≡ after (flat (here ∷ later)) z
  pub prev : (z : ℕ) → 1 ≤ z → z ≤ BLOCKS → get_or m z 0 ≡ no_queue → get_or t.back z 0 ≡ before p (flat (here ∷ later)) z
  pub slot : (get_or t.fwd 0 0 ≡ 0) × (get_or t.back 0 0 ≡ 0)

clear-gives : (t : Threads) (m : List ℕ) (y : ℕ) → get_or m y 0 ≡ no_queue → clear_at t m y ≡ true → (get_or t.fwd y 0 ≡ 0) × (get_or t.back y 0 ≡ 0)
unfolding clear_at
clear-gives t m y e h =
    let b = both (eqb (get_or t.fwd y 0) 0) (eqb (get_or t.back y 0) 0) (rw (eq-eqb (get_or m y 0) 9 e) at h) in
    (eqb-true _ _ b.0, eqb-true _ _ b.1)

rest_gives : (t : Threads) (m : List ℕ) → rest_clear t m ≡ true → (y : ℕ) → y ≤ BLOCKS → get_or m y 0 ≡ no_queue → (get_or t.fwd y 0 ≡ 0) × (get_or t.back y 0 ≡ 0)
unfolding rest_clear
rest_gives t m h zero l e = clear-gives t m 0 e (both (clear_at t m 0) _ h).0
rest_gives t m h (suc y) l e =
    clear-gives t m (suc y) e (all-of (clear_at t m) (one_to BLOCKS) (both (clear_at t m 0) _ h).1 (suc y) (one-to 40 (suc y) (omega arith) l))

counts-hit : (y : ℕ) (l : List ℕ) (ls : List (List ℕ)) → counts y ((y ∷ l) ∷ ls) ≡ 1 + counts y (l ∷ ls)
unfolding counts
counts-hit y l ls = omega (arith, count-hit y y l refl)

counts_past : (y z : ℕ) (l : List ℕ) (ls : List (List ℕ)) → y ≢ z → counts z ((y ∷ l) ∷ ls) ≡ counts z (l ∷ ls)
unfolding counts
counts_past y z l ls n = omega (arith, count_past y z l n)

counts-none : (z : ℕ) (ls : List (List ℕ)) → counts z ([] ∷ ls) ≡ counts z ls
unfolding counts
counts-none z ls = omega (arith, count-nil z)

pub counts-nil : (z : ℕ) → counts z [] ≡ 0
unfolding counts
counts-nil z = refl

hd-flat : (l : List ℕ) (ls : List (List ℕ)) → hd (flat (l ∷ ls)) ≡ hd l
unfolding flat
hd-flat [] ls = refl
hd-flat (a ∷ l) ls = refl

module _ (t : Threads) (s : Lengths t) (q p y : ℕ) (m : List ℕ) where
  ran-end : y ≡ 0 → get_or t.last q 0 ≡ p → q ≡ last_queue → get_or m 0 0 ≡ no_queue → rest_clear t m ≡ true → Ran t q p y m
  unfolding flat after before
  ran-end e l k z h =
      record {
        here = [];
        later = [];
        start = e;
        many = omega arith;
        firsts = sym (drop_of_length-le t.first {i = suc q} (omega (arith, s.first)));
        lasts =
            sym (drop-cons t.last q 0 (omega (arith, s.last))
            ∙ ap₂ (λ (a : ℕ) (l : List ℕ). a ∷ l) l (drop_of_length-le t.last {i = suc q} (omega (arith, s.last))));
        once = λ z. omega (arith, counts-none z [], counts-nil z);
        inside = λ z h. absurd (omega (arith, counts-none z [], counts-nil z));
        next = λ z a b k. (rest_gives t m h z b k).0 ∙ sym (after-past 0 z [] (omega arith));
        prev = λ z a b k. (rest_gives t m h z b k).1 ∙ sym (before-past p 0 z [] (omega arith));
        slot = rest_gives t m h 0 (omega arith) z;
      }

  ran-next : y ≡ 0 → get_or t.last q 0 ≡ p → q < 8 → Ran t (suc q) 0 (get_or t.first (suc q) 0) m → Ran t q p y m
  unfolding flat
  ran-next e l k r =
      let ls = r.here ∷ r.later in
      record {
        here = [];
        later = ls;
        start = e;
        many = omega (arith, r.many);
        firsts =
            sym (drop-cons t.first (suc q) 0 (omega (arith, s.first))
            ∙ ap₂ (λ (a : ℕ) (l : List ℕ). a ∷ l) r.start (sym r.firsts));
        lasts =
            sym (drop-cons t.last q 0 (omega (arith, s.last)) ∙ ap₂ (λ (a : ℕ) (l : List ℕ). a ∷ l) l (sym r.lasts));
        once = λ z. omega (arith, counts-none z ls, r.once z);
        inside = λ z h. r.inside z (omega (arith, counts-none z ls));
        next = λ z a b k. r.next z a b k ∙ sym (after-past 0 z (flat ls) (omega arith));
        prev = λ z a b k. r.prev z a b k ∙ sym (before-past p 0 z (flat ls) (omega arith));
        slot = r.slot;
      }

  ran-block : y ≢ 0 → y ≤ BLOCKS → get_or m y 0 ≡ no_queue → get_or t.back y 0 ≡ p → length m ≡ suc BLOCKS → q ≤ last_queue
      → Ran t q y (get_or t.fwd y 0) (set m y q) → Ran t q p y m
  unfolding flat
  ran-block o b k l n low r =
      let ls = r.here ∷ r.later in
      let F = flat ls in
      let gone : counts y ls ≡ 0 =
      ⊎_elim (λ e. e)
      (λ h. absurd (omega (arith, (r.inside y h).2, get_or-set_same m y q 0 (omega (arith, n))))) (eq-zero-or-pos (counts y ls)) in
      record {
        here = y ∷ r.here;
        later = r.later;
        start = refl;
        many = r.many;
        firsts = r.firsts;
        lasts = r.lasts;
        once = λ z.
            ⊎_elim (λ e. rw (← e.1) (omega (arith, counts-hit y r.here r.later, gone)))
            (λ e. omega (arith, counts_past y z r.here r.later e.1, r.once z)) (tested y z);
        inside = λ z h.
            ⊎_elim (λ e. (omega (arith, e.1), omega (arith, e.1), ap (λ (x : ℕ). get_or m x 0) (sym e.1) ∙ k))
            (λ e.
            let i = r.inside z (omega (arith, counts_past y z r.here r.later e.1)) in
            (i.0, i.1, sym (get_or-set_other m y z q 0 (λ f. e.1 (sym f))) ∙ i.2)) (tested y z);
        next = λ z a b k.
            ⊎_elim
            (λ e.
            ap (λ (x : ℕ). get_or t.fwd x 0) (sym e.1) ∙ r.start ∙ sym (hd-flat r.here r.later) ∙ sym (after-here y F)
            ∙ ap (after (y ∷ F)) e.1)
            (λ e. r.next z a b (get_or-set_other m y z q 0 (λ f. e.1 (sym f)) ∙ k) ∙ sym (after-past y z F e.1)) (tested y z);
        prev = λ z a b k.
            ⊎_elim
            (λ e. ap (λ (x : ℕ). get_or t.back x 0) (sym e.1) ∙ l ∙ sym (before_here p y F) ∙ ap (before p (y ∷ F)) e.1)
            (λ e. r.prev z a b (get_or-set_other m y z q 0 (λ f. e.1 (sym f)) ∙ k) ∙ sym (before-past p y z F e.1)) (tested y z);
        slot = r.slot;
      }

pub ran : (t : Threads) → Lengths t → (n q p y : ℕ) (m : List ℕ) → q ≤ last_queue → length m ≡ suc BLOCKS → get_or m 0 0 ≡ no_queue → passes t n q p y m ≡ true → Ran t q p y m
unfolding passes
ran t s zero q p y m h k z e = absurd (true≢false (sym e))
ran t s (suc n) q p y m h k z e =
    ⊎_elim
    (λ w.
    let b = both (eqb (get_or t.last q 0) p) _ (rw w.0 at e) in
    ⊎_elim
    (λ v. ran-end t s q p y m w.1 (eqb-true _ _ b.0) v.1 z (rw v.0 at b.1))
    (λ v.
    ran-next t s q p y m w.1 (eqb-true _ _ b.0) (omega (arith, v.1))
    (ran t s n (suc q) 0 (get_or t.first (suc q) 0) m (omega (arith, v.1)) k z (rw (v.0, add-one q) at b.1))) (tested q 8))
    (λ w.
    let b = both _ (passes t n q y (get_or t.fwd y 0) (set m y q)) (rw w.0 at e) in
    let b' = both _ (eqb (get_or t.back y 0) p) b.0 in
    let b'' = both (leb y 40) (eqb (get_or m y 0) 9) b'.0 in
    ran-block t s q p y m w.1 (leb-true _ _ b''.0) (eqb-true _ _ b''.1) (eqb-true _ _ b'.1) k h
    (ran t s n q y (get_or t.fwd y 0) (set m y q) h (length-set m y q ∙ k)
    (get_or-set_other m y 0 q 0 (λ f. w.1 (sym f)) ∙ z) b.1))
    (tested y 0)

row_zero : (f : ℕ → ℕ) → 0 ≡ get_or (row f) 0 0
unfolding row
row_zero f = refl

pub unmarked : (z : ℕ) → z ≤ BLOCKS → ◌≡◌ {A = ℕ} (get_or no_marks z 0) no_queue
unmarked z h = get_or-replicate (suc BLOCKS) z no_queue 0 (omega arith)

threads-is : (t : Threads) → Lengths t → (r : Ran t 0 0 (get_or t.first 0 0) no_marks) → t ≡ threaded (r.here ∷ r.later)
unfolding threaded
threads-is t s r =
    let ls = r.here ∷ r.later in
    let fwd = row_is t.fwd (λ y. after (list_of y ls) y) s.fwd r.slot.0 (λ z a b. r.next z a b (unmarked z b) ∙ after-flat z a ls) in
    let back = row_is t.back (λ y. before 0 (list_of y ls) y) s.back r.slot.1 (λ z a b. r.prev z a b (unmarked z b) ∙ before-flat z a ls) in
    let first : t.first ≡ map hd (r.here ∷ r.later) =
    drop-cons t.first 0 0 (omega (arith, s.first)) ∙ ap₂ (λ (a : ℕ) (l : List ℕ). a ∷ l) r.start (sym r.firsts) in
    let last = sym r.lasts in
    λ i. record { fwd = fwd i; back = back i; first = first i; last = last i }

pub passes-sound : (t : Threads) → Lengths t → passes t steps 0 0 (get_or t.first 0 0) no_marks ≡ true → Sound t
passes-sound t s e =
    let r = ran t s steps 0 0 (get_or t.first 0 0) no_marks (omega arith) refl refl e in
    (sound (r.here ∷ r.later)
    (record { nine = omega (arith, r.many); once = r.once; inside = λ z h. let i = r.inside z h in (i.0, i.1) })
    t (threads-is t s r)).0
