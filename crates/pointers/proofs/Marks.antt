-- The marks that the walk leaves: each block is marked with its queue, and a block of no queue with 9.
use mathlib.Core.Bool.{Bool, true, false, true≢false}
use Rattle.std.specs.Prelude.{Option, is_some, unwrap_or}
use Rattle.std.specs.Bool.{then_some}
use mathlib.Core.Path.{◌≡◌, refl, sym, ap, ◌∙◌}
use mathlib.Core.Logic.{◌≢◌, ⊎_elim}
use mathlib.Core.List.{List, [], ◌∷◌, ◌++◌, append-nil}
use Prim.Native.Nat.{ℕ, zero, suc, ◌+◌, ◌-◌, ◌≤◌, ◌<◌}
use native.Mathlib.Numerals.{add-one}
use native.Mathlib.Omega.{arith}
use native.Mathlib.Nat.{not-suc-le-zero, le_of_suc-le-suc, eq-zero-or-pos}
use lib.ListN.{length, set, get_or, take, drop, length-append, length-set}
use lib.Seq.{get_or-set_same, get_or-set_other, append_snoc}
use lib.Dec.{eqb}
use borrow.Author.Tests.{eq-eqb, ne_eqb}
use Rattle.threads.specs.declared.Threads.{Threads}
use Rattle.threads.specs.Threads.{hd, count, counts, queue_in, queues_of, Sound, BLOCKS, QUEUES, no_queue}
use Rattle.threads.proofs.Lists.{count-nil, count-append, count-hit, count_past, count-one, absent-head}
use Rattle.words.proofs.Truth.{tested}
use Rattle.threads.proofs.Flat.{flat}
use Rattle.threads.proofs.Laws.{member}
use Rattle.threads.proofs.Read.{first_of, next_of}
use Rattle.words.specs.Words.{if◌then◌else◌, ◌among◌, standing}
use Rattle.meaning.specs.Rules.{pointers_sound}
use Rattle.meaning.proofs.Pointers.{sound-of, nine-queues}
use Rattle.pointers.proofs.Found.{Lengths, unmarked}
use Rattle.pointers.proofs.Goes.{counts-at, counts-take, flat-drop, flat-short}
use Rattle.pointers.proofs.Decided.{decided}
use Rattle.pointers.proofs.Passes.{passes, end-all, end-one, one_block}
use Rattle.pointers.specs.Walked.{rest_clear, no_marks, Walks, steps, last_queue}

pub record Marks (t : Threads) (m : List ℕ) : Type 0 where
  pub inside : (q y : ℕ) → q < QUEUES → 1 ≤ count y (queue_in (queues_of t) q) → get_or m y 0 ≡ q
  pub outside : (y : ℕ) → y ≤ BLOCKS → counts y (queues_of t) ≡ 0 → get_or m y 0 ≡ no_queue

-- the marks at the end of the walk from y on
unfoldable pub ends : Threads → ℕ → ℕ → ℕ → List ℕ → List ℕ
ends t zero q y m = m
ends t (suc n) q y m =
    if eqb y 0 then (if eqb q 8 then m else ends t n (q + 1) (get_or t.first (q + 1) 0) m)
    else ends t n q (get_or t.fwd y 0) (set m y q)

module _ (t : Threads) (q y : ℕ) (m : List ℕ) where
  pub ends-all : (n : ℕ) → y ≡ 0 → q ≡ last_queue → ends t n q y m ≡ m
  unfolding ends
  ends-all zero e k = refl
  ends-all (suc n) e k = rw (eq-eqb y 0 e, eq-eqb q 8 k)

  pub ends-one : (n : ℕ) → n ≢ 0 → y ≡ 0 → q ≢ 8 → ends t n q y m ≡ ends t (n - 1) (q + 1) (get_or t.first (q + 1) 0) m
  unfolding ends
  ends-one zero o e k = absurd (o refl)
  ends-one (suc n) o e k = let less : suc n - 1 ≡ n = omega arith in rw (eq-eqb y 0 e, ne_eqb q 8 k, less)

  pub ends-block : (n : ℕ) → n ≢ 0 → y ≢ 0 → ends t n q y m ≡ ends t (n - 1) q (get_or t.fwd y 0) (set m y q)
  unfolding ends
  ends-block zero o e = absurd (o refl)
  ends-block (suc n) o e = let less : suc n - 1 ≡ n = omega arith in rw (ne_eqb y 0 e, less)

in_take : (z : ℕ) (ls : List (List ℕ)) (j q : ℕ) → j < q → q ≤ length ls → count z (queue_in ls j) ≤ counts z (take q ls)
unfolding counts
in_take z [] j q h k = absurd (omega arith)
in_take z (l ∷ ls) j zero h k = absurd (omega arith)
in_take z (l ∷ ls) zero (suc q) h k = omega arith
in_take z (l ∷ ls) (suc j) (suc q) h k = omega (arith, in_take z ls j q (le_of_suc-le-suc h) (le_of_suc-le-suc k))

module _ (t : Threads) (s : Sound t) where
  leaves : (n q : ℕ) (A B m : List ℕ) → q ≤ last_queue → queue_in (queues_of t) q ≡ A ++ B → length (B ++ 0 ∷ flat (drop (suc q) (queues_of t))) ≤ n → length m ≡ suc BLOCKS
      → ((j z : ℕ) → j < q → 1 ≤ count z (queue_in (queues_of t) j) → get_or m z 0 ≡ j)
      → ((z : ℕ) → 1 ≤ count z A → get_or m z 0 ≡ q)
      → ((z : ℕ) → z ≤ BLOCKS → counts z (take q (queues_of t)) + count z A ≡ 0 → get_or m z 0 ≡ no_queue)
      → Marks t (ends t n q (hd B) m)
  leaves zero q A B m h e k l done now none = absurd (omega (arith, length-append B (0 ∷ flat (drop (suc q) (queues_of t)))))
  leaves (suc n) q A [] m h e k l done now none =
      let ls = queues_of t in
      let nine : length ls ≡ QUEUES = s.apart.nine in
      let all : (z : ℕ) → count z (queue_in ls q) ≡ count z A = λ z. ap (count z) (e ∙ append-nil A) in
      let upto : (j z : ℕ) → j < suc q → 1 ≤ count z (queue_in ls j) → get_or m z 0 ≡ j =
      λ j z f g.
      ⊎_elim
      (λ w. now z (omega (arith, all z, ap (λ (x : ℕ). count z (queue_in ls x)) w.1)) ∙ sym w.1)
      (λ w. done j z (omega (arith, w.1)) g)
      (tested j q) in
      ⊎_elim
      (λ v.
      rw (ends-all t q 0 m (suc n) refl v.1)
      (record {
        inside = λ j z f g. upto j z (omega (arith, v.1)) g;
        outside = λ z a f. none z a (omega (arith, counts-at z ls q (omega arith), all z));
      }))
      (λ v.
      let less : suc n - 1 ≡ n = omega arith in
      let low : suc q ≤ last_queue = omega (arith, v.1) in
      rw (ends-one t q 0 m (suc n) (omega arith) refl v.1)
      (rw (less, add-one q, first_of t s (suc q) (omega arith))
      (leaves n (suc q) [] (queue_in ls (suc q)) m low refl
      (omega (arith, ap length (flat-drop ls (suc q) (omega arith)))) l
      upto
      (λ z f. absurd (omega (arith, count-nil z)))
      (λ z a f. none z a (omega (arith, all z, counts-take z ls q (omega arith), count-nil z))))))
      (tested q 8)
  leaves (suc n) q A (b ∷ B) m h e k l done now none =
      let ls = queues_of t in
      let nine : length ls ≡ QUEUES = s.apart.nine in
      let less : suc n - 1 ≡ n = omega arith in
      let all : (z : ℕ) → count z (queue_in ls q) ≡ count z A + count z (b ∷ B) = λ z. ap (count z) e ∙ count-append z A (b ∷ B) in
      let mem = member ls s.apart q (omega arith) b (omega (arith, all b, count-hit b b B refl)) in
      let same : (z : ℕ) → b ≡ z → get_or (set m b q) z 0 ≡ q =
      λ z w. ap (λ (x : ℕ). get_or (set m b q) x 0) (sym w) ∙ get_or-set_same m b q 0 (omega (arith, mem)) in
      rw (ends-block t q b m (suc n) (omega arith) (omega (arith, mem)))
      (rw (less, next_of t s q (omega arith) A B b e)
      (leaves n q (A ++ (b ∷ [])) B (set m b q) h (e ∙ sym (append_snoc A b B)) (le_of_suc-le-suc k) (length-set m b q ∙ l)
      (λ j z f g.
      ⊎_elim
      (λ w. absurd (omega (arith, counts-at z ls q (omega arith), all z, count-hit b z B w.1, in_take z ls j q f (omega arith), s.apart.once z)))
      (λ w. get_or-set_other m b z q 0 (λ x. w.1 (sym x)) ∙ done j z f g)
      (tested b z))
      (λ z f.
      ⊎_elim
      (λ w. same z w.1)
      (λ w. get_or-set_other m b z q 0 (λ x. w.1 (sym x)) ∙ now z (omega (arith, count-append z A (b ∷ []), count-one z b w.1)))
      (tested b z))
      (λ z a f.
      ⊎_elim
      (λ w. absurd (omega (arith, count-append z A (b ∷ []), count-hit b z [] w.1)))
      (λ w. get_or-set_other m b z q 0 (λ x. w.1 (sym x)) ∙ none z a (omega (arith, count-append z A (b ∷ []))))
      (tested b z))))

  all-marked : Marks t (ends t steps 0 (get_or t.first 0 0) no_marks)
  all-marked =
      let ls = queues_of t in
      let nine : length ls ≡ QUEUES = s.apart.nine in
      rw (first_of t s 0 (omega arith))
      (leaves steps 0 [] (queue_in ls 0) no_marks (omega arith) refl
      (omega (arith, ap length (flat-drop ls 0 (omega arith)), flat-short ls s.apart)) refl
      (λ j z f g. absurd (omega arith))
      (λ z f. absurd (omega (arith, count-nil z)))
      (λ z a f. unmarked z a))

-- ---- where a block stands

among-count : (y : ℕ) (l : List ℕ) → 1 ≤ count y l → y among l ≡ true
unfolding ◌among◌
among-count y [] h = absurd (omega (arith, count-nil y))
among-count y (a ∷ l) h =
    ⊎_elim (λ e. rw e.0) (λ e. rw e.0 (among-count y l (omega (arith, count_past a y l e.1)))) (tested a y)

among_none : (y : ℕ) (l : List ℕ) → count y l ≡ 0 → y among l ≡ false
unfolding ◌among◌
among_none y [] h = refl
among_none y (a ∷ l) h = let n = absent-head a y l h in rw (ne_eqb a y n.0) (among_none y l n.1)

pub standing-in : (y : ℕ) (ls : List (List ℕ)) (q : ℕ) → q < length ls → counts y ls ≤ 1 → 1 ≤ count y (queue_in ls q) → standing y ls ≡ q
unfolding standing counts
standing-in y [] q h o k = absurd (not-suc-le-zero h)
standing-in y (l ∷ ls) zero h o k = rw (among-count y l k)
standing-in y (l ∷ ls) (suc q) h o k =
    let c : count y (queue_in ls q) ≤ counts y ls = omega (arith, counts-at y ls q (le_of_suc-le-suc h)) in
    rw (among_none y l (omega arith)) (ap suc (standing-in y ls q (le_of_suc-le-suc h) (omega arith) k))

pub standing-none : (y : ℕ) (ls : List (List ℕ)) → counts y ls ≡ 0 → standing y ls ≡ length ls
unfolding standing counts
standing-none y [] h = refl
standing-none y (l ∷ ls) h = rw (among_none y l (omega arith)) (ap suc (standing-none y ls (omega arith)))

-- a block of some list stands in one of them
pub some-queue : (y : ℕ) (ls : List (List ℕ)) → 1 ≤ counts y ls → (q : ℕ) × (q < length ls) × (1 ≤ count y (queue_in ls q))
unfolding counts
some-queue y [] h = absurd (omega arith)
some-queue y (l ∷ ls) h =
    ⊎_elim
    (λ z. let r = some-queue y ls (omega (arith, z)) in (suc r.0, omega (arith, r.1), r.2))
    (λ z. (0, omega arith, z))
    (eq-zero-or-pos (count y l))

-- a block that stands in a queue is one of its list
module _ (t : Threads) (s : Sound t) (q : ℕ) (h : q < QUEUES) where
  pub stands_here : (y : ℕ) → standing y (queues_of t) ≡ q → 1 ≤ count y (queue_in (queues_of t) q)
  stands_here y e =
      let ls = queues_of t in
      ⊎_elim
      (λ z. absurd (omega (arith, standing-none y ls z, s.apart.nine)))
      (λ z.
      let (j, b, i) = some-queue y ls z in
      let k : j ≡ q = sym (standing-in y ls j b (s.apart.once y) i) ∙ e in
      rw (← k) i)
      (eq-zero-or-pos (counts y ls))

-- the marks are where the blocks stand
pub marks-standing : {t : Threads} {m : List ℕ} → Sound t → Marks t m → (y : ℕ) → y ≤ BLOCKS → get_or m y 0 ≡ standing y (queues_of t)
marks-standing {t} {m} s k y h =
    let ls = queues_of t in
    ⊎_elim
    (λ z. k.outside y h z ∙ sym (standing-none y ls z ∙ s.apart.nine))
    (λ z.
    let (q, b, i) = some-queue y ls z in
    k.inside q y (omega (arith, s.apart.nine)) i ∙ sym (standing-in y ls q b (s.apart.once y) i))
    (eq-zero-or-pos (counts y ls))

-- ---- for the code's loop: what is left of the walk after n steps gives what the whole gives

pub record Walking (t : Threads) (m : List ℕ) (q p y n : ℕ) : Type 0 where
  pub low : q ≤ last_queue
  pub long : length m ≡ suc BLOCKS
  pub sizes : Lengths t
  pub same : passes t (steps - n) q p y m ≡ pointers_sound t
  pub marks : ends t (steps - n) q y m ≡ ends t steps 0 (get_or t.first 0 0) no_marks

pub walking_start : (t : Threads) → Lengths t → Walking t no_marks 0 0 (get_or t.first 0 0) 0
walking_start t s = record { low = omega arith; long = refl; sizes = s; same = decided t s; marks = refl }

module _ {t : Threads} {m : List ℕ} {q p y n : ℕ} (w : Walking t m q p y n) where
  -- the walk ends at pointers that are not sound, or at the end of the last queue
  walks-not : false ≡ pointers_sound t → Walks t false no_marks
  walks-not e =
      record {
        right = e;
        sound = λ h. absurd (true≢false (sym h ∙ sym e));
        stands = λ h. absurd (true≢false (sym h ∙ sym e));
        none = λ h. refl;
        many = refl;
      }

  walks-all : y ≡ 0 → q ≡ last_queue → true ≡ pointers_sound t → Walks t true m
  walks-all e k h =
      let s = sound-of t (nine-queues t w.sizes.first) (sym h) in
      record {
        right = h;
        sound = λ z. s;
        stands = λ z. marks-standing {m = m} s (rw (sym (ends-all t q y m (steps - n) e k) ∙ w.marks) (all-marked t s));
        none = λ z. absurd (true≢false (h ∙ z));
        many = w.long;
      }

  pub walking-not : passes t (steps - n) q p y m ≡ false → Walks t false no_marks
  walking-not f = walks-not (sym f ∙ w.same)

  abbrev told : Bool → Option (List ℕ)
  told ok = then_some ok m

  walks-told : (ok : Bool) → y ≡ 0 → q ≡ last_queue → ok ≡ pointers_sound t → Walks t (is_some (told ok)) (unwrap_or (told ok) no_marks)
  walks-told true e k h = walks-all e k h
  walks-told false e k h = walks-not h

  pub walking-end : {ok : Bool} → n < steps → y ≡ 0 → get_or t.last q 0 ≡ p → q ≡ last_queue → ok ≡ rest_clear t m
      → Walks t (is_some (told ok)) (unwrap_or (told ok) no_marks)
  walking-end {ok} o e l k f = walks-told ok e k (f ∙ sym (end-all t q p y m (steps - n) (omega arith) e l k) ∙ w.same)

  less : steps - (n + 1) ≡ steps - n - 1
  less = omega arith

  pub walking-queue : n < steps → y ≡ 0 → get_or t.last q 0 ≡ p → q ≢ 8 → Walking t m (q + 1) 0 (get_or t.first (q + 1) 0) (n + 1)
  walking-queue o e l k =
      record {
        low = omega (arith, w.low);
        long = w.long;
        sizes = w.sizes;
        same = rw less (sym (end-one t q p y m (steps - n) (omega arith) e l k) ∙ w.same);
        marks = rw less (sym (ends-one t q y m (steps - n) (omega arith) e k) ∙ w.marks);
      }

  pub walking-block : n < steps → y ≢ 0 → y ≤ BLOCKS → get_or m y 0 ≡ no_queue → get_or t.back y 0 ≡ p → Walking t (set m y q) q y (get_or t.fwd y 0) (n + 1)
  walking-block o e b k l =
      record {
        low = w.low;
        long = length-set m y q ∙ w.long;
        sizes = w.sizes;
        same = rw less (sym (one_block t q p y m (steps - n) (omega arith) e b k l) ∙ w.same);
        marks = rw less (sym (ends-block t q y m (steps - n) (omega arith) e) ∙ w.marks);
      }
