-- Where the pointers are sound, the walk passes: it goes through their lists.
use mathlib.Core.Bool.{true}
use mathlib.Core.Path.{◌≡◌, refl, sym, ap, ◌∙◌}
use mathlib.Core.Logic.{⊎_elim}
use mathlib.Core.List.{List, [], ◌∷◌, ◌++◌, append-nil}
use Prim.Native.Nat.{ℕ, zero, suc, ◌+◌, ◌-◌, ◌≤◌, ◌<◌}
use native.Mathlib.Numerals.{add-one}
use native.Mathlib.Omega.{arith}
use native.Mathlib.Nat.{not-suc-le-zero, le_of_suc-le-suc}
use lib.ListN.{length, set, get_or, take, drop, length-append, length-set, drop_of_length-le}
use lib.Seq.{drop-cons, get_or-set_same, get_or-set_other, append_snoc}
use borrow.Author.Tests.{eq-eqb}
use Rattle.threads.specs.declared.Threads.{Threads}
use Rattle.threads.specs.Threads.{hd, lst, after, before, count, counts, row, threaded, Apart, queue_in, queues_of, Sound, BLOCKS, QUEUES, no_queue}
use Rattle.threads.proofs.Lists.{count-nil, count-append, count-hit, count_past, count-one, after_none, before-none, lst-append}
use Rattle.words.proofs.Truth.{tested, and-of}
use Rattle.threads.proofs.Rows.{row_at}
use Rattle.threads.proofs.Flat.{flat, count-flat, fwd-row, back-row}
use Rattle.threads.proofs.Laws.{member}
use Rattle.threads.proofs.Short.{length-once}
use Rattle.threads.proofs.Read.{first_of, last_of, next_of, prev-of}
use Rattle.words.specs.Words.{one_to}
use Rattle.threads.proofs.Tests.{of-all, to-top}
use Rattle.pointers.proofs.Found.{unmarked, counts-nil}
use Rattle.pointers.proofs.Passes.{passes, end-all, end-one, one_block}
use Rattle.pointers.specs.Walked.{clear_at, rest_clear, steps, no_marks, last_queue}

-- ---- counts, by where a list stands among the lists

pub counts-at : (z : ℕ) (ls : List (List ℕ)) (q : ℕ) → q < length ls
    → counts z ls ≡ counts z (take q ls) + count z (queue_in ls q) + counts z (drop (suc q) ls)
unfolding counts
counts-at z [] q h = absurd (not-suc-le-zero h)
counts-at z (l ∷ ls) zero h = omega arith
counts-at z (l ∷ ls) (suc q) h = omega (arith, counts-at z ls q (le_of_suc-le-suc h))

counts-drop : (z : ℕ) (ls : List (List ℕ)) (q : ℕ) → q < length ls → counts z (drop q ls) ≡ count z (queue_in ls q) + counts z (drop (suc q) ls)
unfolding counts
counts-drop z ls q h = ap (counts z) (drop-cons ls q [] h)

pub counts-take : (z : ℕ) (ls : List (List ℕ)) (q : ℕ) → q < length ls → counts z (take (suc q) ls) ≡ counts z (take q ls) + count z (queue_in ls q)
unfolding counts
counts-take z [] q h = absurd (not-suc-le-zero h)
counts-take z (l ∷ ls) zero h = omega arith
counts-take z (l ∷ ls) (suc q) h = omega (arith, counts-take z ls q (le_of_suc-le-suc h))

pub counts-out : (z : ℕ) (ls : List (List ℕ)) (q : ℕ) → length ls ≤ suc q → counts z (drop (suc q) ls) ≡ 0
unfolding counts
counts-out z ls q h = ap (counts z) (drop_of_length-le ls {i = suc q} h)

pub flat-drop : (ls : List (List ℕ)) (q : ℕ) → q < length ls → flat (drop q ls) ≡ queue_in ls q ++ 0 ∷ flat (drop (suc q) ls)
unfolding flat
flat-drop ls q h = ap flat (drop-cons ls q [] h)

-- ---- how long the lists in a row are

together : List (List ℕ) → List ℕ
together [] = []
together (l ∷ ls) = l ++ together ls

count-together : (z : ℕ) (ls : List (List ℕ)) → count z (together ls) ≡ counts z ls
unfolding together counts
count-together z [] = count-nil z
count-together z (l ∷ ls) = omega (arith, count-append z l (together ls), count-together z ls)

length-flat : (ls : List (List ℕ)) → length (flat ls) ≡ length (together ls) + length ls
unfolding together flat
length-flat [] = refl
length-flat (l ∷ ls) = omega (arith, length-append l (0 ∷ flat ls), length-append l (together ls), length-flat ls)

pub flat-short : (ls : List (List ℕ)) → Apart ls → length (flat ls) ≤ steps
flat-short ls a =
    omega (
      arith,
      length-flat ls,
      a.nine,
      length-once 41 (together ls) (λ z. omega (arith, count-together z ls, a.once z))
          (λ z h. omega (arith, a.inside z (omega (arith, count-together z ls)))),
    )

-- ---- a block of no queue

clear-shown : (t : Threads) (m : List ℕ) (y : ℕ) → (get_or m y 0 ≡ no_queue → (get_or t.fwd y 0 ≡ 0) × (get_or t.back y 0 ≡ 0)) → clear_at t m y ≡ true
unfolding clear_at
clear-shown t m y h =
    ⊎_elim
    (λ e. let f = h e.1 in rw (e.0, eq-eqb (get_or t.fwd y 0) 0 f.0, eq-eqb (get_or t.back y 0) 0 f.1))
    (λ e. rw e.0)
    (tested (get_or m y 0) 9)

module _ (t : Threads) (s : Sound t) where
  loose : (z : ℕ) → 1 ≤ z → z ≤ BLOCKS → counts z (queues_of t) ≡ 0 → (get_or t.fwd z 0 ≡ 0) × (get_or t.back z 0 ≡ 0)
  loose z a b n =
      let ls = queues_of t in
      let none : count z (flat ls) ≡ 0 = count-flat z ls a ∙ n in (
        ap (λ (l : List ℕ). get_or l z 0) (ap (λ (u : Threads). u.fwd) s.canon ∙ fwd-row ls) ∙ row_at (after (flat ls)) z a b ∙ after_none (flat ls) z none,
        ap (λ (l : List ℕ). get_or l z 0) (ap (λ (u : Threads). u.back) s.canon ∙ back-row ls) ∙ row_at (before 0 (flat ls)) z a b ∙ before-none 0 (flat ls) z none,
      )

  slot : (get_or t.fwd 0 0 ≡ 0) × (get_or t.back 0 0 ≡ 0)
  unfolding threaded row
  slot = (ap (λ (u : Threads). get_or u.fwd 0 0) s.canon, ap (λ (u : Threads). get_or u.back 0 0) s.canon)

  rest-holds : (m : List ℕ) → ((z : ℕ) → 1 ≤ z → z ≤ BLOCKS → get_or m z 0 ≡ no_queue → counts z (queues_of t) ≡ 0) → rest_clear t m ≡ true
  unfolding rest_clear
  rest-holds m h =
      and-of _ _ (clear-shown t m 0 (λ e. slot))
      (of-all (clear_at t m) (one_to BLOCKS)
      (λ y k. let o = to-top 40 y k in clear-shown t m y (λ e. loose y o.0 o.1 (h y o.0 o.1 e))))

  -- what is ahead has no mark, and what is behind has one
  goes : (n q : ℕ) (A B m : List ℕ) → q ≤ last_queue → queue_in (queues_of t) q ≡ A ++ B → length (B ++ 0 ∷ flat (drop (suc q) (queues_of t))) ≤ n → length m ≡ suc BLOCKS
      → ((z : ℕ) → 1 ≤ count z B + counts z (drop (suc q) (queues_of t)) → get_or m z 0 ≡ no_queue)
      → ((z : ℕ) → 1 ≤ z → z ≤ BLOCKS → get_or m z 0 ≡ no_queue → counts z (take q (queues_of t)) + count z A ≡ 0)
      → passes t n q (lst 0 A) (hd B) m ≡ true
  goes zero q A B m h e k l ahead behind = absurd (omega (arith, length-append B (0 ∷ flat (drop (suc q) (queues_of t)))))
  goes (suc n) q A [] m h e k l ahead behind =
      let ls = queues_of t in
      let nine : length ls ≡ QUEUES = s.apart.nine in
      let last : get_or t.last q 0 ≡ lst 0 A = last_of t s q (omega arith) ∙ ap (lst 0) (e ∙ append-nil A) in
      let all : (z : ℕ) → count z (queue_in ls q) ≡ count z A = λ z. ap (count z) (e ∙ append-nil A) in
      ⊎_elim
      (λ v.
      end-all t q (lst 0 A) 0 m (suc n) (omega arith) refl last v.1
      ∙ rest-holds m (λ z a b f.
      omega (arith, counts-at z ls q (omega arith), all z, behind z a b f, counts-out z ls q (omega (arith, v.1)))))
      (λ v.
      let less : suc n - 1 ≡ n = omega arith in
      let low : suc q ≤ last_queue = omega (arith, v.1) in
      end-one t q (lst 0 A) 0 m (suc n) (omega arith) refl last v.1
      ∙ rw (less, add-one q, first_of t s (suc q) (omega arith))
      (goes n (suc q) [] (queue_in ls (suc q)) m low refl
      (omega (arith, ap length (flat-drop ls (suc q) (omega arith)))) l
      (λ z f. ahead z (omega (arith, counts-drop z ls (suc q) (omega arith), count-nil z)))
      (λ z a b f. omega (arith, behind z a b f, all z, counts-take z ls q (omega arith), count-nil z))))
      (tested q 8)
  goes (suc n) q A (b ∷ B) m h e k l ahead behind =
      let ls = queues_of t in
      let nine : length ls ≡ QUEUES = s.apart.nine in
      let less : suc n - 1 ≡ n = omega arith in
      let all : (z : ℕ) → count z (queue_in ls q) ≡ count z A + count z (b ∷ B) = λ z. ap (count z) e ∙ count-append z A (b ∷ B) in
      let mem = member ls s.apart q (omega arith) b (omega (arith, all b, count-hit b b B refl)) in
      one_block t q (lst 0 A) b m (suc n) (omega arith) (omega (arith, mem)) mem.1 (ahead b (omega (arith, count-hit b b B refl)))
      (prev-of t s q (omega arith) A B b e)
      ∙ rw (less, next_of t s q (omega arith) A B b e)
      (rw (lst-append 0 A (b ∷ [])) at
      (goes n q (A ++ (b ∷ [])) B (set m b q) h (e ∙ sym (append_snoc A b B)) (le_of_suc-le-suc k) (length-set m b q ∙ l)
      (λ z f.
      ⊎_elim
      (λ w. absurd (omega (arith, counts-at z ls q (omega arith), all z, count-hit b z B w.1, s.apart.once z)))
      (λ w. get_or-set_other m b z q 0 (λ g. w.1 (sym g)) ∙ ahead z (omega (arith, count_past b z B w.1)))
      (tested b z))
      (λ z a c f.
      ⊎_elim
      (λ w. absurd (omega (arith, ap (λ (x : ℕ). get_or (set m b q) x 0) w.1, get_or-set_same m b q 0 (omega (arith, mem)))))
      (λ w.
      omega (
        arith,
        behind z a c (sym (get_or-set_other m b z q 0 (λ g. w.1 (sym g))) ∙ f),
        count-append z A (b ∷ []),
        count-one z b w.1,
      ))
      (tested b z))))

  pub sound-passes : passes t steps 0 0 (get_or t.first 0 0) no_marks ≡ true
  sound-passes =
      let ls = queues_of t in
      let nine : length ls ≡ QUEUES = s.apart.nine in
      rw (first_of t s 0 (omega arith))
      (goes steps 0 [] (queue_in ls 0) no_marks (omega arith) refl
      (omega (arith, ap length (flat-drop ls 0 (omega arith)), flat-short ls s.apart)) refl
      (λ z h. unmarked z (s.apart.inside z (omega (arith, counts-drop z ls 0 (omega arith)))).1)
      (λ z a b h. omega (arith, count-nil z, counts-nil z)))
