-- Pointers that pass their test are sound, and sound ones pass it. The test is of nine lists, in which none stands twice, and of the cells that those
-- lists give.
use mathlib.Core.Bool.{Bool, true, ◌&&◌, true≢false}
use mathlib.Core.Path.{◌≡◌, refl, sym, ap, ap₂, ◌∙◌}
use mathlib.Core.Logic.{⊎_elim}
use mathlib.Core.List.{List, [], ◌∷◌}
use Prim.Native.Nat.{ℕ, ◌≤◌}
use native.Mathlib.Omega.{arith}
use native.Mathlib.Nat.{eq-zero-or-pos}
use lib.ListN.{length, length-map}
use lib.Dec.{eqb, leb}
use borrow.Author.Tests.{eqb-true, eq-eqb, leb-true, le-leb}
use Rattle.threads.specs.declared.Threads.{Threads}
use Rattle.threads.specs.Threads.{count, counts, queues_of, threaded, Sound, BLOCKS, QUEUES}
use Rattle.words.specs.Words.{one_to, all_of, same_list}
use Rattle.meaning.specs.Rules.{everywhere, pointers_sound}
use Rattle.words.proofs.Truth.{both, and-of}
use Rattle.threads.proofs.Tests.{all-of, of-all, to-all, one-to}

same-list : (l m : List ℕ) → same_list l m ≡ true → l ≡ m
unfolding same_list
same-list [] [] e = refl
same-list [] (b ∷ m) e = absurd (true≢false (sym e))
same-list (a ∷ l) [] e = absurd (true≢false (sym e))
same-list (a ∷ l) (b ∷ m) e =
    let p = both (eqb a b) (same_list l m) e in
    ap₂ (λ (x : ℕ) (y : List ℕ). x ∷ y) (eqb-true a b p.0) (same-list l m p.1)

of-same-list : (l : List ℕ) → same_list l l ≡ true
unfolding same_list
of-same-list [] = refl
of-same-list (a ∷ l) = and-of (eqb a a) (same_list l l) (eq-eqb a a refl) (of-same-list l)

everywhere-of : (p : ℕ → Bool) (ls : List (List ℕ)) → everywhere p ls ≡ true → (y : ℕ) → 1 ≤ counts y ls → p y ≡ true
unfolding everywhere counts
everywhere-of p [] e y h = absurd (omega arith)
everywhere-of p (l ∷ ls) e y h =
    let q = both (all_of p l) (everywhere p ls) e in
    ⊎_elim (λ z. everywhere-of p ls q.1 y (omega (arith, z))) (λ z. all-of p l q.0 y z) (eq-zero-or-pos (count y l))

same-threads : (t u : Threads) → t.fwd ≡ u.fwd → t.back ≡ u.back → t.first ≡ u.first → t.last ≡ u.last → t ≡ u
same-threads t u a b c d = λ i. record { fwd = a i; back = b i; first = c i; last = d i }

pub sound-of : (t : Threads) → length (queues_of t) ≡ QUEUES → pointers_sound t ≡ true → Sound t
unfolding pointers_sound
sound-of t n e =
    let ls = queues_of t in
    let p = both _ _ e in
    let p' = both _ _ p.0 in
    let p'' = both _ _ p'.0 in
    let fb = both _ _ p'.1 in
    let fl = both _ _ p.1 in
    let inside : (y : ℕ) → 1 ≤ counts y ls → (1 ≤ y) × (y ≤ BLOCKS) =
    λ y h. let q = both (leb 1 y) (leb y 40) (everywhere-of (λ y. leb 1 y && leb y 40) ls p''.0 y h) in (leb-true _ _ q.0, leb-true _ _ q.1) in
    record {
      apart =
          record {
            nine = n;
            once = λ y.
                ⊎_elim (λ z. omega (arith, z))
                (λ z. leb-true _ _ (all-of (λ y. leb (counts y ls) 1) (one_to BLOCKS) p''.1 y (one-to 40 y (inside y z).0 (inside y z).1)))
                (eq-zero-or-pos (counts y ls));
            inside = inside;
          };
      canon = same-threads t (threaded ls) (same-list _ _ fb.0) (same-list _ _ fb.1) (same-list _ _ fl.0) (same-list _ _ fl.1);
    }

-- as many lists as there are first blocks
pub nine-queues : (t : Threads) → length t.first ≡ QUEUES → length (queues_of t) ≡ QUEUES
unfolding queues_of
nine-queues t h = length-map t.first _ ∙ h

-- ---- And back.
of-everywhere : (p : ℕ → Bool) (ls : List (List ℕ)) → ((y : ℕ) → 1 ≤ counts y ls → p y ≡ true) → everywhere p ls ≡ true
unfolding everywhere counts
of-everywhere p [] f = refl
of-everywhere p (l ∷ ls) f =
    and-of (all_of p l) (everywhere p ls) (of-all p l (λ y h. f y (omega (arith, h)))) (of-everywhere p ls (λ y h. f y (omega (arith, h))))

pub of-sound : (t : Threads) → Sound t → pointers_sound t ≡ true
unfolding pointers_sound
of-sound t g =
    let ls = queues_of t in
    let e = g.canon in
    and-of _ _
    (and-of _ _
    (and-of _ _
    (of-everywhere (λ y. leb 1 y && leb y 40) ls (λ y h. let b = g.apart.inside y h in and-of _ _ (le-leb 1 y b.0) (le-leb y 40 b.1)))
    (to-all (λ y. leb (counts y ls) 1) BLOCKS (λ y a b. le-leb _ _ (g.apart.once y))))
    (and-of _ _ (same (ap (λ (x : Threads). x.fwd) e)) (same (ap (λ (x : Threads). x.back) e))))
    (and-of _ _ (same (ap (λ (x : Threads). x.first) e)) (same (ap (λ (x : Threads). x.last) e)))
  where
    same : {l m : List ℕ} → l ≡ m → same_list l m ≡ true
    same {l} {m} e = ap (same_list l) (sym e) ∙ of-same-list l
