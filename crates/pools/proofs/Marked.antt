-- Document 01, 'Either side of the line', for what `find` promises: "P3 60 units free in one run, 60 asked: granted; P4 61: waits." For a free run of
-- any length, anywhere in the pool, and nothing else free, by either rule: as many are to be had, at its
-- start, and one more is not. And E8's words.
use mathlib.Core.Bool.{true, false, not, ◌&&◌, true≢false}
use mathlib.Core.Path.{◌≡◌, sym, ◌∙◌}
use mathlib.Core.Logic.{◌⊎◌, ⊎_elim}
use Prim.Native.Nat.{ℕ, ◌+◌, ◌-◌, ◌^◌, ◌≤◌, ◌<◌}
use native.Mathlib.Omega.{arith}
use lib.Dec.{ltb}
use borrow.Author.Tests.{lt-ltb}
use Rattle.words.specs.Words.{has}
use Rattle.words.proofs.Members.{has_rest}
use Rattle.words.proofs.Truth.{true-or-false, not_so}
use Rattle.words.proofs.Places.{under-or-from}
use Rattle.words.proofs.Masks.{in-run, of-run}
use Rattle.std.specs.Prelude.{Option, Some, None}
use Rattle.pools.specs.Pools.{run, free_at, long_enough, lowest_start, hole_at, shortest, smallest_hole, SmallestHole}
use Rattle.pools.specs.Find.{found_of}
use Rattle.pools.proofs.Units.{free-inside, free-has, free-shown, free_part}
use Rattle.pools.proofs.Holes.{hole-before, hole-inside}
use Rattle.pools.proofs.Rules.{long-shown, lowest-free, lowest-only, lowest-given, smallest-hole, smallest-free, smallest-given, smallest-only}
use Rattle.pools.proofs.Starts.{start-smallest, by-rule, start_none, found-at, found_nowhere}
use Rattle.pools.proofs.Runs.{run-low}
use Rattle.pools.proofs.find.Reads as find

-- all is granted but for n units from the start s on
abbrev pub all_but : ℕ → ℕ → ℕ
all_but s n = 2 ^ 64 - 1 - run s n

module _ (s n : ℕ) (inside : s + n ≤ 64) where
  -- a free unit is one of the run
  in-free : (m a u : ℕ) → free_at (all_but s n) m a ≡ true → a ≤ u → u < a + m → (s ≤ u) × (u < s + n)
  in-free m a u h l k =
      let here : ltb u 64 ≡ true = lt-ltb u 64 (omega (arith, free-inside (all_but s n) m a h)) in
      let out : (ltb u 64 && not (has (run s n) u)) ≡ false = sym (has_rest 64 (run s n) u (run-low s n inside)) ∙ free-has (all_but s n) m a h u l k in
      of-run s n u (⊎_elim (λ y. y) (λ (x : has (run s n) u ≡ false). absurd (true≢false (rw (here, x) at out))) (true-or-false (has (run s n) u)))

  -- n units of the run and fewer are free at its start; by either rule that is where they are given
  free-there : (m : ℕ) → m ≤ n → free_at (all_but s n) m s ≡ true
  free-there m few =
      free-shown (all_but s n) m s (omega arith)
      (λ u l k. has_rest 64 (run s n) u (run-low s n inside) ∙ rw (in-run s n u l (omega arith), lt-ltb u 64 (omega arith)))

  as-many-lowest : (m : ℕ) → 1 ≤ m → m ≤ n → lowest_start (all_but s n) m ≡ s
  as-many-lowest m some few =
      lowest-only (all_but s n) m s (omega arith) (free-there m few) (λ b h. omega (arith, in-free m b b h (omega arith) (omega arith)))

  as-many-smallest : (m : ℕ) → 1 ≤ m → m ≤ n → smallest_hole (all_but s n) m ≡ s
  as-many-smallest m some few =
      let g = all_but s n in
      let a = smallest_hole g m in
      let here = smallest-given g m (long-shown g m s (free-there m few)) in
      let among = in-free m a a (smallest-free g m here) (omega arith) (omega arith) in
      ⊎_elim
      (λ (l : s < a).
      absurd
      (true≢false
      (sym (free_part g n s (free-there n (omega arith)) 1 (a - 1) (omega arith) (omega (arith, among)))
      ∙ hole-before g (shortest g m) a (smallest-hole g m some here) (a - 1) (omega arith))))
      (λ (l : a ≤ s). omega (arith, among))
      (under-or-from s a)

  pub as_many : (holes m : ℕ) → 1 ≤ m → m ≤ n → found_of holes (all_but s n) m ≡ Some s
  as_many holes m some few =
      found-at holes (all_but s n) m s (by-rule holes (all_but s n) m (λ a. a ≡ s) (as-many-lowest m some few) (as-many-smallest m some few)) (omega arith)

  none_free : (m : ℕ) → n < m → (a : ℕ) → free_at (all_but s n) m a ≡ false
  none_free m many a =
      not_so (free_at (all_but s n) m a)
      (λ h. omega (arith, in-free m a a h (omega arith) (omega arith), in-free m a (a + (m - 1)) h (omega arith) (omega arith)))

  pub one_more : (holes m : ℕ) → n < m → found_of holes (all_but s n) m ≡ None
  one_more holes m many =
      let g = all_but s n in
      found_nowhere holes g m
      (start_none holes g m
      (not_so (long_enough g m) (λ h. true≢false (sym (lowest-free g m (lowest-given g m h)) ∙ none_free m many (lowest_start g m)))))

-- ---- P3 and P4, of the contract itself.

module _ (holes s : ℕ) (inside : s + 60 ≤ 64) where
  abbrev Promised : ℕ → Option ℕ → Type 0
  Promised n r = find.Post tt (holes, (all_but s 60, (n, tt))) r (holes, (all_but s 60, (n, tt)))

  pub P3 : (r : Option ℕ) → Promised 60 r → r ≡ Some s
  P3 r p = p ∙ as_many s 60 inside holes 60 (omega arith) (omega arith)

  pub P4 : (r : Option ℕ) → Promised 61 r → r ≡ None
  P4 r p = p ∙ one_more s 60 inside holes 61 (omega arith)

-- ---- E8 of document 02, of the contract itself: a hole that is long enough, where none is shorter and none as long begins lower.

module _ (g n : ℕ) (some : 1 ≤ n) where
  abbrev Told : Option ℕ → Type 0
  Told r = find.Post tt (SmallestHole, (g, (n, tt))) r (SmallestHole, (g, (n, tt)))

  pub E8 : (m a : ℕ) → n ≤ m → hole_at g m a ≡ true → ((k b : ℕ) → n ≤ k → hole_at g k b ≡ true → (m < k) ⊎ ((m ≡ k) × (a ≤ b))) → (r : Option ℕ) → Told r → r ≡ Some a
  E8 m a long h f r p =
      p ∙ found-at SmallestHole g n a (start-smallest SmallestHole g n (λ z. omega arith) ∙ smallest-only g n some m a long h f) (omega (arith, hole-inside g m a h))
