-- A block more: what is told of the readings to k, and what of block k + 1; the blocks to k that begin to wait, and block k + 1.
use mathlib.Core.Bool.{Bool, true, false}
use mathlib.Core.Path.{◌≡◌, refl, sym, subst}
use mathlib.Core.List.{List, [], ◌∷◌, ◌++◌, append_assoc}
use Prim.Native.Nat.{ℕ, zero, suc, ◌+◌, ◌*◌, ◌-◌, ◌≤◌, ◌<◌}
use native.Mathlib.Nat.{eq-or-lt_of_le}
use mathlib.Core.Logic.{⊎_elim}
use native.Mathlib.Omega.{arith}
use Rattle.std.specs.Prelude.{Some, None, slice_get}
use Rattle.std.proofs.lemmas.Option.{none-some, same_Some}
use Rattle.text.specs.Decimals.{spelling}
use Rattle.tables.specs.declared.Tables.{Tables}
use Rattle.tables.specs.State.{read, task_at}
use Rattle.lines.specs.Lines.{Fits}
use Rattle.readings.specs.Readings.{reading_of, change_of, changed_of, begins, alone, beginners, names_of, since_of, told_of}
use Rattle.lines.proofs.Behind.{fits-onward}

-- the names of two lists, one behind the other
pub names-behind : (l m : List ℕ) → names_of (l ++ m) ≡ names_of l ++ names_of m
unfolding names_of
names-behind [] m = refl
names-behind (k ∷ l) m = rw (names-behind l m, append_assoc (spelling k) (names_of l) (names_of m)) refl

sub-suc : (k : ℕ) → suc k - 1 ≡ k
sub-suc k = omega arith

-- the first of the blocks to n is one of them
within_more : (b : Bool) (n k : ℕ) (l : List ℕ) → (slice_get l 0 ≡ Some k → k ≤ n) → slice_get (l ++ alone b (suc n)) 0 ≡ Some k → k ≤ suc n
within_more true n k [] w e = omega (arith, same_Some (suc n) k e)
within_more false n k [] w e = absurd (none-some k e)
within_more b n k (a ∷ l) w e = omega (arith, w e)

pub within : (before after : Tables) (n k : ℕ) → slice_get (beginners before after n) 0 ≡ Some k → k ≤ n
unfolding beginners
within before after zero k e = absurd (none-some k e)
within before after (suc n) k e = within_more (begins (task_at (read before) (suc n)) (task_at (read after) (suc n))) n k (beginners before after n) (within before after n k) e

-- what is behind a list does not change its first
first-stays : (l m : List ℕ) (k : ℕ) → slice_get l 0 ≡ Some k → slice_get (l ++ m) 0 ≡ Some k
first-stays [] m k e = absurd (none-some k e)
first-stays (a ∷ l) m k e = e

module _ (before after : Tables) where
  abbrev begins-at : ℕ → Bool
  begins-at n = begins (task_at (read before) n) (task_at (read after) n)

  first_on : (k n j : ℕ) → slice_get (beginners before after k) 0 ≡ Some j → k ≤ n → slice_get (beginners before after n) 0 ≡ Some j
  unfolding beginners
  first_on zero n j e low = absurd (none-some j e)
  first_on (suc k) zero j e low = absurd (omega (arith, low))
  first_on (suc k) (suc n) j e low =
      ⊎_elim (λ (same : suc k ≡ suc n). subst (λ (i : ℕ). slice_get (beginners before after i) 0 ≡ Some j) same e)
      (λ (less : suc k < suc n). first-stays (beginners before after n) (alone (begins-at (suc n)) (suc n)) j (first_on (suc k) n j e (omega (arith, less)))) (eq-or-lt_of_le low)

  -- block k begins to wait, and none before it: it is the first of all of them
  pub first-here : (k n : ℕ) → 1 ≤ k → k ≤ n → beginners before after (k - 1) ≡ [] → begins-at k ≡ true → slice_get (beginners before after n) 0 ≡ Some k
  unfolding beginners
  first-here zero n some low none is = absurd (omega (arith, some))
  first-here (suc k) n some low none is =
      let before-it : beginners before after k ≡ [] = rw (← sub-suc k) none in
      first_on (suc k) n (suc k) (rw (before-it, is) refl) low

  pub first_past : (k : ℕ) → 1 ≤ k → beginners before after (k - 1) ≡ [] → begins-at k ≡ false → beginners before after (k + 1 - 1) ≡ []
  unfolding beginners
  first_past zero some none not = absurd (omega (arith, some))
  first_past (suc k) some none not = let same : suc k + 1 - 1 ≡ suc k = omega arith in rw (same, not, rw (sub-suc k) at none) refl

  -- a line with the names of the blocks below k behind it, and then that of block k
  pub named-next : (k : ℕ) {l m r : List ℕ} → 1 ≤ k → Fits l (names_of (beginners before after (k - 1))) ((k - 1) * 3) m
      → Fits m (names_of (alone (begins-at k) k)) 3 r → Fits l (names_of (beginners before after (k + 1 - 1))) ((k + 1 - 1) * 3) r
  unfolding beginners
  named-next zero some p q = absurd (omega (arith, some))
  named-next (suc k) some p q =
      let same : suc k + 1 - 1 ≡ suc k = omega arith in
      rw (same, names-behind (beginners before after k) (alone (begins-at (suc k)) (suc k)))
      (fits-onward (names_of (beginners before after k)) (names_of (alone (begins-at (suc k)) (suc k))) (suc k * 3) (rw (sub-suc k) at p) q (omega arith))

  -- the same of the readings that have changed
  pub changed-next : (k : ℕ) {l m r : List ℕ} → 1 ≤ k → Fits l (changed_of before after (k - 1)) ((k - 1) * 14) m
      → Fits m (change_of k (reading_of before k) (reading_of after k)) 14 r → Fits l (changed_of before after (k + 1 - 1)) ((k + 1 - 1) * 14) r
  unfolding changed_of
  changed-next zero some p q = absurd (omega (arith, some))
  changed-next (suc k) some p q =
      let same : suc k + 1 - 1 ≡ suc k = omega arith in
      rw same
      (fits-onward (changed_of before after k) (change_of (suc k) (reading_of before (suc k)) (reading_of after (suc k))) (suc k * 14) (rw (sub-suc k) at p) q (omega arith))

-- ---- What is told of the blocks that begin to wait: nothing where there is none, and else the reading of the first and the names of all.

pub told_none : (t : Tables) (l : List ℕ) → slice_get l 0 ≡ None → told_of t l ≡ []
unfolding told_of
told_none t [] e = refl
told_none t (k ∷ l) e = absurd (none-some k (sym e))

pub told-some : (t : Tables) (l : List ℕ) (k : ℕ) → slice_get l 0 ≡ Some k → told_of t l ≡ since_of (reading_of t k) ++ names_of l
unfolding told_of
told-some t [] k e = absurd (none-some k e)
told-some t (a ∷ l) k e = rw (same_Some a k e) refl
