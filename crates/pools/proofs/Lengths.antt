-- Holes by shifting. Of the set of the starts of free runs of m units, the members that have no neighbour in it are the holes of m units; and the
-- search for the shortest goes through one length after the other.
use mathlib.Core.Bool.{Bool, true, false, not, ◌&&◌, ◌||◌, true≢false}
use mathlib.Core.Path.{◌≡◌, refl, sym, ap, ap₂, ◌∙◌}
use mathlib.Core.Logic.{⊎_elim}
use Prim.Native.Nat.{ℕ, zero, suc, ◌+◌, ◌-◌, ◌*◌, ◌/◌, ◌%◌, ◌^◌, ◌≤◌, ◌<◌}
use native.Mathlib.Nat.{mod-lt}
use native.Mathlib.Omega.{arith}
use lib.Bits.{bit_and}
use lib.Count.{count_trailing_zeros}
use lib.Dec.{eqb, leb, ltb}
use lib.Pow.{pow_pos}
use borrow.Author.Tests.{ne_eqb, lt-ltb, le-leb}
use Rattle.words.specs.Words.{has}
use Rattle.words.proofs.Least.{least-has}
use Rattle.words.proofs.Members.{has-none, has_meet, has-down, has-up, has-cut, has_rest, has_within}
use Rattle.words.proofs.Places.{under-or-from}
use Rattle.words.proofs.Subsets.{own-width}
use Rattle.words.proofs.Truth.{true-or-false, same_truth, not_so, and_assoc}
use Rattle.pools.specs.Pools.{free_at, hole_at, shortest}
use Rattle.pools.proofs.Units.{free_part, free-behind, free-before, free-joined}
use Rattle.pools.proofs.Holes.{hole-as, no-hole, hole-free, shortest-is, shortest-long}

-- ---- Members without a neighbour.

-- i passes the test, and neither the next number nor the one before does
abbrev Alone : (ℕ → Bool) → ℕ → Bool
Alone p i = p i && not (p (i + 1)) && (eqb i 0 || not (p (i - 1)))

module _ (w i : ℕ) (low : w < 2 ^ 64) where
  spread : has (bit_and (bit_and w (2 ^ 64 - 1 - w / 2 ^ 1)) (2 ^ 64 - 1 - w * 2 ^ 1 % 2 ^ 64)) i
      ≡ (has w i && (ltb i 64 && not (has w (1 + i))) && (ltb i 64 && not (ltb i 64 && (leb 1 i && has w (i - 1)))))
  spread =
      has_meet (bit_and w (2 ^ 64 - 1 - w / 2 ^ 1)) (2 ^ 64 - 1 - w * 2 ^ 1 % 2 ^ 64) i
      ∙ ap₂ ◌&&◌
      (has_meet w (2 ^ 64 - 1 - w / 2 ^ 1) i
      ∙ ap (λ (b : Bool). has w i && b) (has_rest 64 (w / 2 ^ 1) i (omega arith) ∙ ap (λ (b : Bool). ltb i 64 && not b) (has-down w 1 i)))
      (has_rest 64 (w * 2 ^ 1 % 2 ^ 64) i (mod-lt (w * 2 ^ 1) (pow_pos 64))
      ∙ ap (λ (b : Bool). ltb i 64 && not b) (has-cut (w * 2 ^ 1) 64 i ∙ ap (λ (b : Bool). ltb i 64 && b) (has-up w 1 i)))

at_place : (i : ℕ) (a b c : Bool) → (a ≡ true → ltb i 64 ≡ true)
    → (a && (ltb i 64 && not b) && (ltb i 64 && not (ltb i 64 && (leb 1 i && c)))) ≡ (a && not b && (eqb i 0 || not c))
at_place i false b c f = refl
at_place zero true b c f = rw (f refl)
at_place (suc i) true b c f = rw (f refl, le-leb 1 (suc i) (omega arith), ne_eqb (suc i) 0 (λ z. omega arith))

pub alone-shifted : (w i : ℕ) → w < 2 ^ 64 → has (bit_and (bit_and w (2 ^ 64 - 1 - w / 2 ^ 1)) (2 ^ 64 - 1 - w * 2 ^ 1 % 2 ^ 64)) i ≡ Alone (has w) i
alone-shifted w i low =
    let e : 1 + i ≡ i + 1 = omega arith in
    spread w i low ∙ at_place i (has w i) (has w (1 + i)) (has w (i - 1)) (λ h. lt-ltb i 64 (has_within 64 w i low h))
    ∙ ap (λ (x : ℕ). has w i && not (has w x) && (eqb i 0 || not (has w (i - 1)))) e

-- of the starts of free runs of m units those are the holes
pub alone-hole : (g m i : ℕ) → 1 ≤ m → Alone (free_at g m) i ≡ hole_at g m i
alone-hole g m i some =
    ⊎_elim (λ (h : free_at g m i ≡ true). rw (next h) (ap (λ (b : Bool). free_at g m i && not (free_at g 1 (i + m)) && b) (last i h))) (λ (h : free_at g m i ≡ false). rw h)
    (true-or-false (free_at g m i))
    ∙ sym (and_assoc (free_at g m i) (not (free_at g 1 (i + m))) (eqb i 0 || not (free_at g 1 (i - 1)))) ∙ sym (hole-as g m i)
  where
    next : free_at g m i ≡ true → free_at g m (i + 1) ≡ free_at g 1 (i + m)
    next h =
        same_truth _ _ (λ e. free_part g m (i + 1) e 1 (i + m) (omega arith) (omega arith))
        (λ e. free_part g (suc m) i (free-behind g m i h e) m (i + 1) (omega arith) (omega arith))

    last : (i : ℕ) → free_at g m i ≡ true → (eqb i 0 || not (free_at g m (i - 1))) ≡ (eqb i 0 || not (free_at g 1 (i - 1)))
    last zero h = refl
    last (suc j) h =
        let z : suc j - 1 ≡ j = omega arith in
        rw z
        (ap (λ (b : Bool). eqb (suc j) 0 || not b)
        (same_truth (free_at g m j) (free_at g 1 j) (λ e. free_part g m j e 1 j (omega arith) (omega arith))
        (λ e. free_part g (suc m) j (free-before g m (suc j) h j refl e) m j (omega arith) (omega arith))))

-- ---- One length after the other.

-- what holds at the head of the loop: the starts of free runs of some length, the holes of that length, and that none shorter is long enough
pub record Lengthening (granted n runs holes : ℕ) : Type 0 where
  pub units : ℕ
  pub long : n ≤ units
  pub starts : (i : ℕ) → has runs i ≡ free_at granted units i
  pub here : (i : ℕ) → has holes i ≡ hole_at granted units i
  pub none : (k i : ℕ) → n ≤ k → k < units → hole_at granted k i ≡ false

module _ (g m runs holes : ℕ) (some : 1 ≤ m) (f : (i : ℕ) → has runs i ≡ free_at g m i) (h : (i : ℕ) → has holes i ≡ Alone (has runs) i) where
  holes-of : (i : ℕ) → has holes i ≡ hole_at g m i
  holes-of i = h i ∙ rw (f i, f (i + 1), f (i - 1)) (alone-hole g m i some)

  pub lengthening-start : Lengthening g m runs holes
  lengthening-start = record { units = m; long = omega arith; starts = f; here = holes-of; none = λ k i l x. absurd (omega arith) }

module _ {g n runs holes : ℕ} (some : 1 ≤ n) (s : Lengthening g n runs holes) where
  no_more : holes ≡ 0 → (k i : ℕ) → n ≤ k → k < suc s.units → hole_at g k i ≡ false
  no_more z k i l m =
      ⊎_elim (λ (x : k < s.units). s.none k i l x)
      (λ (x : s.units ≤ k).
      let e : s.units ≡ k = omega arith in
      ap (λ (u : ℕ). hole_at g u i) (sym e) ∙ sym (s.here i) ∙ ap (λ (w : ℕ). has w i) z ∙ has-none i)
      (under-or-from k s.units)

  pub lengthening-next : {next : ℕ} → holes ≡ 0 → ((i : ℕ) → has next i ≡ Alone (has (bit_and runs (runs / 2 ^ 1))) i)
      → Lengthening g n (bit_and runs (runs / 2 ^ 1)) next
  lengthening-next {next} z h =
      let one : s.units + 1 ≡ suc s.units = omega arith in
      let f : (i : ℕ) → has (bit_and runs (runs / 2 ^ 1)) i ≡ free_at g (suc s.units) i = λ i.
      has_meet runs (runs / 2 ^ 1) i ∙ ap₂ ◌&&◌ (s.starts i) (has-down runs 1 i ∙ s.starts (1 + i)) ∙ free-joined g s.units 1 i (omega (arith, s.long))
      ∙ ap (λ (u : ℕ). free_at g u i) one in
      record {
        units = suc s.units;
        long = omega (arith, s.long);
        starts = f;
        here = holes-of g (suc s.units) (bit_and runs (runs / 2 ^ 1)) next (omega arith) f h;
        none = no_more z;
      }

  pub lengthening-found : 0 < holes → (i : ℕ) → has holes i ≡ hole_at g (shortest g n) i
  lengthening-found l i =
      let e = shortest-is g n s.units (count_trailing_zeros holes holes) some s.long (sym (s.here _) ∙ least-has holes holes (own-width holes) l) s.none in
      s.here i ∙ ap (λ (u : ℕ). hole_at g u i) (sym e)

  pub lengthening-none : runs ≡ 0 → (i : ℕ) → has holes i ≡ hole_at g (shortest g n) i
  lengthening-none z i = s.here i ∙ no-hole g s.units i (none i) ∙ sym (nowhere (shortest g n) i (shortest-long g n))
    where
      none : (i : ℕ) → free_at g s.units i ≡ false
      none i = sym (s.starts i) ∙ ap (λ (w : ℕ). has w i) z ∙ has-none i

      nowhere : (k i : ℕ) → n ≤ k → hole_at g k i ≡ false
      nowhere k i l =
          ⊎_elim (λ (x : k < s.units). s.none k i l x)
          (λ (x : s.units ≤ k). not_so (hole_at g k i) (λ h. true≢false (sym (free_part g k i (hole-free g k i h) s.units i (omega arith) (omega arith)) ∙ none i)))
          (under-or-from k s.units)
