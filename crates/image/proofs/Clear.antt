-- The test for the bytes that have to be zero, as what it says of each of them. By `all-at` and `all_shown`, over any stretch of places that
-- are some step apart.
use mathlib.Core.Bool.{Bool, true, ◌&&◌}
use mathlib.Core.Path.{◌≡◌}
use mathlib.Core.List.{List}
use Prim.Native.Nat.{ℕ, ◌+◌, ◌*◌, ◌<◌}
use native.Mathlib.Omega.{arith}
use borrow.Author.Tests.{eqb-true, eq-eqb}
use lib.ListN.{get_or}
use Rattle.words.specs.Words.{below, all_of}
use Rattle.words.proofs.Lists.{all-at, all_shown}
use Rattle.words.proofs.Truth.{and_left, and_right}
use Rattle.sealed.specs.Sealed.{zero_at}
use Rattle.image.specs.Block.{fillers_zero}

-- bytes 3 to 7, the fourth of each entry, and bytes 272 to 509 are zero
pub record Clear (b : List ℕ) : Type 0 where
  pub spare : (j : ℕ) → j < 5 → get_or b (3 + j) 0 ≡ 0
  pub entry : (m : ℕ) → m < 32 → get_or b (16 + 8 * m + 3) 0 ≡ 0
  pub rest : (j : ℕ) → j < 238 → get_or b (272 + j) 0 ≡ 0

module _ (b : List ℕ) where
  abbrev zeros : ℕ → ℕ → ℕ → Bool
  zeros from step n = all_of (λ i. zero_at b (from + step * i)) (below n)

  -- each byte of a stretch, by whatever name its place goes
  zero-at : (from step n : ℕ) → zeros from step n ≡ true → (i at : ℕ) → i < n → from + step * i ≡ at → get_or b at 0 ≡ 0
  zero-at from step n e i at l p =
      rw p at (eqb-true (get_or b (from + step * i) 0) 0 (all-at (λ (k : ℕ). zero_at b (from + step * k)) n i e l))

  zeros-shown : (from step n : ℕ) → ((i : ℕ) → i < n → get_or b (from + step * i) 0 ≡ 0) → zeros from step n ≡ true
  zeros-shown from step n h = all_shown (λ (k : ℕ). zero_at b (from + step * k)) n (λ i l. eq-eqb (get_or b (from + step * i) 0) 0 (h i l))

  pub clear-means : fillers_zero b ≡ true → Clear b
  unfolding fillers_zero
  clear-means e =
      let front = and_left (zeros 3 1 5 && zeros 19 8 32) (zeros 272 1 238) e in
      record {
        spare = λ j l. zero-at 3 1 5 (and_left (zeros 3 1 5) (zeros 19 8 32) front) j (3 + j) l (omega arith);
        entry = λ m l. zero-at 19 8 32 (and_right (zeros 3 1 5) (zeros 19 8 32) front) m (16 + 8 * m + 3) l (omega arith);
        rest = λ j l. zero-at 272 1 238 (and_right (zeros 3 1 5 && zeros 19 8 32) (zeros 272 1 238) e) j (272 + j) l (omega arith);
      }

  pub clear-shown : Clear b → fillers_zero b ≡ true
  unfolding fillers_zero
  clear-shown c =
      rw (
        zeros-shown 3 1 5 (λ j l. let p : 3 + j ≡ 3 + 1 * j = omega arith in rw p at (c.spare j l)),
        zeros-shown 19 8 32 (λ m l. let p : 16 + 8 * m + 3 ≡ 19 + 8 * m = omega arith in rw p at (c.entry m l)),
        zeros-shown 272 1 238 (λ j l. let p : 272 + j ≡ 272 + 1 * j = omega arith in rw p at (c.rest j l)),
      )
