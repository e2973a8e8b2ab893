-- Sets of blocks and of events as one number: a number added, a number taken out, the least; said of the bits.
use mathlib.Core.Bool.{true, false, or-true, or-false, and-true, and-false}
use mathlib.Core.Path.{◌≡◌, refl, ap, ◌∙◌}
use mathlib.Core.Logic.{◌≢◌, ⊎_elim}
use Prim.Native.Nat.{ℕ, ◌^◌, ◌≤◌, ◌<◌}
use native.Mathlib.Omega.{arith}
use lib.Pow.{pow_mono}
use borrow.Author.Tests.{eq-eqb, ne_eqb}
use Rattle.words.specs.Words.{has, adding, dropping, least}
use Rattle.words.proofs.Places.{under-or-from}
use Rattle.words.proofs.Members.{has_within}
use Rattle.words.proofs.Changes.{has-adding, has-dropping}
use Rattle.words.proofs.Least.{least-has}
use Rattle.words.specs.Counting.{bit}
use Rattle.words.proofs.Bits.{bit-of, bit-same}

module _ (w n : ℕ) where
  pub added-same : bit (adding w n) n ≡ 1
  added-same = bit-of (adding w n) n {b = true} (has-adding w n n ∙ rw (eq-eqb n n refl) (or-true (has w n)))

  pub added-other : (v : ℕ) → v ≢ n → bit (adding w n) v ≡ bit w v
  added-other v d = bit-same (adding w n) w v (has-adding w n v ∙ rw (ne_eqb v n d) (or-false (has w v)))

  pub dropped-same : bit (dropping w n) n ≡ 0
  dropped-same = bit-of (dropping w n) n {b = false} (has-dropping w n n ∙ rw (eq-eqb n n refl) (and-false (has w n)))

  pub dropped-other : (v : ℕ) → v ≢ n → bit (dropping w n) v ≡ bit w v
  dropped-other v d = bit-same (dropping w n) w v (has-dropping w n v ∙ rw (ne_eqb v n d) (and-true (has w v)))

-- ---- The least.
module _ (w m : ℕ) (small : m ≤ 32) (h : w < 2 ^ m) (n : w ≢ 0) (z : bit w 0 ≡ 0) where
  member : has w (least w) ≡ true
  member = let b : 2 ^ m ≤ 2 ^ 32 = pow_mono {i = m} {j = 32} small in least-has 32 w (omega (arith, b)) (omega (arith, n))

  pub least-in : bit w (least w) ≡ 1
  least-in = bit-of w (least w) member

  pub least-some : 1 ≤ least w
  least-some = ⊎_elim (λ l. let i : least w ≡ 0 = omega (arith, l) in absurd (omega (arith, least-in, z, ap (bit w) i))) (λ l. l) (under-or-from (least w) 1)

  pub least-low : least w < m
  least-low = has_within m w (least w) h member
