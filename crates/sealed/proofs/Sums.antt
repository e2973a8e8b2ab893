-- The weighted sum of any number of bytes without a multiplication for each (document 02, E3): from the last byte down, each byte is added to a total and the total
-- to a sum. Byte i is in the total from its own turn on, for i + 1 turns, so that it comes into the sum i + 1 times, `two_ways`.
use mathlib.Core.Path.{◌≡◌, ap, ◌∙◌}
use mathlib.Core.List.{List, [], ◌∷◌, ◌++◌}
use Prim.Native.Nat.{ℕ, zero, suc, ◌+◌, ◌*◌, ◌≤◌, ◌<◌}
use native.Mathlib.Nat.{suc-mul, add-mul, mul-add}
use native.Mathlib.Omega.{arith}
use lib.ListN.{length, get_or, take}
use lib.Seq.{length-take-le}
use Rattle.words.proofs.Backwards.{Left, left-start, left-next, left-length, left-item}
use Rattle.sealed.specs.Sealed.{weighted}

-- ---- Both ways give one number.

-- the sum, where i bytes are left and so much is in the total and in the sum already
unfoldable pub downward : List ℕ → (i total sum : ℕ) → ℕ
downward b zero total sum = sum
downward b (suc i) total sum = downward b i (total + get_or b i 0) (sum + (total + get_or b i 0))

-- what is left to add: the bytes that are left, each by its weight, and the total once in each of i turns
downward-adds : (b : List ℕ) (i total sum : ℕ) → downward b i total sum ≡ weighted b i + (sum + i * total)
unfolding downward weighted
downward-adds b zero total sum = omega arith
downward-adds b (suc i) total sum =
    let byte : ℕ = get_or b i 0 in
    downward-adds b i (total + byte) (sum + (total + byte)) ∙ omega (arith, mul-add i total byte, suc-mul i total, add-mul i 1 byte)

-- of any n bytes
pub two_ways : (b : List ℕ) (n : ℕ) → downward b n 0 0 ≡ weighted b n
two_ways b n = downward-adds b n 0 0 ∙ omega arith

-- ---- The loop over 510 bytes, of which so much is left. Both sums fit in 32 bits, since 255 times 510 is 130,050, and that times 510 is 66,325,500.

pub record Running (b : List ℕ) (total sum : ℕ) (left : List ℕ) : Type 0 where
  pub ahead : Left b 0 left
  pub within : length left ≤ 510
  pub rest : downward b (length left) total sum ≡ weighted b 510
  pub inner : total + 255 * length left ≤ 130050
  pub outer : sum + 130050 * length left ≤ 66325500

pub running-start : (b left : List ℕ) → 510 ≤ length b → left ≡ take 510 b → Running b 0 0 left
running-start b left long e =
    let n : length left ≡ 510 = ap length e ∙ length-take-le 510 b long in
    record { ahead = rw e (left-start b 0 510); within = omega arith; rest = rw n (two_ways b 510); inner = omega arith; outer = omega arith }

module _ {b : List ℕ} {total sum : ℕ} {left : List ℕ} (s : Running b total sum left) where
  -- the last of the bytes that are left is added
  pub running-next : (rest : List ℕ) (x : ℕ) → left ≡ rest ++ x ∷ [] → x < 256 → Running b (total + x) (sum + (total + x)) rest
  unfolding downward
  running-next rest x e low =
      let n : length left ≡ suc (length rest) = omega (arith, left-length s.ahead rest x e) in
      let z : 0 + length rest ≡ length rest = omega arith in
      let byte : x ≡ get_or b (length rest) 0 = rw z at (left-item s.ahead rest x e) in
      record { ahead = left-next s.ahead rest x e; within = omega (arith, s.within); rest = rw byte (rw n at s.rest); inner = omega (arith, s.inner); outer = omega (arith, s.inner, s.outer) }

  -- none is left
  pub running-end : length left ≡ 0 → sum ≡ weighted b 510
  unfolding downward
  running-end none = rw none at s.rest
