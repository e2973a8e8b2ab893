-- The search by shifting: the set of the starts of free runs of a given length. Met with itself shifted down by b it is that of runs longer by b. And the
-- least of a set of starts is the start. More than 64 units are nowhere free.
use mathlib.Core.Bool.{◌&&◌}
use mathlib.Core.Path.{◌≡◌, sym, ap₂, ◌∙◌}
use Prim.Native.Nat.{ℕ, ◌+◌, ◌-◌, ◌/◌, ◌^◌, ◌≤◌, ◌<◌}
use native.Mathlib.Omega.{arith}
use lib.Bits.{bit_and}
use lib.Count.{count_trailing_zeros}
use Rattle.words.specs.Words.{has}
use Rattle.words.proofs.Least.{least-lowest}
use Rattle.words.proofs.Lowest.{lowest-same}
use Rattle.words.proofs.Members.{has_meet, has-down, has_rest}
use Rattle.words.proofs.Truth.{not_so}
use Rattle.pools.specs.Pools.{free_at, long_enough, lowest_start, hole_at, hole_of, shortest, smallest_hole, start_of}
use Rattle.pools.proofs.Units.{free-inside, free_one, free-joined}
use Rattle.pools.proofs.Rules.{lowest-free, lowest-given, smallest-as}
use Rattle.pools.proofs.Starts.{start_none}

-- what holds at the head of the loop: the set has the starts of free runs of the length so far
pub record Searching (granted n found length : ℕ) : Type 0 where
  pub some : 1 ≤ length
  pub most : length ≤ n
  pub starts : (i : ℕ) → has found i ≡ free_at granted length i

-- the free units: of a pool of 64 bits they are its complement
pub searching-start : (g n : ℕ) → g < 2 ^ 64 → 1 ≤ n → Searching g n (2 ^ 64 - 1 - g) 1
searching-start g n low l = record { some = omega arith; most = l; starts = λ i. has_rest 64 g i low ∙ sym (free_one g i) }

module _ {g n found length : ℕ} (s : Searching g n found length) where
  pub searching-next : (more : ℕ) → more ≤ length → length + more ≤ n → Searching g n (bit_and found (found / 2 ^ more)) (length + more)
  searching-next more short within =
      record {
        some = omega (arith, s.some);
        most = within;
        starts = λ i.
            has_meet found (found / 2 ^ more) i ∙ ap₂ ◌&&◌ (s.starts i) (has-down found more i ∙ s.starts (more + i))
            ∙ free-joined g length more i short;
      }

-- ---- The start.

pub lowest-least : (g n found : ℕ) → ((i : ℕ) → has found i ≡ free_at g n i) → count_trailing_zeros 64 found ≡ lowest_start g n
unfolding lowest_start
lowest-least g n found f = least-lowest 64 found ∙ lowest-same (has found) (free_at g n) 64 0 (λ i l m. f i)

pub smallest-least : (g n found : ℕ) → 1 ≤ n → ((i : ℕ) → has found i ≡ hole_at g (shortest g n) i) → count_trailing_zeros 64 found ≡ smallest_hole g n
unfolding hole_of
smallest-least g n found some f =
    least-lowest 64 found ∙ lowest-same (has found) (hole_at g (shortest g n)) 64 0 (λ i l m. f i) ∙ sym (smallest-as g n some)

pub start-of-many : (holes g n : ℕ) → 64 < n → start_of holes g n ≡ 64
start-of-many holes g n l =
    start_none holes g n (not_so (long_enough g n) (λ h. omega (arith, free-inside g n (lowest_start g n) (lowest-free g n (lowest-given g n h)))))
