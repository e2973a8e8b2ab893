-- The 16 bytes that are written of a call are read as that call: the first four fields stand as they are, and the bytes of a number spell it,
-- `number_digits`; and 16 bytes are those of the call that they spell, `digit-number`.
use mathlib.Core.Path.{◌≡◌, refl, sym, ◌∙◌}
use mathlib.Core.Logic.{⊎_elim}
use mathlib.Core.List.{List, ◌∷◌, ◌++◌}
use Prim.Native.Nat.{ℕ, zero, suc, ◌+◌, ◌-◌, ◌≤◌, ◌<◌, ◌^◌}
use native.Mathlib.Omega.{arith}
use lib.ListN.{length, get_or}
use lib.Seq.{ext_get_or}
use Rattle.std.specs.Prelude.{Ok}
use Rattle.std.specs.Int.{w32, w64, to_le_bytes}
use Rattle.std.proofs.Math.Nat.{div-one}
use Rattle.words.specs.Bytes.{digit}
use Rattle.words.proofs.Numbers.{number_digits, digit-number}
use Rattle.words.proofs.Places.{under-or-from}
use Rattle.calls.specs.Calls.{call_of, arrival}
use Rattle.calls.specs.declared.Call.{Call}

abbrev pub bytes_of : Call → List ℕ
bytes_of c = c.code ∷ c.kind ∷ c.number ∷ c.value ∷ (to_le_bytes w32 c.amount ++ to_le_bytes w64 c.events)

module _ (c : Call) where
  amount-at : (j : ℕ) → j < 4 → get_or (bytes_of c) (4 + j) 0 ≡ digit c.amount j
  amount-at zero low = rw (div-one c.amount)
  amount-at (suc zero) low = refl
  amount-at (suc (suc zero)) low = refl
  amount-at (suc (suc (suc zero))) low = refl
  amount-at (suc (suc (suc (suc j)))) low = absurd (omega arith)

  events-at : (j : ℕ) → j < 8 → get_or (bytes_of c) (8 + j) 0 ≡ digit c.events j
  events-at zero low = rw (div-one c.events)
  events-at (suc zero) low = refl
  events-at (suc (suc zero)) low = refl
  events-at (suc (suc (suc zero))) low = refl
  events-at (suc (suc (suc (suc zero)))) low = refl
  events-at (suc (suc (suc (suc (suc zero))))) low = refl
  events-at (suc (suc (suc (suc (suc (suc zero)))))) low = refl
  events-at (suc (suc (suc (suc (suc (suc (suc zero))))))) low = refl
  events-at (suc (suc (suc (suc (suc (suc (suc (suc j)))))))) low = absurd (omega arith)

  pub written : c.amount < 256 ^ 4 → c.events < 256 ^ 8 → arrival (bytes_of c) ≡ Ok c
  unfolding arrival call_of
  written few all =
      rw (number_digits (bytes_of c) c.amount 4 4 amount-at few, number_digits (bytes_of c) c.events 8 8 events-at all)

-- ---- The other way round: 16 bytes are those that are written of the call that they are read as.

module _ (b : List ℕ) (bytes : (k : ℕ) → get_or b k 0 < 256) where
  abbrev back : ℕ → ℕ
  back i = get_or (bytes_of (call_of b)) i 0

  back_low : (i : ℕ) → i < 4 → back i ≡ get_or b i 0
  unfolding call_of
  back_low zero low = refl
  back_low (suc zero) low = refl
  back_low (suc (suc zero)) low = refl
  back_low (suc (suc (suc zero))) low = refl
  back_low (suc (suc (suc (suc i)))) low = absurd (omega arith)

  back-amount : (j : ℕ) → j < 4 → back (4 + j) ≡ get_or b (4 + j) 0
  unfolding call_of
  back-amount j low = amount-at (call_of b) j low ∙ digit-number b bytes 4 4 j low

  back-events : (j : ℕ) → j < 8 → back (8 + j) ≡ get_or b (8 + j) 0
  unfolding call_of
  back-events j low = events-at (call_of b) j low ∙ digit-number b bytes 8 8 j low

  back_at : (i : ℕ) → i < 16 → back i ≡ get_or b i 0
  back_at i low =
      ⊎_elim (λ (h : i < 4). back_low i h)
      (λ (h : 4 ≤ i).
      ⊎_elim (λ (l : i < 8). let z : i ≡ 4 + (i - 4) = omega arith in rw z (back-amount (i - 4) (omega arith)))
      (λ (l : 8 ≤ i). let z : i ≡ 8 + (i - 8) = omega arith in rw z (back-events (i - 8) (omega arith)))
      (under-or-from i 8))
      (under-or-from i 4)

  pub written_back : length b ≡ 16 → bytes_of (call_of b) ≡ b
  written_back long = ext_get_or 0 (bytes_of (call_of b)) b (sym long) (λ i low. back_at i low)
