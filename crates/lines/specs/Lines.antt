-- Lines, as the bytes that are written. Document 01, 'A session in full': "It writes a line for the load (refusal, M or 0, 0), then one per call".
use Rattle.std.specs.Prelude.{List, [], ◌∷◌, ◌++◌, ◌≡◌, ℕ, zero, suc, ◌+◌, ◌≤◌, length, if◌then◌else◌}
use Rattle.words.specs.Words.{has}
use Rattle.text.specs.Decimals.{spelling}
use Rattle.calls.specs.declared.Answer.{Answer}

-- how many bytes a line has room for
abbrev pub room : ℕ
room = 640

-- the line r, which is its bytes, holds xs, and they are at most so many
pub record Holds (r xs : List ℕ) (most : ℕ) : Type 0 where
  pub text : r ≡ xs
  pub used : length r ≡ length xs
  pub few : length r ≤ most

-- r is l with xs behind it
pub record Adds (l xs r : List ℕ) : Type 0 where
  pub text : r ≡ l ++ xs
  pub used : length r ≡ length l + length xs

-- the same, and they are at most so many
pub record Fits (l xs : List ℕ) (most : ℕ) (r : List ℕ) : Type 0 where
  pub adds : Adds l xs r
  pub few : length r ≤ length l + most

-- " 5" where 5 is in the set: 32 is the byte of a space
abbrev pub member_of : ℕ → ℕ → List ℕ
member_of set e = if has set e then 32 ∷ spelling e else []

-- the members of a set that are below n
unfoldable pub members_of : ℕ → ℕ → List ℕ
members_of set zero = []
members_of set (suc n) = members_of set n ++ member_of set n

-- "0 3 0"
abbrev pub answer_of : Answer → List ℕ
answer_of a = spelling a.refusal ++ (32 ∷ (spelling a.result ++ (32 ∷ spelling a.running)))
