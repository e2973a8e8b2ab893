-- Numbers in decimal: what bytes mean as a number, and how a number is spelled. 48 is the byte of the digit 0.
use Rattle.std.specs.Prelude.{Bool, not, ◌&&◌, ◌||◌, List, [], ◌∷◌, ◌++◌, ◌≡◌, ℕ, zero, suc, ◌+◌, ◌-◌, ◌*◌, ◌/◌, ◌%◌, ◌≤◌, eqb, leb, ltb, length, get_or, Result, Ok, Err, if◌then◌else◌}
use Rattle.words.specs.Words.{all_of}
use Rattle.text.specs.declared.decimals.NumberError.{NumberError}
use Rattle.text.specs.declared.decimals.NumberError.TheVariants.{TooLarge, NotANumber}

-- the byte is one of '0' to '9'
abbrev pub is_digit : ℕ → Bool
is_digit b = leb 48 b && leb b 57

-- digits, at least one, and nothing else
unfoldable pub all_digits : List ℕ → Bool
all_digits l = ltb 0 (length l) && all_of is_digit l

-- the number v with digits behind it: each makes tenfold what stands before it
unfoldable pub value_from : ℕ → List ℕ → ℕ
value_from v [] = v
value_from v (b ∷ l) = value_from (v * 10 + (b - 48)) l

-- the number that digits spell
abbrev pub value_of : List ℕ → ℕ
value_of l = value_from 0 l

-- a value that is to be at most `most`
abbrev pub at_most : ℕ → ℕ → Result ℕ NumberError
at_most value most = if leb value most then Ok value else Err TooLarge

-- what bytes are as a number: none, more than `most`, or its value
unfoldable pub number_of : List ℕ → ℕ → Result ℕ NumberError
number_of l most = if all_digits l then at_most (value_of l) most else Err NotANumber

-- a number in decimal, of at most so many digits: its last digit stands behind the number without it
unfoldable pub spelling_by : ℕ → ℕ → List ℕ
spelling_by zero n = []
spelling_by (suc more) n = if ltb n 10 then (48 + n) ∷ [] else spelling_by more (n / 10) ++ (48 + n % 10) ∷ []

-- a number in decimal: n has at most n + 1 digits
unfoldable pub spelling : ℕ → List ℕ
spelling n = spelling_by (suc n) n

-- digits with no 0 in front, unless it is the only one
unfoldable pub plain : List ℕ → Bool
plain l = all_digits l && (eqb (length l) 1 || not (eqb (get_or l 0 0) 48))

-- r is a number in decimal, in at most 20 digits
pub record Spells (n : ℕ) (r : List ℕ) : Type 0 where
  pub text : r ≡ spelling n
  pub few : length r ≤ 20
