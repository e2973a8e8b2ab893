-- ==== Inside: words for laws. What the executive, its library and the demands claim does not rest on them.
-- 'Is' as a number, so that places, sets and links are sums of numbers.
use Rattle.std.specs.Prelude.{cond, List, [], ◌∷◌, ℕ, ◌+◌, ◌/◌, ◌%◌, ◌^◌, eqb}

-- 1 where the two numbers are the same, else 0
unfoldable pub one : ℕ → ℕ → ℕ
one a b = cond (eqb a b) 1 0

-- bit u of a word
abbrev pub bit : ℕ → ℕ → ℕ
bit w u = w / 2 ^ u % 2

-- the sum of f over a list
unfoldable pub sum {ℓ} : {A : Type ℓ} → (A → ℕ) → List A → ℕ
sum f [] = 0
sum f (a ∷ l) = f a + sum f l
