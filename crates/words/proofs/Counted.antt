-- Sums over the numbers 1 to n. A sum over the blocks is how many of them pass a test: where each term is 1 or 0 as the test says, and block 0 adds
-- nothing. By induction on n, from the last term back and from the first on.
use mathlib.Core.Bool.{Bool}
use mathlib.Core.Logic.{⊎_elim}
use mathlib.Core.Path.{◌≡◌, refl, sym, ap, ap₂, ◌∙◌}
use mathlib.Core.List.{List, [], ◌∷◌}
use Prim.Native.Nat.{ℕ, zero, suc, ◌+◌, ◌≤◌, ◌<◌}
use native.Mathlib.Omega.{arith}
use lib.ListN.{length, get_or}
use Rattle.words.proofs.Truth.{tested}
use Rattle.words.specs.Words.{if◌then◌else◌, one_to, how_many}
use Rattle.words.proofs.Ones.{many-append}
use Rattle.words.specs.Counting.{sum}

-- f 1 + f 2 + .. + f n
unfoldable pub total : (ℕ → ℕ) → ℕ → ℕ
total f zero = 0
total f (suc n) = total f n + f (suc n)

pub total-le : (f g : ℕ → ℕ) (n : ℕ) → ((y : ℕ) → f y ≤ g y) → total f n ≤ total g n
unfolding total
total-le f g zero h = omega arith
total-le f g (suc n) h = omega (arith, total-le f g n h, h (suc n))

pub total-lt : (f g : ℕ → ℕ) (n p : ℕ) → ((y : ℕ) → f y ≤ g y) → 1 ≤ p → p ≤ n → f p < g p → total f n < total g n
unfolding total
total-lt f g zero p h a b c = absurd (omega arith)
total-lt f g (suc n) p h a b c =
    ⊎_elim (λ z. omega (arith, total-le f g n h, rw z.1 at c)) (λ z. omega (arith, h (suc n), total-lt f g n p h a (omega (arith, z.1)) c)) (tested p (suc n))

total-same : (f g : ℕ → ℕ) (n : ℕ) → ((i : ℕ) → 1 ≤ i → i ≤ n → f i ≡ g i) → total f n ≡ total g n
unfolding total
total-same f g zero h = refl
total-same f g (suc n) h = ap₂ (λ (x y : ℕ). x + y) (total-same f g n (λ i a b. h i a (omega (arith, b)))) (h (suc n) (omega arith) (omega arith))

total-front : (f : ℕ → ℕ) (n : ℕ) → total f (suc n) ≡ f 1 + total (λ i. f (suc i)) n
unfolding total
total-front f zero = omega arith
total-front f (suc n) = omega (arith, total-front f n)

-- ---- Of a list's elements, and of those that pass a test.

sum-total {ℓ} : {A : Type ℓ} (f : A → ℕ) (a : A) (l : List A) (d : A) → sum f (a ∷ l) ≡ f a + total (λ i. f (get_or (a ∷ l) i d)) (length l)
unfolding sum total
sum-total f a [] d = refl
sum-total f a (b ∷ l) d = ap (λ (n : ℕ). f a + n) (sum-total f b l d ∙ sym (total-front (λ i. f (get_or (a ∷ b ∷ l) i d)) (length l)))

many-total : (p : ℕ → Bool) (n : ℕ) → how_many p (one_to n) ≡ total (λ i. if p i then 1 else 0) n
unfolding how_many one_to total
many-total p zero = refl
many-total p (suc n) = many-append p (one_to n) (suc n ∷ []) ∙ (rw (many-total p n) (omega arith))

pub sum-many {ℓ} : {A : Type ℓ} (f : A → ℕ) (l : List A) (d : A) (p : ℕ → Bool) (n : ℕ) → length l ≡ suc n → f (get_or l 0 d) ≡ 0
    → ((k : ℕ) → 1 ≤ k → k ≤ n → f (get_or l k d) ≡ (if p k then 1 else 0)) → sum f l ≡ how_many p (one_to n)
sum-many f [] d p n e z h = absurd (omega (arith, e))
sum-many f (a ∷ l) d p n e z h =
    let m : length l ≡ n = omega (arith, e) in
    sum-total f a l d ∙ ap (λ (x : ℕ). f a + total (λ i. f (get_or (a ∷ l) i d)) x) m
    ∙ (let w : f a + total (λ i. f (get_or (a ∷ l) i d)) n ≡ total (λ i. f (get_or (a ∷ l) i d)) n = omega (arith, z) in w)
    ∙ total-same (λ i. f (get_or (a ∷ l) i d)) (λ i. if p i then 1 else 0) n h ∙ sym (many-total p n)
