-- An array by block as a function of the block, `row`: its cells, and that two stores make the row of g out of the row of f, where f and g differ at
-- the two blocks alone. Cell by cell.
use mathlib.Core.Path.{◌≡◌, refl, sym, ap, ◌∙◌}
use mathlib.Core.Logic.{◌≢◌, ⊎_elim}
use mathlib.Core.List.{List}
use Prim.Native.Nat.{ℕ, zero, suc, ◌≤◌, ◌<◌}
use native.Mathlib.Omega.{arith}
use native.Mathlib.Nat.{le_of_suc-le-suc, not-suc-le-zero}
use lib.ListN.{length, set, get_or, length-set}
use lib.Seq.{ext_get_or, get_or-set_same, get_or-set_other}
use borrow.Author.Tests.{ne_eqb}
use Rattle.threads.specs.Threads.{BLOCKS, tab, row}
use Rattle.threads.specs.Joints.{put}
use Rattle.words.proofs.Truth.{tested}

length-tab : (n : ℕ) (f : ℕ → ℕ) → length (tab n f) ≡ n
unfolding tab
length-tab zero f = refl
length-tab (suc n) f = ap suc (length-tab n (λ i. f (suc i)))

tab-at : (n : ℕ) (f : ℕ → ℕ) (i : ℕ) → i < n → get_or (tab n f) i 0 ≡ f i
unfolding tab
tab-at zero f i h = absurd (not-suc-le-zero h)
tab-at (suc n) f zero h = refl
tab-at (suc n) f (suc i) h = tab-at n (λ j. f (suc j)) i (le_of_suc-le-suc h)

pub length-row : (f : ℕ → ℕ) → length (row f) ≡ suc BLOCKS
unfolding row
length-row f = ap suc (length-tab BLOCKS (λ i. f (suc i)))

pub row_at : (f : ℕ → ℕ) (y : ℕ) → 1 ≤ y → y ≤ BLOCKS → get_or (row f) y 0 ≡ f y
unfolding row
row_at f zero some low = absurd (not-suc-le-zero some)
row_at f (suc y) some low = tab-at BLOCKS (λ i. f (suc i)) y low

-- an array with the cells of the row is the row
pub row_is : (a : List ℕ) (f : ℕ → ℕ) → length a ≡ suc BLOCKS → get_or a 0 0 ≡ 0 → ((y : ℕ) → 1 ≤ y → y ≤ BLOCKS → get_or a y 0 ≡ f y) → a ≡ row f
unfolding row
row_is a f n z h = ext_get_or 0 a (row f) (n ∙ sym (length-row f)) cell
  where
    cell : (y : ℕ) → y < length a → get_or a y 0 ≡ get_or (row f) y 0
    cell zero k = z
    cell (suc y) k = h (suc y) (omega arith) (omega arith) ∙ sym (row_at f (suc y) (omega arith) (omega arith))

-- so two functions that agree on blocks have one row
pub row_same : (f g : ℕ → ℕ) → ((y : ℕ) → 1 ≤ y → f y ≡ g y) → row f ≡ row g
unfolding row
row_same f g h = row_is (row f) g (length-row f) refl (λ y some low. row_at f y some low ∙ h y some)

-- ---- Stores, each at a block or, at 0, none.

pub put_some : (a : List ℕ) (i v : ℕ) → 1 ≤ i → put a i v ≡ set a i v
unfolding put
put_some a i v h = rw (ne_eqb i 0 (omega arith))

-- a store at the block i, seen at the block y
module _ (a : List ℕ) (i v : ℕ) where
  length-put : length (put a i v) ≡ length a
  unfolding put
  length-put = ⊎_elim (λ e. rw e.0) (λ e. rw e.0 (length-set a i v)) (tested i 0)

  put-zero : get_or (put a i v) 0 0 ≡ get_or a 0 0
  unfolding put
  put-zero = ⊎_elim (λ e. rw e.0) (λ e. rw e.0 (get_or-set_other a i 0 v 0 (λ z. e.1 (sym z)))) (tested i 0)

  put-at : (y n : ℕ) → 1 ≤ y → y < length a → (i ≡ y → v ≡ n) → (i ≢ y → get_or a y 0 ≡ n) → get_or (put a i v) y 0 ≡ n
  unfolding put
  put-at y n some low here past =
      ⊎_elim
      (λ e. rw (← e.1, ne_eqb i 0 (omega (arith, e.1))) (get_or-set_same a i v 0 (omega (arith, e.1)) ∙ here e.1))
      (λ e. ⊎_elim (λ z. rw z.0 (past e.1)) (λ z. rw z.0 (get_or-set_other a i y v 0 (λ k. e.1 (sym k)) ∙ past e.1)) (tested i 0))
      (tested i y)

-- v stored at i, and w at j
pub stored : (f g : ℕ → ℕ) (i v j w : ℕ) → (1 ≤ i → g i ≡ v) → (1 ≤ j → g j ≡ w) → ((y : ℕ) → 1 ≤ y → i ≢ y → j ≢ y → f y ≡ g y)
    → put (put (row f) i v) j w ≡ row g
unfolding row
stored f g i v j w at_i at_j other =
    let one = put (row f) i v in
    let long : length one ≡ suc BLOCKS = length-put (row f) i v ∙ length-row f in
    row_is (put one j w) g (length-put one j w ∙ long) (put-zero one j w ∙ put-zero (row f) i v)
    (λ y some low.
    put-at one j w y (g y) some (omega arith) (λ e. sym (at_j (omega (arith, e))) ∙ ap g e)
    (λ n.
    put-at (row f) i v y (g y) some (omega (arith, length-row f)) (λ e. sym (at_i (omega (arith, e))) ∙ ap g e)
    (λ m. row_at f y some low ∙ other y some m n)))
