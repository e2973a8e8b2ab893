-- The walk that decides whether pointers are sound, as the code makes it, and what its steps give.
use mathlib.Core.Bool.{Bool, true, false, true≢false, ◌&&◌}
use mathlib.Core.Path.{◌≡◌, refl, sym, ap, ◌∙◌}
use mathlib.Core.Logic.{◌≢◌, ⊎_elim}
use mathlib.Core.List.{List}
use Prim.Native.Nat.{ℕ, zero, suc, ◌+◌, ◌-◌, ◌≤◌, ◌<◌}
use native.Mathlib.Omega.{arith}
use lib.ListN.{set, get_or}
use lib.Dec.{eqb, leb}
use borrow.Author.Tests.{eq-eqb, ne_eqb, le-leb, lt-leb}
use Rattle.threads.specs.declared.Threads.{Threads}
use Rattle.words.specs.Words.{if◌then◌else◌, one_to, all_of}
use Rattle.words.proofs.Truth.{same_truth, and-of, both, tested, true-or-false}
use Rattle.threads.proofs.Tests.{all-to, to-all}
use Rattle.pointers.specs.Walked.{clear_at, rest_clear, last_queue}
use Rattle.threads.specs.Threads.{BLOCKS, no_queue}

-- From the block y of the queue q on, p the block before it, m the marks so far, in at most n steps: each block is one of 1 to 40, has no
-- mark yet and points back to the one before it; the last of each queue is the queue's last; after all queues, the rest is clear.
unfoldable pub passes : Threads → ℕ → ℕ → ℕ → ℕ → List ℕ → Bool
passes t zero q p y m = false
passes t (suc n) q p y m =
    if eqb y 0
    then eqb (get_or t.last q 0) p && (if eqb q 8 then rest_clear t m else passes t n (q + 1) 0 (get_or t.first (q + 1) 0) m)
    else leb y 40 && eqb (get_or m y 0) 9 && eqb (get_or t.back y 0) p && passes t n q y (get_or t.fwd y 0) (set m y q)

-- ---- the rest: a test that is true where each block passes, and false where one does not

pub rest-told : (t : Threads) (m : List ℕ) {b : Bool} → (b ≡ true → (y : ℕ) → y < 41 → clear_at t m y ≡ true) → (b ≡ false → (y : ℕ) × (y < 41) × (clear_at t m y ≡ false)) → b ≡ rest_clear t m
unfolding rest_clear
rest-told t m {b} f g =
    same_truth b (clear_at t m 0 && all_of (clear_at t m) (one_to BLOCKS))
    (λ e. and-of _ _ (f e 0 (omega arith)) (to-all (clear_at t m) BLOCKS (λ y l h. f e y (omega arith))))
    (λ e.
    let b' = both (clear_at t m 0) _ e in
    ⊎_elim (λ h. h)
    (λ h.
    let (y, l, n) = g h in
    let at : clear_at t m y ≡ true =
    ⊎_elim (λ z. ap (clear_at t m) z.1 ∙ b'.0) (λ z. all-to (clear_at t m) BLOCKS b'.1 y (omega (arith, z.1)) (omega arith)) (tested y 0) in
    absurd (true≢false (sym at ∙ n)))
    (true-or-false b))

-- ---- its steps

module _ (t : Threads) (q p y : ℕ) (m : List ℕ) where
  pub end-wrong : (n : ℕ) → n ≢ 0 → y ≡ 0 → get_or t.last q 0 ≢ p → passes t n q p y m ≡ false
  unfolding passes
  end-wrong zero h e d = refl
  end-wrong (suc n) h e d = rw (eq-eqb y 0 e, ne_eqb _ p d)

  pub end-all : (n : ℕ) → n ≢ 0 → y ≡ 0 → get_or t.last q 0 ≡ p → q ≡ last_queue → passes t n q p y m ≡ rest_clear t m
  unfolding passes
  end-all zero h e d k = absurd (h refl)
  end-all (suc n) h e d k = rw (eq-eqb y 0 e, eq-eqb _ p d, eq-eqb q 8 k)

  pub end-one : (n : ℕ) → n ≢ 0 → y ≡ 0 → get_or t.last q 0 ≡ p → q ≢ 8
      → passes t n q p y m ≡ passes t (n - 1) (q + 1) 0 (get_or t.first (q + 1) 0) m
  unfolding passes
  end-one zero h e d k = absurd (h refl)
  end-one (suc n) h e d k = let less : suc n - 1 ≡ n = omega arith in rw (eq-eqb y 0 e, eq-eqb _ p d, ne_eqb q 8 k, less)

  pub too-high : (n : ℕ) → y ≢ 0 → 40 < y → passes t n q p y m ≡ false
  unfolding passes
  too-high zero e d = refl
  too-high (suc n) e d = rw (ne_eqb y 0 e, lt-leb y 40 d)

  pub seen_twice : (n : ℕ) → y ≢ 0 → y ≤ BLOCKS → get_or m y 0 ≢ 9 → passes t n q p y m ≡ false
  unfolding passes
  seen_twice zero e h d = refl
  seen_twice (suc n) e h d = rw (ne_eqb y 0 e, le-leb y 40 h, ne_eqb _ 9 d)

  pub wrong-back : (n : ℕ) → y ≢ 0 → y ≤ BLOCKS → get_or m y 0 ≡ no_queue → get_or t.back y 0 ≢ p → passes t n q p y m ≡ false
  unfolding passes
  wrong-back zero e h k d = refl
  wrong-back (suc n) e h k d = rw (ne_eqb y 0 e, le-leb y 40 h, eq-eqb (get_or m y 0) 9 k, ne_eqb _ p d)

  pub one_block : (n : ℕ) → n ≢ 0 → y ≢ 0 → y ≤ BLOCKS → get_or m y 0 ≡ no_queue → get_or t.back y 0 ≡ p
      → passes t n q p y m ≡ passes t (n - 1) q y (get_or t.fwd y 0) (set m y q)
  unfolding passes
  one_block zero o e h k d = absurd (o refl)
  one_block (suc n) o e h k d = let less : suc n - 1 ≡ n = omega arith in rw (ne_eqb y 0 e, le-leb y 40 h, eq-eqb (get_or m y 0) 9 k, eq-eqb _ p d, less)

  pub out-of-steps : (n : ℕ) → n ≡ 0 → passes t n q p y m ≡ false
  unfolding passes
  out-of-steps n e = rw e
