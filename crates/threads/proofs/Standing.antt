-- Where a block stands: `standing` finds the one list that has it, and where one list has it, `standing` finds that. By induction on the lists.
use mathlib.Core.Bool.{Bool, true, false}
use mathlib.Core.Path.{◌≡◌, refl, sym, ap, ◌∙◌}
use mathlib.Core.List.{List, [], ◌∷◌}
use Prim.Native.Nat.{ℕ, zero, suc, ◌≤◌, ◌<◌}
use native.Mathlib.Omega.{arith}
use native.Mathlib.Nat.{le_of_suc-le-suc, not-suc-le-zero}
use lib.ListN.{length, get_or}
use Rattle.threads.specs.Threads.{count, counts}
use Rattle.threads.proofs.Lists.{count-nil}
use Rattle.words.specs.Words.{◌among◌, standing}
use Rattle.words.specs.Counting.{one}
use Rattle.words.proofs.Counting.{one_same, one-other, one-suc}
use Rattle.threads.proofs.Tests.{among-count, count-among}

pub in_some : (y : ℕ) (ls : List (List ℕ)) (q : ℕ) → count y (get_or ls q []) ≤ counts y ls
unfolding counts
in_some y [] q = omega (arith, count-nil y)
in_some y (l ∷ ls) zero = omega arith
in_some y (l ∷ ls) (suc q) = omega (arith, in_some y ls q)

module _ (y : ℕ) where
  stands_here : (l : List ℕ) (ls : List (List ℕ)) → y among l ≡ true → standing y (l ∷ ls) ≡ 0
  unfolding standing
  stands_here l ls e = rw e

  stands-past : (l : List ℕ) (ls : List (List ℕ)) → y among l ≡ false → standing y (l ∷ ls) ≡ suc (standing y ls)
  unfolding standing
  stands-past l ls e = rw e

  stands-nowhere : standing y [] ≡ 0
  unfolding standing
  stands-nowhere = refl

  pub standing-counts : (ls : List (List ℕ)) → counts y ls ≤ 1 → (q : ℕ) → q < length ls → count y (get_or ls q []) ≡ one (standing y ls) q
  unfolding counts
  standing-counts [] o q h = absurd (not-suc-le-zero h)
  standing-counts (l ∷ ls) o q h = go (standing-counts ls (omega (arith, o))) (y among l) refl q h
    where
      go : ((q : ℕ) → q < length ls → count y (get_or ls q []) ≡ one (standing y ls) q) → (b : Bool) → y among l ≡ b → (q : ℕ) → q < length (l ∷ ls) → count y (get_or (l ∷ ls) q []) ≡ one (standing y (l ∷ ls)) q
      go r true e zero h = rw (stands_here l ls e) (omega (arith, o, among-count y l e, one_same 0 0 refl))
      go r true e (suc q) h =
          rw (stands_here l ls e) (omega (arith, o, among-count y l e, in_some y ls q, one-other 0 (suc q) (λ z. omega (arith, z))))
      go r false e zero h =
          rw (stands-past l ls e) (omega (arith, count-among y l e, one-other (suc (standing y ls)) 0 (λ z. omega (arith, z))))
      go r false e (suc q) h =
          rw (stands-past l ls e) (r q (le_of_suc-le-suc h) ∙ sym (one-suc (standing y ls) q))

  pub counts-standing : (ls : List (List ℕ)) (n : ℕ) → n ≤ length ls → ((q : ℕ) → q < length ls → count y (get_or ls q []) ≡ one n q) → standing y ls ≡ n
  counts-standing [] n b f = stands-nowhere ∙ (let z : 0 ≡ n = omega (arith, b) in z)
  counts-standing (l ∷ ls) n b f = go (counts-standing ls) (y among l) refl n b f
    where
      go : ((n : ℕ) → n ≤ length ls → ((q : ℕ) → q < length ls → count y (get_or ls q []) ≡ one n q) → standing y ls ≡ n) → (c : Bool) → y among l ≡ c → (n : ℕ) → n ≤ length (l ∷ ls) → ((q : ℕ) → q < length (l ∷ ls) → count y (get_or (l ∷ ls) q []) ≡ one n q) → standing y (l ∷ ls) ≡ n
      go r true e zero b f = stands_here l ls e
      go r true e (suc n) b f = absurd (omega (arith, among-count y l e, f 0 (omega arith), one-other (suc n) 0 (λ z. omega (arith, z))))
      go r false e zero b f = absurd (omega (arith, count-among y l e, f 0 (omega arith), one_same 0 0 refl))
      go r false e (suc n) b f =
          stands-past l ls e ∙ ap suc (r n (le_of_suc-le-suc b) (λ q h. f (suc q) (omega (arith, h)) ∙ one-suc n q))
