-- Where a task waits, and since when: the places by their numbers, and the two laws of a reading that later proofs go by. By cases of whether the place waits.
use mathlib.Core.Bool.{Bool, true, false, cond, true≢false}
use mathlib.Core.Path.{◌≡◌, refl, sym, ◌∙◌}
use mathlib.Core.Logic.{⊎_elim}
use Prim.Native.Nat.{ℕ, zero, suc, ◌≤◌}
use native.Mathlib.Omega.{arith}
use borrow.Author.Tests.{ne_eqb}
use Rattle.words.specs.Words.{◌among◌}
use Rattle.words.proofs.Places.{under-or-from}
use Rattle.tables.specs.Blocks.{InCore, InEvent, InTime, InLink, InCheck, Ending, waits_in, since_in}

-- ---- The numbers of the places that wait stand together.
pub waits-from : (p : ℕ) → InCore ≤ p → p ≤ Ending → waits_in p ≡ true
unfolding waits_in ◌among◌
waits-from zero a b = absurd (omega (arith, a))
waits-from (suc zero) a b = absurd (omega (arith, a))
waits-from (suc (suc zero)) a b = absurd (omega (arith, a))
waits-from (suc (suc (suc zero))) a b = refl
waits-from (suc (suc (suc (suc zero)))) a b = refl
waits-from (suc (suc (suc (suc (suc zero))))) a b = refl
waits-from (suc (suc (suc (suc (suc (suc zero)))))) a b = refl
waits-from (suc (suc (suc (suc (suc (suc (suc zero))))))) a b = refl
waits-from (suc (suc (suc (suc (suc (suc (suc (suc zero)))))))) a b = refl
waits-from (suc (suc (suc (suc (suc (suc (suc (suc (suc p))))))))) a b = absurd (omega (arith, b))

pub waits-not : (p : ℕ) → (InCore ≤ p → p ≤ Ending → ⊥) → waits_in p ≡ false
unfolding waits_in ◌among◌
waits-not p n =
    let other : (q : ℕ) → InCore ≤ q → q ≤ Ending → q ≡ p → ⊥ = λ q a b z. n (omega (arith, a, z)) (omega (arith, b, z)) in
    rw (
      ne_eqb InCore p (other InCore (omega arith) (omega arith)),
      ne_eqb InEvent p (other InEvent (omega arith) (omega arith)),
      ne_eqb InTime p (other InTime (omega arith) (omega arith)),
      ne_eqb InLink p (other InLink (omega arith) (omega arith)),
      ne_eqb InCheck p (other InCheck (omega arith) (omega arith)),
      ne_eqb Ending p (other Ending (omega arith) (omega arith)),
    )

pub waits-within : (p : ℕ) → waits_in p ≡ true → (InCore ≤ p) × (p ≤ Ending)
waits-within p e =
    ⊎_elim
    (λ a. absurd (true≢false (sym e ∙ waits-not p (λ i j. omega (arith, a, i)))))
    (λ a. ⊎_elim (λ b. (a, omega (arith, b))) (λ b. absurd (true≢false (sym e ∙ waits-not p (λ i j. omega (arith, b, j))))) (under-or-from p 9))
    (under-or-from p InCore)

-- ---- A reading that is put into a place again stays; and it is not past the clock.
again : (b : Bool) (now : ℕ) → cond b (cond b now 0) 0 ≡ cond b now 0
again true now = refl
again false now = refl

pub since-again : (now p : ℕ) → since_in (since_in now p) p ≡ since_in now p
unfolding since_in
since-again now p = again (waits_in p) now

low : (b : Bool) (now : ℕ) → cond b now 0 ≤ now
low true now = omega arith
low false now = omega arith

pub since-low : (now p : ℕ) → since_in now p ≤ now
unfolding since_in
since-low now p = low (waits_in p) now

pub since-waits : (now p : ℕ) → waits_in p ≡ true → since_in now p ≡ now
unfolding since_in
since-waits now p e = rw e

pub since-not : (now p : ℕ) → waits_in p ≡ false → since_in now p ≡ 0
unfolding since_in
since-not now p e = rw e
