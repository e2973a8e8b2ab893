-- A list that is read from its end: what is left of it is the beginning of what it began as, and the item that is taken stood just behind that.
use mathlib.Core.Path.{◌≡◌, sym, ap, ◌∙◌}
use mathlib.Core.List.{List, [], ◌∷◌, ◌++◌}
use Prim.Native.Nat.{ℕ, ◌+◌}
use Rattle.std.proofs.Common.{append_assoc}
use native.Mathlib.Omega.{arith}
use lib.ListN.{length, get_or, take, drop, length-append, take-append-drop}
use lib.Seq.{get_or-drop, get_or-append-add}

-- so much is left of the bytes from `at` on
pub record Left (b : List ℕ) (at : ℕ) (left : List ℕ) : Type 0 where
  pub taken : List ℕ
  pub whole : left ++ taken ≡ drop at b

pub left-start : (b : List ℕ) (at n : ℕ) → Left b at (take n (drop at b))
left-start b at n = record { taken = drop n (drop at b); whole = take-append-drop n (drop at b) }

module _ {b : List ℕ} {at : ℕ} {left : List ℕ} (l : Left b at left) (rest : List ℕ) (x : ℕ) (e : left ≡ rest ++ x ∷ []) where
  whole : rest ++ x ∷ l.taken ≡ drop at b
  whole = sym (append_assoc rest (x ∷ []) l.taken) ∙ ap (λ (t : List ℕ). t ++ l.taken) (sym e) ∙ l.whole

  pub left-next : Left b at rest
  left-next = record { taken = x ∷ l.taken; whole = whole }

  pub left-length : length left ≡ length rest + 1
  left-length = ap length e ∙ length-append rest (x ∷ [])

  pub left-item : x ≡ get_or b (at + length rest) 0
  left-item =
      let here : length rest + 0 ≡ length rest = omega arith in
      sym (get_or-append-add rest (x ∷ l.taken) 0 0) ∙ ap (λ (i : ℕ). get_or (rest ++ x ∷ l.taken) i 0) here
      ∙ ap (λ (t : List ℕ). get_or t (length rest) 0) whole ∙ get_or-drop at b (length rest) 0
