-- What a call does, by the list of deeds: at a code the deed of that code, and a thing that is shown of each deed holds of what any call does. By induction on
-- the list. A code that has no deed is not known, since the codes of the deeds are those of the two lists of calls.
use mathlib.Core.Bool.{false, ◌||◌, or_assoc}
use mathlib.Core.Path.{◌≡◌, refl, sym, ap, ◌∙◌}
use mathlib.Core.Logic.{⊎_elim}
use mathlib.Core.List.{List, [], ◌∷◌, ◌++◌}
use Prim.Native.Nat.{ℕ}
use lib.Dec.{eqb}
use Rattle.words.specs.Words.{◌among◌}
use Rattle.words.proofs.Truth.{tested}
use Rattle.tables.specs.State.{State}
use Rattle.calls.specs.declared.Call.{Call}
use Rattle.calls.specs.Calls.{services, interrupts, known}
use Rattle.meaning.specs.Services.{Effect, ◌giving◌, Deed, ◌does◌, deeds, deed_of, effect}

unfoldable pub codes_of : List Deed → List ℕ
codes_of [] = []
codes_of (n does f ∷ l) = n ∷ codes_of l

among-both : (n : ℕ) (l m : List ℕ) → (n among (l ++ m)) ≡ (n among l || n among m)
unfolding ◌among◌
among-both n [] m = refl
among-both n (a ∷ l) m = rw (among-both n l m) (sym (or_assoc (eqb a n) (n among l) (n among m)))

deeds-known : (n : ℕ) → known n ≡ (n among codes_of deeds)
unfolding known deeds codes_of
deeds-known n = sym (among-both n services interrupts)

pub unknown : (n : ℕ) → n among codes_of deeds ≡ false → known n ≡ false
unknown n e = deeds-known n ∙ e

-- at a code, its deed: `deed_of` computes there
pub deed-at : (s : State) (c : Call) (n : ℕ) → c.code ≡ n → effect s c ≡ deed_of deeds n s c
unfolding effect
deed-at s c n z = ap (λ (x : ℕ). deed_of deeds x s c) z

-- R, if P is shown of what each deed of a list does for a call of its code: one argument for each
unfoldable pub Shown : State → Call → (Effect → Type 0) → List Deed → Type 0 → Type 0
Shown s c P [] R = R
Shown s c P (n does f ∷ l) R = (c.code ≡ n → P (f s c)) → Shown s c P l R

module _ (s : State) (c : Call) (P : Effect → Type 0) where
  anyway : (l : List Deed) {R : Type 0} → R → Shown s c P l R
  unfolding Shown
  anyway [] r = r
  anyway (n does f ∷ l) r = λ h. anyway l r

  each-deed : (l : List Deed) → (c.code among codes_of l ≡ false → P (s giving 0)) → Shown s c P l (P (deed_of l c.code s c))
  unfolding Shown deed_of codes_of ◌among◌
  each-deed [] none = none refl
  each-deed (n does f ∷ l) none = λ h.
      ⊎_elim (λ z. rw z.0 (anyway l (h (sym z.1)))) (λ z. rw z.0 (each-deed l (λ e. none (rw z.0 e)))) (tested n c.code)

  -- the law: what is shown of each deed, and of a code that is not known, holds of what the call does
  pub every-deed : (known c.code ≡ false → P (s giving 0)) → Shown s c P deeds (P (effect s c))
  unfolding effect
  every-deed none = each-deed deeds (λ e. none (unknown c.code e))
