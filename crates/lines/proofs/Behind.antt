-- How a line grows: what is put behind in two pieces is put there in one.
use mathlib.Core.Path.{sym, ap, ◌∙◌}
use mathlib.Core.List.{List, [], ◌++◌, append_assoc, append-nil}
use Prim.Native.Nat.{ℕ, ◌+◌, ◌≤◌}
use native.Mathlib.Omega.{arith}
use lib.ListN.{length, length-append}
use Rattle.lines.specs.Lines.{Holds, Adds, Fits}

-- one piece, and another behind it
pub onward : {l m r : List ℕ} (xs ys : List ℕ) → Adds l xs m → Adds m ys r → Adds l (xs ++ ys) r
onward {l} xs ys a b = record {
  text = b.text ∙ ap (λ (z : List ℕ). z ++ ys) a.text ∙ append_assoc l xs ys;
  used = omega (arith, a.used, b.used, length-append xs ys);
}

-- nothing
pub nothing-more : (l : List ℕ) → Adds l [] l
nothing-more l = record { text = sym (append-nil l); used = omega arith }

-- behind an empty line
pub alone : {l r : List ℕ} (xs : List ℕ) (most : ℕ) → Holds l [] 0 → Adds l xs r → length r ≤ most → Holds r xs most
alone xs most none a few = record {
  text = a.text ∙ ap (λ (z : List ℕ). z ++ xs) none.text;
  used = omega (arith, a.used, none.used);
  few = few;
}

-- what fits behind a line in two pieces fits behind it in one
pub fits-onward : {l m r : List ℕ} {a b : ℕ} (xs ys : List ℕ) (c : ℕ) → Fits l xs a m → Fits m ys b r → a + b ≤ c → Fits l (xs ++ ys) c r
fits-onward xs ys c p q most = record { adds = onward xs ys p.adds q.adds; few = omega (arith, p.few, q.few, most) }

pub fits-none : (l : List ℕ) (a : ℕ) → Fits l [] a l
fits-none l a = record { adds = nothing-more l; few = omega arith }
