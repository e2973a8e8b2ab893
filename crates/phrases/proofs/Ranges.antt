-- A range of events is put into a set one event a turn.
use mathlib.Core.Path.{◌≡◌, refl}
use Prim.Native.Nat.{ℕ, zero, suc, ◌+◌, ◌≤◌, ◌<◌}
use native.Mathlib.Numerals.{add-one}
use native.Mathlib.Omega.{arith}
use borrow.Author.Tests.{le-leb, lt-leb}
use Rattle.words.specs.Words.{adding}
use Rattle.phrases.specs.Events.{ranged}

-- no event below the first is put in
pub ranged_none : (set first n : ℕ) → n ≤ first → ranged set first n ≡ set
unfolding ranged
ranged_none set first zero low = refl
ranged_none set first (suc n) low = let out : n < first = omega arith in rw (lt-leb first n out) (ranged_none set first n (omega arith))

pub ranged_in : (set first e : ℕ) → first ≤ e → ranged set first (e + 1) ≡ adding (ranged set first e) e
unfolding ranged
ranged_in set first e low = rw (add-one e, le-leb first e low)
