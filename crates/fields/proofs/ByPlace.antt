-- A block by its place: what is left of its rules where it is free, where it is used, and in each place of a used task.
use mathlib.Core.Bool.{Bool, true, false, not, ◌&&◌, ◌||◌, beq}
use mathlib.Core.Path.{◌≡◌, refl, sym}
use mathlib.Core.Logic.{◌≢◌, ⊎_elim}
use Prim.Native.Nat.{ℕ}
use lib.Dec.{eqb, leb, ltb}
use native.Mathlib.Omega.{arith}
use borrow.Author.Tests.{ne_eqb, le-leb}
use Rattle.words.proofs.Truth.{tested, and_assoc, and-true, or-none}
use Rattle.words.specs.Words.{◌implies◌}
use Rattle.tables.specs.declared.Task.{Task}
use Rattle.tables.specs.Blocks.{InCore, InEvent, InTime, InCheck, waits_in}
use Rattle.meaning.specs.Rules.{queue_for, blank_task}
use Rattle.fields.specs.Blocks.{fields_right, core_right, own_right, place_right, waiter_right, since_right, pending_right}
use Rattle.meaning.proofs.Blanks.{task-blank}

-- ---- Tests of which one is known.

pub and_none : (a : Bool) → (a && false) ≡ false
and_none true = refl
and_none false = refl

pub or-all : (a : Bool) → (a || true) ≡ true
or-all true = refl
or-all false = refl

-- a number that is 0 is at most 16
pub low : (r : ℕ) → (leb r 16 && eqb r 0) ≡ eqb r 0
low r = ⊎_elim (λ e. rw e.1) (λ e. rw e.0 (and_none (leb r 16))) (tested r 0)

is_false : (b : Bool) → beq b false ≡ not b
is_false true = refl
is_false false = refl

is_true : (b : Bool) → beq b true ≡ b
is_true true = refl
is_true false = refl

-- 0 is at most any number
least : (n : ℕ) → leb 0 n ≡ true
least n = le-leb 0 n (omega arith)

ruleset known = (low, least, and-true, and_none, or-all, or-none, is_false, is_true)

ruleset flat = (and-true, and_assoc)

-- ---- A free task block: where it is zero, its fields keep every rule, and what is left is where it stands.

module _ (modules defined on clock stands level units : ℕ) (runs free own some : Bool) (x : Task) where
  abbrev whole : Bool
  whole = fields_right modules units x && place_right stands level runs free x && waiter_right defined on x && pending_right own some x && leb x.since clock

  of-free : x.place ≡ 0 → (b : Bool) → blank_task x ≡ b → (eqb stands 9 && not runs && free && blank_task x) ≡ whole
  unfolding waiter_right queue_for
  of-free e true z = rw (task-blank x z) (simp known)
  of-free e false z = rw (z, e) (simp and_none)

  pub free-whole : x.place ≡ 0 → (eqb stands 9 && not runs && free && blank_task x) ≡ whole
  free-whole e = of-free e (blank_task x) refl

-- ---- What each place of a task asks by itself.

module _ (units defined on : ℕ) (own some : Bool) (x : Task) where
  abbrev asked : Bool
  asked = own_right units x && waiter_right defined on x && pending_right own some x

  abbrev unasked : Bool
  unasked = eqb x.count 0 && eqb x.events 0 && eqb x.time 0 && eqb x.request 0

  abbrev needs : Bool
  needs = ltb 0 units && eqb x.core 0

  pub in-core : {b : Bool} → b ≡ unasked → x.place ≡ 3 → (b && needs) ≡ asked
  unfolding waiter_right
  in-core i e = rw (i, e) (simp known (simp flat))

  pub in-time : x.place ≡ 5 → (eqb x.count 0 && eqb x.events 0 && eqb x.request 0) ≡ asked
  unfolding waiter_right
  in-time e = rw e (simp known (simp flat))

  pub in-check : x.place ≡ 7
      → (eqb x.count 0 && eqb x.events 0 && eqb x.time 0 && leb x.request 16 && not needs && own) ≡ asked
  unfolding waiter_right
  in-check e = rw e (simp known (simp flat))

  pub ending : {b : Bool} → b ≡ unasked → x.place ≡ 8 → (b && not needs && some) ≡ asked
  unfolding waiter_right
  ending i e = rw (i, e) (simp known (simp flat))

  -- running, ready or in LINK
  pub elsewhere : {b : Bool} → b ≡ unasked → x.place ≢ 3 → x.place ≢ 4 → x.place ≢ 5 → x.place ≢ 7 → x.place ≢ 8
      → (leb x.place 8 && b && not needs) ≡ asked
  unfolding waiter_right
  elsewhere i c e t k d =
      rw (i, ne_eqb x.place 3 c, ne_eqb x.place 4 e, ne_eqb x.place 5 t, ne_eqb x.place 7 k, ne_eqb x.place 8 d)
      (simp known (simp flat))

-- ---- A used task block: the tests that every place has stand before those of its place. Four stand elsewhere among the rules; what stands between them stays.

in_order : (place request stands since a b c d e f g : Bool)
    → (place && a && request && b && c && d && since && e && stands && f && g) ≡ (a && b && stands && place && c && request && d && e && f && since && g)
in_order true true true true a b c d e f g = simp flat
in_order true true true false a b c d e f g = simp and_none
in_order true true false w a b c d e f g = simp and_none
in_order true false z w a b c d e f g = simp and_none
in_order false y z w a b c d e f g = simp and_none

module _ (modules defined on clock stands level units : ℕ) (runs free own some : Bool) (x : Task) where
  pub used-whole : x.place ≢ 0
      → (leb x.parent 24 && leb x.core 2 && ltb x.program modules && core_right units x && place_right stands level runs free x
      && (own_right units x && waiter_right defined on x && pending_right own some x) && since_right clock x)
      ≡ (fields_right modules units x && place_right stands level runs free x && waiter_right defined on x && pending_right own some x && leb x.since clock)
  used-whole n =
      let needs = ltb 0 units && eqb x.core 0 in
      rw (ne_eqb x.place 0 n) (simp flat (simp flat at (sym (in_order (leb x.place 8) (leb x.request 16)
      (eqb stands (queue_for x.place level) && beq runs (eqb x.place 1) && beq free false) (not (waits_in x.place) implies eqb x.since 0)
      (leb x.parent 24 && leb x.core 2) (ltb x.program modules && core_right units x)
      ((not (eqb x.place InEvent) implies (eqb x.count 0 && eqb x.events 0)) && (not (eqb x.place InTime) implies eqb x.time 0))
      (not (eqb x.place InCheck) implies eqb x.request 0)
      ((eqb x.place InCore implies needs) && (needs implies (eqb x.place InCore || eqb x.place InEvent || eqb x.place InTime)))
      (waiter_right defined on x && pending_right own some x) (leb x.since clock)))))
