-- The table over the codes. Its rule is one test that is computed over all entries, whatever the table, and `all-at` gives it at each; past the
-- table neither list has the code, because each number of both is below their number. An entry says both things: a code that needs a running task is known.
use mathlib.Core.Bool.{Bool, true, false, not, ◌||◌}
use mathlib.Core.Path.{◌≡◌, refl, sym, ap}
use mathlib.Core.List.{List, [], ◌∷◌}
use Prim.Native.Nat.{ℕ, ◌≤◌, ◌<◌}
use native.Mathlib.Omega.{arith}
use lib.Dec.{eqb, ltb}
use lib.ListN.{get_or}
use borrow.Author.Tests.{eqb-true, ne_eqb, ltb-true}
use Rattle.words.specs.Words.{if◌then◌else◌, below, all_of, ◌among◌}
use Rattle.words.proofs.Lists.{all-at}
use Rattle.words.proofs.Truth.{and_left, and_right}
use denote.Enum.Bare.{sameb, same_true}
use borrow.Author.Rules.{rules}
use Rattle.calls.specs.contracts.codes.Status.{the_type}
use Rattle.calls.specs.declared.codes.Status.{Status}
use Rattle.calls.specs.declared.codes.Status.TheVariants.{Unknown, Known, NeedsTask}
use Rattle.calls.specs.Calls.{services, interrupts, known, needs_task, code_entry}

-- how many the table has
abbrev pub entries : ℕ
entries = 36

-- ---- Codes in the table: the test over the whole of it.

abbrev same : Status → Status → Bool
same = sameb the_type

abbrev right : List Status → ℕ → Bool
right table code = same (get_or table code Unknown) (code_entry code)

pub table-right : (table : List Status) (code : ℕ) → code < entries → all_of (right table) (below entries) ≡ true → get_or table code Unknown ≡ code_entry code
table-right table code low test = same_true the_type (search rules) (get_or table code Unknown) (code_entry code) (all-at (right table) entries code test low)

-- ---- Codes past it.

abbrev in_table : ℕ → Bool
in_table a = ltb a entries

among-past : (l : List ℕ) → all_of in_table l ≡ true → (code : ℕ) → entries ≤ code → (code among l) ≡ false
unfolding all_of ◌among◌
among-past [] low code past = refl
among-past (a ∷ l) low code past =
    let here = ltb-true a entries (and_left (in_table a) (all_of in_table l) low) in
    rw (ne_eqb a code (λ z. omega arith), among-past l (and_right (in_table a) (all_of in_table l) low) code past)

known_past : (code : ℕ) → entries ≤ code → known code ≡ false
unfolding known all_of
known_past code past = rw (among-past services refl code past, among-past interrupts refl code past)

needs-past : (code : ℕ) → entries ≤ code → needs_task code ≡ false
unfolding needs_task all_of
needs-past code past = rw (among-past services refl code past, ne_eqb code 34 (λ z. omega arith))

pub entry_past : (code : ℕ) → entries ≤ code → Unknown ≡ code_entry code
unfolding code_entry
entry_past code past = rw (needs-past code past, known_past code past)

-- ---- What an entry says.

or-more : (a b c : Bool) → (b ≡ true → c ≡ true) → (a || b) ≡ true → (a || c) ≡ true
or-more true b c more e = refl
or-more false b c more e = more e

needs-known : (code : ℕ) → needs_task code ≡ true → known code ≡ true
unfolding needs_task known ◌among◌
needs-known code =
    or-more (code among services) (eqb code 34) (code among interrupts) (λ z. ap (λ (n : ℕ). n among interrupts) (eqb-true code 34 z))

abbrev entry : Bool → Bool → Status
entry needs is = if needs then NeedsTask else if is then Known else Unknown

says-needs : (needs is : Bool) → same (entry needs is) NeedsTask ≡ needs
says-needs true is = refl
says-needs false true = refl
says-needs false false = refl

says-known : (needs is : Bool) → (needs ≡ true → is ≡ true) → not (same (entry needs is) Unknown) ≡ is
says-known true is h = sym (h refl)
says-known false true h = refl
says-known false false h = refl

pub entry-needs : (code : ℕ) → same (code_entry code) NeedsTask ≡ needs_task code
unfolding code_entry
entry-needs code = says-needs (needs_task code) (known code)

pub entry_known : (code : ℕ) → not (same (code_entry code) Unknown) ≡ known code
unfolding code_entry
entry_known code = says-known (needs_task code) (known code) (needs-known code)
