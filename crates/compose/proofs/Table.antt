-- The table of first words: its rule is one test that is computed over all rows, whatever they are, and holds at each.
use Rattle.std.proofs.Common.{◌≡◌, ℕ, zero, suc, ◌<◌, Bool, true, ◌&&◌, List, [], ◌∷◌, length, get_or, arith}
use Rattle.words.proofs.Truth.{and_left, and_right}
use Rattle.compose.specs.Calls.{verb_known}
use Rattle.compose.specs.declared.verbs.Row.{Row}

-- every code of the table is one of document 01's
unfoldable pub all_known : List Row → Bool
all_known [] = true
all_known (v ∷ l) = verb_known v.1 && all_known l

pub row-known : (table : List Row) (i : ℕ) (none : Row) → i < length table → all_known table ≡ true → verb_known (get_or table i none).1 ≡ true
unfolding all_known
row-known [] i none low all = absurd (omega arith)
row-known (v ∷ l) zero none low all = and_left (verb_known v.1) (all_known l) all
row-known (v ∷ l) (suc i) none low all = row-known l i none (omega arith) (and_right (verb_known v.1) (all_known l) all)
