-- The two rules of a grant as the source names them, by the numbers that the tables have for them.
use Rattle.std.specs.Prelude.{ℕ}
use Rattle.pools.specs.declared.Rule.{Rule}
use Rattle.pools.specs.declared.Rule.TheVariants as rule
use Rattle.pools.specs.Pools.{LowestStart, SmallestHole}

-- the number of a rule
abbrev pub rule_number : Rule → ℕ
rule_number r = elim r [ rule.LowestStart ↦ LowestStart | rule.SmallestHole ↦ SmallestHole ]
