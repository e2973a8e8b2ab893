-- `decimals::all_digits` meets its contract: what `all` answers, and that there is one.
use Rattle.std.proofs.Common.{rules, tests, ◌∙◌}
use Rattle.std.proofs.lemmas.Iterator.{YieldsList-from_slice}
use Rattle.std.proofs.lemmas.Iterator.Search.{all_from_yields_List}
use Rattle.text.specs.Decimals.{is_digit}
use Rattle.text.proofs.Digits.{digits-some, digits-none}
use Rattle.text.proofs.decimals.all_digits.Goals as goal

pub returns-then-not-is_empty : goal.returns-then-not-is_empty
returns-then-not-is_empty c =
    let l = c.args.bytes.now in
    all_from_yields_List is_digit _ _ c.all.result c.all.ensures.ran (YieldsList-from_slice l cc) (λ x b q k. search (rules, tests)) ∙ digits-some l (search rules)

pub returns-else-not-is_empty : goal.returns-else-not-is_empty
returns-else-not-is_empty c = rw c.if-not-is_empty.false (digits-none c.args.bytes.now (search rules))
