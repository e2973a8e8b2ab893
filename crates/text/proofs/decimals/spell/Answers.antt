-- `decimals::spell` meets its contract: what `io::decimal` spells is the spelling, and has at most 20 digits.
use Rattle.std.proofs.Common.{◌∙◌, rules}
use Rattle.text.proofs.Spelling.{spelled}
use Rattle.text.proofs.decimals.spell.Goals as goal

pub returns : goal.returns
returns c =
    let d = c.decimal-count in
    let same = d.ensures.digits ∙ spelled c.args.n d.result d.ensures.len in
    record {
      text = search rules;
      few = search rules;
    }
