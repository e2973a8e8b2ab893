-- `word::past` meets its contract: what is taken is the run, the laws of `Runs`.
use Rattle.std.proofs.Common.{rules, tests, arith, length, length-drop, drop, ◌-◌, ◌∙◌}
use Rattle.std.proofs.lemmas.List.{take_all}
use Rattle.std.proofs.lemmas.Iterator.{YieldsList-from_slice}
use Rattle.std.proofs.lemmas.Iterator.Consumers.{count_from_yields_List, YieldsList-at}
use Rattle.std.proofs.lemmas.Iterator.Search.{YieldsList-from_take_while}
use Rattle.text.specs.Words.{class_number}
use Rattle.text.proofs.Runs.{of_class, passed}
use Rattle.text.proofs.word.past.Goals as goal

pub returns : goal.returns
returns c =
    let s = c.args in
    let k = class_number s.class in
    let rest = drop s.at s.line.now in
    let whole = take_all (length s.line.now - s.at) rest (omega (arith, length-drop s.at s.line.now)) in
    passed s.line.now s.at k c.count.result c.requires
    (count_from_yields_List c.take_while.result c.count.result c.count.ensures.ran
    (YieldsList-from_take_while _ (of_class k) (YieldsList-at c.take_while.ensures.source (YieldsList-from_slice rest (c.iter.ensures.rest ∙ whole)))
    c.take_while.ensures.closure c.take_while.ensures.done (λ x b q h. search (rules, tests))))
