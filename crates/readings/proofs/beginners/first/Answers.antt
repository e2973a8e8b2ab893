-- `first` meets its contract: before block k none of the blocks below it begins to wait.
use Rattle.std.proofs.Common.{◌≡◌, refl, rules, sym, ◌∙◌}
use Rattle.readings.specs.Readings.{beginners}
use Rattle.readings.proofs.Gathered.{first-here, first_past}
use Rattle.readings.proofs.beginners.first.Goals as goal

pub loop-k-init : goal.loop-k-init
unfolding beginners
loop-k-init c = refl

pub returns-then-begins : goal.returns-then-begins
returns-then-begins c =
    let s = c.args in
    let l = c.loop-k in
    sym (first-here s.before s.after l.k 24 (search rules) (search rules) l.invariant (sym c.begins.ensures ∙ c.if-begins.true))

pub loop-k-preserved : goal.loop-k-preserved
loop-k-preserved c =
    let s = c.args in
    let l = c.loop-k in
    first_past s.before s.after l.k (search rules) l.invariant (sym c.begins.ensures ∙ c.if-begins.false)

pub returns : goal.returns
returns c =
    let s = c.loop-k in
    let all : s.k ≡ 25 = search rules in
    rw (rw all at s.invariant) refl
