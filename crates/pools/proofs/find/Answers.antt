-- `pools::find` meets its contract: by document 01's rule the least of the starts of free runs of n units, by E8's the least of the starts of the
-- shortest holes; 64 says that there is none. No units are to be had at the start 0, more than 64 nowhere.
use mathlib.Core.Path.{sym, ap, ◌∙◌}
use native.Mathlib.Omega.{arith}
use borrow.Author.Rules.{rules}
use Rattle.pools.specs.Find.{found_at, found_of}
use Rattle.pools.proofs.Starts.{start-zero, start-lowest, start-smallest, found-at, found_nowhere}
use Rattle.pools.proofs.Search.{lowest-least, smallest-least, start-of-many}
use Rattle.pools.proofs.find.Goals as goal

pub returns-then-n-eq0 : goal.returns-then-n-eq0
returns-then-n-eq0 c = let s = c.args in sym (found-at s.holes s.granted s.n 0 (start-zero s.holes s.granted s.n c.if-n-eq0.true) (omega arith))

pub returns-then-n-gt64 : goal.returns-then-n-gt64
returns-then-n-gt64 c =
    let s = c.args in
    sym (found_nowhere s.holes s.granted s.n (start-of-many s.holes s.granted s.n (search rules)))

pub returns-then-holes-eq-LOWEST_START : goal.returns-then-holes-eq-LOWEST_START
unfolding found_of
returns-then-holes-eq-LOWEST_START c =
    let s = c.args in
    c.lowest_of.ensures
    ∙ ap found_at (lowest-least s.granted s.n c.free_starts.result c.free_starts.ensures
    ∙ sym (start-lowest s.holes s.granted s.n c.if-holes-eq-LOWEST_START.true))

pub returns : goal.returns
unfolding found_of
returns c =
    let s = c.args in
    c.lowest_of-2.ensures
    ∙ ap found_at (smallest-least s.granted s.n c.hole_starts.result (search rules) c.hole_starts.ensures
    ∙ sym (start-smallest s.holes s.granted s.n c.if-holes-eq-LOWEST_START.false))
