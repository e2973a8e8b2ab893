-- `block::check` meets its contract: each return by the tests that led there.
use mathlib.Core.Path.{sym, ◌∙◌}
use borrow.Author.Tests.{eq-eqb, ne_eqb}
use Rattle.words.specs.Rows.{first_of}
use Rattle.image.specs.Load.{block_rows}
use Rattle.image.proofs.block.check.Goals as goal

pub returns-then-bytes-ne512 : goal.returns-then-bytes-ne512
unfolding first_of block_rows
returns-then-bytes-ne512 c = rw (ne_eqb _ _ c.if-bytes-ne512.true)

pub returns-then-not-passes : goal.returns-then-not-passes
unfolding first_of block_rows
returns-then-not-passes c = rw (eq-eqb _ _ c.if-bytes-ne512.false, sym c.passes.ensures ∙ c.if-not-passes.true)

pub returns-then-bytes-ne1 : goal.returns-then-bytes-ne1
unfolding first_of block_rows
returns-then-bytes-ne1 c = rw (eq-eqb _ _ c.if-bytes-ne512.false, sym c.passes.ensures ∙ c.if-not-passes.false, ne_eqb _ _ c.if-bytes-ne1.true)

pub returns : goal.returns
unfolding first_of block_rows
returns c = rw (eq-eqb _ _ c.if-bytes-ne512.false, sym c.passes.ensures ∙ c.if-not-passes.false, eq-eqb _ _ c.if-bytes-ne1.false)
