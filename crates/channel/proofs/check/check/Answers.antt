-- `check::check` meets its contract: the request is done, or it is pending.
use borrow.Author.Tests.{eq-eqb, ne_eqb}
use Rattle.meaning.specs.Services.{check}
use Rattle.channel.proofs.check.check.Goals as goal

pub returns-then-q-eq-DONE : goal.returns-then-q-eq-DONE
unfolding check
returns-then-q-eq-DONE c = rw (eq-eqb _ _ c.if-q-eq-DONE.true) c.free_request.ensures

pub returns : goal.returns
unfolding check
returns c = rw (ne_eqb _ _ c.if-q-eq-DONE.false) c.wait_for.ensures
