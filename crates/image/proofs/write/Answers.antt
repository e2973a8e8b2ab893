-- `write` meets its contract: refused, the buffer is what it was; accepted, it is the image.
use mathlib.Core.Path.{refl, sym, ap, ◌∙◌}
use lib.ListN.{length}
use Rattle.std.proofs.lemmas.Result.{err_from_is_err_and}
use Rattle.answers.proofs.Cases.{number-some}
use Rattle.image.proofs.Writes.{image-length, write-length, write-fault, write-accepted}
use Rattle.image.proofs.Small.{small}
use Rattle.image.proofs.write.Goals as goal

pub returns-then-buffer-ne512 : goal.returns-then-buffer-ne512
returns-then-buffer-ne512 c = write-length c.args.found c.args.buffer.now c.if-buffer-ne512.true

pub returns-in_err-check : goal.returns-in_err-check
returns-in_err-check c =
    let p = err_from_is_err_and c.from_residual.result c.from_residual.ensures.1 in
    rw (p.1, p.2) (write-fault c.args.found c.args.buffer.now c.if-buffer-ne512.false c.in_err-check.ensures (number-some _))

pub image-image-requires : goal.image-image-requires
image-image-requires c = small c.args.found (sym c.in_ok-check.ensures)

pub returns : goal.returns
returns c =
    write-accepted c.args.found c.args.buffer.now c.if-buffer-ne512.false c.in_ok-check.ensures refl
    (c.copy_from_slice.ensures.after ∙ c.image-image.ensures)

pub copy_from_slice-requires : goal.copy_from_slice-requires
copy_from_slice-requires c =
    c.if-buffer-ne512.false ∙ sym (ap length c.image-image.ensures ∙ image-length c.args.found)
