-- `load` meets its contract: refused by the block, by its directory, by 7, or accepted.
use mathlib.Core.Path.{sym, ap, ◌∙◌}
use native.Mathlib.Omega.{arith}
use Rattle.std.proofs.lemmas.Result.{err_from_is_err_and}
use Rattle.words.specs.Rows.{first_of}
use Rattle.answers.proofs.Cases.{number-some}
use Rattle.answers.specs.declared.Refusal.TheVariants.{NotZero}
use Rattle.image.specs.declared.Directory.{Directory}
use Rattle.image.specs.Directory.{directory_rows}
use Rattle.image.proofs.Loads.{block-long, refuses-block, refuses-directory, refuses-7, refuses-none, load-refused-by, load-accepted}
use Rattle.image.proofs.load.Goals as goal

pub returns-in_err-check : goal.returns-in_err-check
returns-in_err-check c =
    let p = err_from_is_err_and c.from_residual.result c.from_residual.ensures.1 in
    let by = c.in_err-check.ensures in
    rw (p.1, p.2) (load-refused-by c.args.bytes.now _ (by ∙ refuses-block c.args.bytes.now (λ z. number-some _ (by ∙ z))))

pub directory-directory-requires : goal.directory-directory-requires
directory-directory-requires c = omega (arith, block-long c.args.bytes.now (sym c.in_ok-check.ensures))

pub returns-in_err-check-2 : goal.returns-in_err-check-2
returns-in_err-check-2 c =
    let p = err_from_is_err_and c.from_residual-in_err-check-2.result c.from_residual-in_err-check-2.ensures.1 in
    let by = c.in_err-check-2.ensures ∙ ap (λ (d : Directory). first_of (directory_rows d)) c.directory-directory.ensures in
    rw (p.1, p.2) (load-refused-by c.args.bytes.now _ (by ∙ refuses-directory c.args.bytes.now (sym c.in_ok-check.ensures) (λ z. number-some _ (by ∙ z))))

pub clear-requires : goal.clear-requires
clear-requires c = omega (arith, block-long c.args.bytes.now (sym c.in_ok-check.ensures))

pub returns-then-not-clear : goal.returns-then-not-clear
returns-then-not-clear c =
    let sound = c.in_ok-check-2.ensures ∙ ap (λ (d : Directory). first_of (directory_rows d)) c.directory-directory.ensures in
    load-refused-by c.args.bytes.now NotZero (refuses-7 c.args.bytes.now (sym c.in_ok-check.ensures) (sym sound) (sym c.clear.ensures ∙ c.if-not-clear.true))

pub returns : goal.returns
returns c =
    let formed = c.in_ok-check-2.ensures ∙ ap (λ (d : Directory). first_of (directory_rows d)) c.directory-directory.ensures in
    rw (load-accepted c.args.bytes.now (sym (refuses-none c.args.bytes.now (sym c.in_ok-check.ensures) (sym formed) (sym c.clear.ensures ∙ c.if-not-clear.false))), c.directory-directory.ensures)
