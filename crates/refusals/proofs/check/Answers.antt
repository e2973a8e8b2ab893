-- `check` meets its contract: the first of the table is the first of the part that gives one, where those before it give none.
use Rattle.std.proofs.lemmas.Result.{err_from_is_err_and}
use Rattle.answers.proofs.Cases.{number-some}
use Rattle.tables.specs.State.{read}
use Rattle.refusals.proofs.Gathered.{in-code, in-names, in-carried, in-condition, in-room}
use Rattle.refusals.proofs.check.Goals as goal

pub returns-in_err-by_code : goal.returns-in_err-by_code
returns-in_err-by_code c =
    let p = err_from_is_err_and c.from_residual.result c.from_residual.ensures.1 in
    rw (p.1, p.2) (in-code (read c.args.t) c.args.c (number-some _) c.in_err-by_code.ensures)

pub returns-in_err-by_names : goal.returns-in_err-by_names
returns-in_err-by_names c =
    let p = err_from_is_err_and c.from_residual-in_err-by_names.result c.from_residual-in_err-by_names.ensures.1 in
    rw (p.1, p.2) (in-names (read c.args.t) c.args.c c.in_ok-by_code.ensures (number-some _) c.in_err-by_names.ensures)

pub returns-in_err-by_carried : goal.returns-in_err-by_carried
returns-in_err-by_carried c =
    let p = err_from_is_err_and c.from_residual-in_err-by_carried.result c.from_residual-in_err-by_carried.ensures.1 in
    rw (p.1, p.2) (in-carried (read c.args.t) c.args.c c.in_ok-by_code.ensures c.in_ok-by_names.ensures (number-some _) c.in_err-by_carried.ensures)

pub returns-in_err-by_condition : goal.returns-in_err-by_condition
returns-in_err-by_condition c =
    let p = err_from_is_err_and c.from_residual-in_err-by_condition.result c.from_residual-in_err-by_condition.ensures.1 in
    rw (p.1, p.2) (in-condition (read c.args.t) c.args.c c.in_ok-by_code.ensures c.in_ok-by_names.ensures c.in_ok-by_carried.ensures (number-some _) c.in_err-by_condition.ensures)

pub returns : goal.returns
returns c =
    in-room (read c.args.t) c.args.c c.in_ok-by_code.ensures c.in_ok-by_names.ensures c.in_ok-by_carried.ensures c.in_ok-by_condition.ensures
    c.by_room.ensures
