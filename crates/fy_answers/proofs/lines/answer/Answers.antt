use Rattle.std.proofs.Common.{subst}
use Rattle.std.specs.Prelude.{vec_capacity}
use Rattle.std.proofs.lemmas.Result.{err_from_is_err_and, IfErr-weaker}
use Rattle.fy_answers.specs.Answers.{HasNoEntry, HasNoAnswer}
use Rattle.fy_answers.proofs.Entering.{faulty_line}
use Rattle.fy_answers.proofs.lines.answer.Goals as goal

pub returns-in_err-read_command-clause-err : goal.returns-in_err-read_command-clause-err
returns-in_err-read_command-clause-err g c =
    let p = err_from_is_err_and c.from_residual.result c.from_residual.ensures.1 in
    rw (p.1, p.2)
    (faulty_line (g.C.Enters.cluster c.args.cluster.now) c.args.line.now (vec_capacity c.args.text.now)
    c.in_err-read_command.field-0.0 c.in_err-read_command.ensures)

pub returns-clause-err : goal.returns-clause-err
returns-clause-err g c =
    let command = c.in_ok-read_command.field-0 in
    let old = g.C.Enters.cluster c.args.cluster.now in
    let new = g.C.Enters.cluster c.enter_line.new.self in
    IfErr-weaker c.enter_line.result _ _
    (λ fault none. HasNoAnswer.no_entry command c.in_ok-read_command.ensures fault
    (subst (λ parts. HasNoEntry old new parts.0 parts.1 (vec_capacity c.args.text.now) fault)
    c.into_parts-by.ensures none))
    c.enter_line.ensures.err
