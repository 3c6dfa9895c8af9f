use Rattle.std.specs.Prelude.{vec_capacity}
use Rattle.std.proofs.lemmas.Result.{err_from_is_err_and, on_ok_weaker, IfErr-weaker}
use Rattle.fy_answers.proofs.Handling.{acted, faulty_request, not_acted, not_told, told, told_ends}
use Rattle.fy_answers.proofs.handled.handle.Goals as goal

pub returns-in_err-command-clause-err : goal.returns-in_err-command-clause-err
returns-in_err-command-clause-err c =
    let p = err_from_is_err_and c.from_residual.result c.from_residual.ensures.1 in
    rw (p.1, p.2)
    (faulty_request c.args.cluster.now c.args.line.now (vec_capacity c.args.text.now)
    c.in_err-command.field-0.0 c.in_err-command.ensures)

pub returns-in-Act-clause-handled : goal.returns-in-Act-clause-handled
returns-in-Act-clause-handled c =
    on_ok_weaker c.enter_line.result
    (acted c.args.cluster.now c.enter_line.new.self c.args.line.now c.enter_line.new.text.items
    c.in-Act.command c.into_parts-by.result (rw c.in-Act.is at c.in_ok-command.ensures)
    c.into_parts-by.ensures)
    c.enter_line.ensures.entered

pub returns-in-Act-clause-err : goal.returns-in-Act-clause-err
returns-in-Act-clause-err c =
    IfErr-weaker c.enter_line.result _ _
    (λ fault. not_acted c.args.cluster.now c.enter_line.new.self c.args.line.now
    (vec_capacity c.args.text.now) fault c.in-Act.command c.into_parts-by.result
    (rw c.in-Act.is at c.in_ok-command.ensures) c.into_parts-by.ensures)
    c.enter_line.ensures.err

pub returns-in-Ask-clause-handled : goal.returns-in-Ask-clause-handled
returns-in-Ask-clause-handled c =
    on_ok_weaker c.tell.result
    (told c.args.cluster.now c.args.line.now c.tell.new.text.items c.in-Ask.question
    (rw c.in-Ask.is at c.in_ok-command.ensures))
    c.tell.ensures.told

pub returns-in-Ask-clause-ends : goal.returns-in-Ask-clause-ends
returns-in-Ask-clause-ends c =
    on_ok_weaker c.tell.result (told_ends c.args.cluster.now c.in-Ask.question c.tell.new.text.items)
    c.tell.ensures.told

pub returns-in-Ask-clause-err : goal.returns-in-Ask-clause-err
returns-in-Ask-clause-err c =
    IfErr-weaker c.tell.result _ _
    (λ fault. not_told c.args.cluster.now c.args.line.now (vec_capacity c.args.text.now)
    c.in-Ask.question fault (rw c.in-Ask.is at c.in_ok-command.ensures))
    c.tell.ensures.err
