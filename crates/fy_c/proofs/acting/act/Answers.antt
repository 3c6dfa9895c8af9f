use Rattle.std.proofs.Common.{refl, subst}
use Rattle.std.proofs.lemmas.Result.{err_from_is_err_and}
use Rattle.fy_answers.specs.Answers.{HasNoAnswer}
use Rattle.fy_c.specs.Acting.{IsUnanswered}
use Rattle.fy_c.proofs.acting.act.Goals as goal

pub returns-in_err-text-clause-err : goal.returns-in_err-text-clause-err
returns-in_err-text-clause-err c =
    let p = err_from_is_err_and c.from_residual.result c.from_residual.ensures.1 in
    rw (p.1, p.2) (IsUnanswered.no_room refl)

pub returns-in_err-answer-clause-err : goal.returns-in_err-answer-clause-err
returns-in_err-answer-clause-err c =
    let new = c.answer.new.cluster in
    let line = c.args.line.now in
    let fault = c.in_err-answer.field-0.0 in
    let p = err_from_is_err_and c.from_residual-in_err-answer.result
    c.from_residual-in_err-answer.ensures.1 in
    rw (p.1, p.2)
    (IsUnanswered.no_answer fault
    (subst (λ old. HasNoAnswer old new line c.args.room fault) c.cluster.ensures.value
    (subst (λ room. HasNoAnswer c.cluster.result.now new line room fault) c.in_ok-text.ensures.exact
    c.in_err-answer.ensures.err)))
