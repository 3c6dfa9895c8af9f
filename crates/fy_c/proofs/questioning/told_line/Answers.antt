use Rattle.std.proofs.Common.{sym, subst}
use Rattle.std.proofs.lemmas.Result.{IfErr-weaker, IfOk-weaker}
use Rattle.fy_c.specs.Questioning.{NotTold}
use Rattle.fy_c.proofs.Asked.{no_question, told_it, no_memory}
use Rattle.fy_c.proofs.questioning.told_line.Goals as goal

pub returns-in-Ok-clause-told : goal.returns-in-Ok-clause-told
returns-in-Ok-clause-told c =
    IfOk-weaker c.told_text.result _ _
    (λ text. told_it c.args.state.now c.args.line.now text.items c.in-Ok.question c.in-Ok.ensures)
    c.told_text.ensures.told

pub returns-in-Ok-clause-err : goal.returns-in-Ok-clause-err
returns-in-Ok-clause-err c =
    IfErr-weaker c.told_text.result _ _
    (λ status. no_memory c.args.line.now c.in-Ok.question status c.in-Ok.ensures)
    c.told_text.ensures.err

pub returns-in-Err-clause-err : goal.returns-in-Err-clause-err
returns-in-Err-clause-err c =
    subst (NotTold c.args.line.now) (sym c.from.ensures)
    (no_question c.args.line.now c.in-Err.fault c.in-Err.ensures)
