use Rattle.std.proofs.Common.{refl}
use Rattle.std.proofs.lemmas.Result.{err_from_is_err_and}
use Rattle.std.proofs.KnownBytes.{Keeps-refl}
use Rattle.fy_guard.specs.AskedTexts.{NoAnswer}
use Rattle.fy_guard.proofs.guard.answer_line.Goals as goal

pub returns-in-Err-clause-err : goal.returns-in-Err-clause-err
returns-in-Err-clause-err g c =
    NoAnswer.unanswered _ c.in-Err.fault c.in-Err.ensures.err c.answer_stop.ensures
    (Keeps-refl (g.W.Write.contents c.args.writer.now))

pub returns-in_err-write_bytes-clause-err : goal.returns-in_err-write_bytes-clause-err
returns-in_err-write_bytes-clause-err g c =
    let p = err_from_is_err_and c.from_residual.result c.from_residual.ensures.1 in
    rw (p.1, p.2)
    (NoAnswer.short c.deref.result.now (rw c.deref.ensures.value c.in-Ok.ensures.answered) refl
    c.in_err-write_bytes.ensures.short)
