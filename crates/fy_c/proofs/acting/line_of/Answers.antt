use Rattle.std.proofs.lemmas.Result.{err_from_is_err_and}
use Rattle.fy_c.specs.Acting.{NotRead}
use Rattle.fy_c.proofs.Lines.{past_end, within}
use Rattle.fy_c.proofs.acting.line_of.Goals as goal

pub returns-in_default-clause-err : goal.returns-in_default-clause-err
returns-in_default-clause-err c =
    NotRead.no_entry (past_end c.args.journal.now.entries c.args.at c.in_default.ensures.entry)

pub returns-in_err-push_entry_line-clause-err : goal.returns-in_err-push_entry_line-clause-err
returns-in_err-push_entry_line-clause-err c =
    let p = err_from_is_err_and c.from_residual.result c.from_residual.ensures.1 in
    rw (p.1, p.2)
    (NotRead.no_memory
    (within c.args.journal.now.entries c.args.at c.in-Some.entry.now c.in-Some.ensures.entry))
