use Rattle.std.proofs.Common.{ap, Err}
use Rattle.std.proofs.lemmas.Result.{err_from_is_err_and}
use Rattle.fy_judge.proofs.LineLemmas.{input_refused}
use Rattle.fy_judge.proofs.judge.run_judge.Goals as goal

pub returns-in_err-bytes-clause-refused : goal.returns-in_err-bytes-clause-refused
returns-in_err-bytes-clause-refused g c =
    let p = err_from_is_err_and c.from_residual.result c.from_residual.ensures.1 in
    rw (p.1, p.2)
    (input_refused (g.R.Read.remaining c.args.reader.now) c.in_err-bytes.field-0.0
    (λ long. c.in_err-bytes.ensures.too_long (ap Err long)))
