use Rattle.std.proofs.Common.{refl}
use Rattle.std.proofs.lemmas.Bool.{false≢true}
use Rattle.std.proofs.lemmas.Result.{err_from_is_err_and}
use Rattle.fy_c.specs.Making.{NoBegin}
use Rattle.fy_answers.proofs.Entering.{has_room}
use Rattle.fy_c.proofs.storing.begin_of.Goals as goal

pub returns-then-payload-gt-MOST_PAYLOAD-clause-not_given :
    goal.returns-then-payload-gt-MOST_PAYLOAD-clause-not_given
returns-then-payload-gt-MOST_PAYLOAD-clause-not_given c =
    NoBegin.too_long c.if-payload-gt-MOST_PAYLOAD.true

pub returns-then-is_full-clause-not_given : goal.returns-then-is_full-clause-not_given
returns-then-is_full-clause-not_given c =
    NoBegin.full c.if-payload-gt-MOST_PAYLOAD.false (c.if-is_full.ensures.0 refl)

pub returns-in_err-payload-clause-not_given : goal.returns-in_err-payload-clause-not_given
returns-in_err-payload-clause-not_given c =
    let p = err_from_is_err_and c.from_residual.result c.from_residual.ensures.1 in
    rw (p.1, p.2)
    (NoBegin.no_memory c.if-payload-gt-MOST_PAYLOAD.false
    (has_room c.args.cluster.now (λ full. absurd (false≢true (c.if-is_full.ensures.1 full)))))
