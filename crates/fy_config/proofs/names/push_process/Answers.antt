use Rattle.std.proofs.Common.{◌∙◌, not, Err, ap, sym}
use Rattle.fy_config.specs.Named.{is_bad_given}
use Rattle.fy_config.proofs.Mapped.{pushed_good, refused_bad}
use Rattle.fy_config.proofs.names.push_process.Goals as goal

pub returns-in-Ok-clause-good : goal.returns-in-Ok-clause-good
returns-in-Ok-clause-good c =
    sym (ap (λ p. not (is_bad_given c.args.map.now p)) c.in-Some.is
    ∙ ap not (pushed_good c.values_occur.ensures c.args.map.now c.in-Some.process _ _ c.push.ensures.refused c.in-Ok.is))

pub returns-in-Err-Twice-clause-good : goal.returns-in-Err-Twice-clause-good
returns-in-Err-Twice-clause-good c =
    sym (ap (λ p. not (is_bad_given c.args.map.now p)) c.in-Some.is
    ∙ ap not (refused_bad c.values_occur.ensures c.args.map.now c.in-Some.process _ c.requires c.push.ensures.memory
    (c.in-Err-Twice.is ∙ ap Err c.in-Err-Twice.field-0-is)))
