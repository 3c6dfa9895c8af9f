use Rattle.std.proofs.Common.{◌∙◌, ap}
use Rattle.fy_kinds.specs.Kinds.{Clogging}
use Rattle.fy_decide.specs.Verdicts.{bar}
use Rattle.fy_check_by_rules.specs.Cases.{situation_of}
use Rattle.fy_check_by_rules.proofs.rules.Case.clog_bar.Goals as goal

pub returns : goal.returns
returns c =
    c.in_ok-rule.ensures ∙ ap (bar (situation_of c.args.self.now) Clogging) (λ i p. c.targets-targets.ensures p i)
