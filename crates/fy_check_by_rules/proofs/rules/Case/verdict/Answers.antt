use Rattle.fy_decide.specs.Verdicts.{targets}
use Rattle.std.proofs.Common.{◌∙◌, ap}
use Rattle.std.specs.FinSet as sets
use Rattle.fy_check_by_rules.specs.Cases.{situation_of}
use Rattle.fy_check_by_rules.proofs.Ruling.{judged}
use Rattle.fy_check_by_rules.proofs.rules.Case.verdict.Goals as goal

pub returns : goal.returns
returns c =
    let situation = situation_of c.args.self.now in
    judged situation c.args.order.now (sets.contains c.targets-targets.result) c.kind.result _ _
    (λ p. c.targets-targets.ensures p ∙ ap (λ target. targets situation.processes situation.left target p) c.target.ensures)
    c.kind.ensures.kind c.in_ok-struck.ensures c.in_ok-rule.ensures
