use Rattle.std.proofs.Common.{◌∙◌, ap, sym}
use Rattle.std.specs.FinSet as sets
use Rattle.fy_decide.specs.Verdicts.{targets}
use Rattle.fy_decide.proofs.verdict.judge_process.Goals as goal

pub returns : goal.returns
returns c = λ order kind_is floor_is named.
    c.verdict.ensures order kind_is floor_is (λ p.
    c.process_targets.ensures.those order.target.value named.name p
    ∙ ap (λ key. targets c.args.dead.now.processes (sets.contains c.args.dead.now.left) (record { key = key; value = order.target.value }) p) (sym named.key))
