use Rattle.std.proofs.Common.{◌∙◌, sym}
use Rattle.fy_decide.proofs.Judging.{untargeted_too, many_too}
use Rattle.fy_decide.proofs.verdict.bars_too.Goals as goal

pub returns-in-NoTarget : goal.returns-in-NoTarget
returns-in-NoTarget c = λ _ situation other s barred. untargeted_too situation s other c.args.kind c.args.rule c.in-NoTarget.is barred

pub returns-in-TooManyDestroyed : goal.returns-in-TooManyDestroyed
returns-in-TooManyDestroyed c = λ destroys situation other s barred. many_too situation s other c.args.kind c.args.rule _ c.in-TooManyDestroyed.is (sym c.is_destroying.ensures ∙ destroys) barred
