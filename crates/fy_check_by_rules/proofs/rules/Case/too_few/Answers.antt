use Rattle.std.proofs.Common.{◌&&◌, not, ◌∙◌, ap}
use Rattle.std.specs.FinSet as sets
use Rattle.fy_decide.specs.Safety.{first_short}
use Rattle.std.specs.Cmp.{nat_cmp_total}
use Rattle.fy_check_by_rules.proofs.rules.Case.too_few.Goals as goal

pub returns : goal.returns
returns c =
    let setup = c.args.self.now.before.now.config.now in
    c.first_short.ensures
    ∙ ap (first_short setup.processes setup.policies)
    (λ i q. (ap (λ s. sets.contains s q) c.difference-rest.ensures ∙ sets.contains-difference nat_cmp_total c.left.result c.args.targets.now q ∙ ap (λ b. b && not (sets.contains c.args.targets.now q)) (c.left.ensures q)) i)
