use Rattle.std.proofs.Common.{◌||◌, ◌∙◌, ap}
use Rattle.std.specs.FinSet as sets
use Rattle.fy_decide.specs.Safety.{first_satisfied}
use Rattle.std.specs.Cmp.{nat_cmp_total}
use Rattle.fy_check_by_rules.proofs.rules.Case.too_many.Goals as goal

pub returns : goal.returns
returns c =
    let setup = c.args.self.now.before.now.config.now in
    c.first_satisfied.ensures
    ∙ ap (first_satisfied setup.processes setup.policies)
    (λ i q. (ap (λ s. sets.contains s q) c.union-both.ensures ∙ sets.contains-union nat_cmp_total c.destroyed.result c.args.targets.now q ∙ ap (λ b. b || sets.contains c.args.targets.now q) (c.destroyed.ensures q)) i)
