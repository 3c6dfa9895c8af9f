use Rattle.std.proofs.Common.{◌<◌, length, ◌∙◌, ap, rules}
use Rattle.std.specs.FinSet as sets
use Rattle.fy_check_by_rules.proofs.Within.{known_put}
use Rattle.fy_check_by_rules.proofs.policies.with_known.Goals as goal

pub returns-then-p-len : goal.returns-then-p-len
returns-then-p-len c = λ q.
    let known : c.args.p.0 < length c.args.map.now = search rules in
    ap (λ s. sets.contains s q) c.put.ensures ∙ known_put c.args.set c.args.p.0 q (length c.args.map.now) known
