use Rattle.std.proofs.Common.{ap₂, sym, ◌∙◌}
use Rattle.fy_decide.specs.Safety.{first_unmet}
use Rattle.fy_cluster.proofs.Starting.{not_unmet}
use Rattle.fy_cluster.proofs.opening.nobody_destroyed.Goals as goal

pub unreachable-requires : goal.unreachable-requires
unreachable-requires c =
    not_unmet c.in-Err-Unmet.field-0-0 (sym c.in-Err-Unmet.field-0-is ∙ c.in-Err-Unmet.ensures.memory (ap₂ first_unmet c.map.ensures c.policies.ensures ∙ c.none_unmet.ensures c.args.config.now c.invariant.ensures.met))
