use Rattle.std.proofs.Common.{◌&&◌, ◌∙◌, ap, ap₂, List}
use Rattle.std.specs.Cmp.{nat_cmp_total}
use Rattle.std.specs.FinSet as sets
use Rattle.fy_locality.specs.Locality.{has_value}
use Rattle.fy_locality.specs.declared.locality.Locality.{Locality}
use Rattle.fy_cluster.specs.Setup.{Setup}
use Rattle.fy_questions.proofs.states.targets.Goals as goal

pub returns : goal.returns
returns c p =
    ap (λ s. sets.contains s p) c.intersection.ensures
    ∙ sets.contains-intersection nat_cmp_total c.left.result c.members-members.result p
    ∙ ap₂ (λ a b. a && b) (c.left.ensures p)
    (c.members-members.ensures p
    ∙ ap (λ (them : List Locality). has_value them c.args.target.now.key c.args.target.now.value p)
    (c.map.ensures ∙ ap (λ (setup : Setup). setup.processes) c.config.ensures))
