use Rattle.std.proofs.Common.{◌∙◌, ap, List}
use Rattle.fy_locality.specs.Locality.{has_value}
use Rattle.fy_locality.specs.declared.locality.Locality.{Locality}
use Rattle.fy_cluster.specs.Setup.{Setup}
use Rattle.fy_c.proofs.Bits.{targets_are}
use Rattle.fy_c.proofs.sets.found.Goals as goal

pub returns : goal.returns
returns c =
    targets_are c.args.cluster.now c.args.target.now c.members.result c.left.result
    c.intersection.result
    (λ q. c.members.ensures q
    ∙ ap (λ (them : List Locality).
    has_value them c.args.target.now.key c.args.target.now.value q)
    (c.map.ensures ∙ ap (λ (setup : Setup). setup.processes) c.config.ensures))
    c.left.ensures c.intersection.ensures
