use Rattle.std.proofs.Common.{◌∙◌, ap, nat_lt, List, length}
use Rattle.fy_locality.specs.declared.locality.Locality.{Locality}
use Rattle.fy_cluster.specs.Setup.{Setup}
use Rattle.fy_c.proofs.Bits.{gone_is}
use Rattle.fy_c.proofs.sets.gone.Goals as goal

pub returns : goal.returns
returns c =
    gone_is c.args.cluster.now c.everyone.result c.left.result c.difference.result
    (λ q. c.everyone.ensures q
    ∙ ap (λ (them : List Locality). nat_lt q (length them))
    (c.map.ensures ∙ ap (λ (setup : Setup). setup.processes) c.config.ensures))
    c.left.ensures c.difference.ensures
