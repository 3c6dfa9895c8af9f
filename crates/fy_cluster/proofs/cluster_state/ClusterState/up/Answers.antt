use Rattle.std.proofs.Common.{◌≡◌, ◌∙◌, ap, subst, nat_lt, List, length}
use Rattle.std.specs.FinSet as sets
use Rattle.fy_locality.specs.declared.locality.Locality.{Locality}
use Rattle.fy_cluster.specs.Execution.{Execution, history_of}
use Rattle.fy_cluster.specs.History.{history}
use Rattle.fy_cluster.specs.Sights.{up_in}
use Rattle.fy_cluster.proofs.Shown.{up_is}
use Rattle.fy_cluster.proofs.cluster_state.ClusterState.up.Goals as goal

pub returns : goal.returns
returns c p =
    subst (λ (it : Execution). sets.contains c.intersection.result p ≡ up_in it.setup (history_of it) p) c.self.view_is
    (up_is c.self.inside.config (history c.self.inside.config c.self.inside.trail) c.self.inside.machine c.self.invariant.stands c.everyone.result c.intersection.result
    (λ q. c.everyone.ensures q ∙ ap (λ (them : List Locality). nat_lt q (length them)) c.map.ensures) c.intersection.ensures p)
