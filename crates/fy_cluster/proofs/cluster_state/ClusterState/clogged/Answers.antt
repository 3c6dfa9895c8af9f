use Rattle.std.proofs.Common.{◌≡◌, subst}
use Rattle.std.specs.FinSet as sets
use Rattle.fy_cluster.specs.Execution.{Execution, history_of}
use Rattle.fy_cluster.specs.History.{history}
use Rattle.fy_cluster.specs.Sights.{clogged_in}
use Rattle.fy_cluster.proofs.Shown.{clogged_is}
use Rattle.fy_cluster.proofs.cluster_state.ClusterState.clogged.Goals as goal

pub returns : goal.returns
returns c p =
    subst (λ (it : Execution). sets.contains c.all_clogged.result p ≡ clogged_in it.setup (history_of it) p) c.self.view_is
    (clogged_is c.self.inside.config (history c.self.inside.config c.self.inside.trail) c.self.inside.machine c.self.invariant.stands c.all_clogged.result c.all_clogged.ensures p)
