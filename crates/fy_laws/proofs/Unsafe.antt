-- after which journals the cluster isn't safe
use Rattle.std.proofs.Common.{ℕ, ◌<◌, arith, [], ◌∷◌, refl, leb-true, ltb-true}
use Rattle.std.specs.Prelude.{codes}
use Rattle.std.specs.List.{IsDistinct}
use Rattle.std.proofs.lemmas.Bool.{false≢true}
use Rattle.fy_policy.specs.Laws.{TestIsSatisfaction}
use Rattle.fy_policy.specs.Sat.{Sat}
use Rattle.fy_decide.specs.Safety.{AreSatisfied}
use Rattle.fy_cluster.specs.History.{history, destroyed, left}
use Rattle.fy_cluster.specs.Survival.{Kept}
use Rattle.fy_laws.specs.Clusters.{six, four, in_two_zones, six_processes, four_processes, process}
use Rattle.fy_laws.specs.Wrong as wrong
use Rattle.fy_laws.proofs.Played.{cluster_on_literals}

pub two_destroyed : Sat six_processes in_two_zones (destroyed (history six wrong.second_zone_killed))
unfolding Sat IsDistinct
two_destroyed = record {
  names = codes "z0" ∷ codes "z1" ∷ [];
  many = leb-true 2 2 refl;
  different = ((refl, tt), (tt, tt));
  each = (((0, refl), (0, ltb-true 0 6 refl, refl)), (((2, refl), (2, ltb-true 2 6 refl, refl)), tt));
}

pub one_left : TestIsSatisfaction → AreSatisfied four_processes (in_two_zones ∷ []) (left four (history four wrong.too_few_left)) → ⊥
unfolding cluster_on_literals
one_left law satisfied = false≢true ((law four_processes in_two_zones _).1 satisfied.0)

nothing : {n : ℕ} → n < 0 → ⊥
nothing lt = omega arith

pub first_lacks_it : Kept (history six wrong.healed_in_need) 0 → ⊥
first_lacks_it kept = nothing (kept.everyone (process 0) (0, ltb-true 0 2 refl, refl) refl).1
