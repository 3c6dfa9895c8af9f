-- the policy of two zones is within its limits, and met: there is a process in each of two zones
use Rattle.std.proofs.Common.{[], ◌∷◌, refl, leb-true, ltb-true}
use Rattle.std.specs.Prelude.{codes}
use Rattle.std.specs.List.{IsDistinct}
use Rattle.fy_policy.specs.Tree.{IsPolicy}
use Rattle.fy_policy.specs.Sat.{Sat}
use Rattle.fy_decide.specs.Safety.{everyone}
use Rattle.fy_cluster.specs.Setup.{IsMet}
use Rattle.fy_laws.specs.Clusters.{six, four, in_two_zones, six_processes, four_processes}

is_policy : IsPolicy in_two_zones
is_policy = record {
  counted = (leb-true 1 2 refl, leb-true 2 1024 refl, tt);
  shallow = leb-true 2 8 refl;
  small = leb-true 2 64 refl;
}

in_zones : Sat six_processes in_two_zones (everyone six_processes)
unfolding Sat IsDistinct
in_zones = record {
  names = codes "z0" ∷ codes "z1" ∷ [];
  many = leb-true 2 2 refl;
  different = ((refl, tt), (tt, tt));
  each = (((0, refl), (0, ltb-true 0 6 refl, refl)), (((2, refl), (2, ltb-true 2 6 refl, refl)), tt));
}

pub six_is_met : IsMet six
six_is_met = ((is_policy, in_zones), tt)

four_in_zones : Sat four_processes in_two_zones (everyone four_processes)
unfolding Sat IsDistinct
four_in_zones = record {
  names = codes "z0" ∷ codes "z1" ∷ [];
  many = leb-true 2 2 refl;
  different = ((refl, tt), (tt, tt));
  each = (((0, refl), (0, ltb-true 0 4 refl, refl)), (((2, refl), (2, ltb-true 2 4 refl, refl)), tt));
}

pub four_is_met : IsMet four
four_is_met = ((is_policy, four_in_zones), tt)
