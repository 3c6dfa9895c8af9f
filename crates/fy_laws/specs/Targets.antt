-- journals of orders at machines and data centres, whose processes lie in several zones
use Rattle.std.specs.Prelude.{ℕ, List, [], ◌∷◌, Option, Some, None, codes}
use Rattle.fy_locality.specs.declared.locality.Locality.{Locality}
use Rattle.fy_locality.specs.declared.key.Key.TheVariants.{Machine, DataCenter}
use Rattle.fy_kinds.specs.declared.kind.Kind.TheVariants.{Reboot, KillInstantly}
use Rattle.fy_kinds.specs.declared.verdict.Rule.TheVariants.{NoTarget, NoGrant, TooManyDestroyed}
use Rattle.fy_kinds.specs.declared.order.Target.{Target}
use Rattle.fy_grants.specs.declared.grant.Scope.TheVariants.{Where}
use Rattle.fy_acts.specs.declared.act.Act.TheVariants.{Give, Take}
use Rattle.fy_acts.specs.declared.reply.Reply.TheVariants.{Done}
use Rattle.fy_acts.specs.declared.entry.Entry.{Entry}
use Rattle.fy_cluster.specs.Setup.{Setup}
use Rattle.fy_laws.specs.Clusters.{cluster, in_two_zones, entry, process, zone_named, kill, reboot, struck, weakened, barred}
use Rattle.fy_laws.specs.Permission.{permission, rebooting}

-- a process in no data hall
abbrev pub placed : (process machine zone : List ℕ) → Option (List ℕ) → Locality
placed process machine zone data_center = record {
  process = process;
  machine = machine;
  zone = zone;
  data_hall = None;
  data_center = data_center;
}

-- machine m1 has two of the three processes of zone z1; data centre d1 has a process in each of two
-- zones, and the last process is in none
abbrev pub two_data_centers : List Locality
two_data_centers =
    placed (codes "p0") (codes "m0") (codes "z0") (Some (codes "d0"))
    ∷ placed (codes "p1") (codes "m1") (codes "z1") (Some (codes "d0"))
    ∷ placed (codes "p2") (codes "m1") (codes "z1") (Some (codes "d0"))
    ∷ placed (codes "p3") (codes "m2") (codes "z1") (Some (codes "d1"))
    ∷ placed (codes "p4") (codes "m3") (codes "z2") (Some (codes "d1"))
    ∷ placed (codes "p5") (codes "m4") (codes "z2") None
    ∷ []

-- the actors and the policy are those of the six
abbrev pub data_centers : Setup
data_centers = cluster two_data_centers in_two_zones 1000

-- all processes of a machine
abbrev pub machine_named : List ℕ → Target
machine_named name = record { key = Machine; value = name }

-- all processes of a data centre
abbrev pub data_center_named : List ℕ → Target
data_center_named name = record { key = DataCenter; value = name }

-- a machine is killed; then each data centre that is named is only rebooted, and the third has no
-- process
abbrev pub by_machine_and_data_center : List Entry
by_machine_and_data_center =
    entry 0 1 (kill (machine_named (codes "m1"))) (struck KillInstantly)
    ∷ entry 1 1 (kill (data_center_named (codes "d1"))) (weakened Reboot (TooManyDestroyed 0))
    ∷ entry 2 1 (kill (data_center_named (codes "d0"))) (weakened Reboot (TooManyDestroyed 0))
    ∷ entry 3 1 (reboot (data_center_named (codes "d2")) 0) (barred NoTarget)
    ∷ []

-- a grant for one of two zones doesn't cover a data centre in both; a second grant does, until the
-- first is taken
abbrev pub covered_by_two_grants : List Entry
covered_by_two_grants =
    entry 0 4 (Give (permission rebooting (Where (zone_named (codes "z1"))))) Done
    ∷ entry 1 3 (reboot (data_center_named (codes "d1")) 0) (barred (NoGrant (process 4)))
    ∷ entry 2 4 (Give (permission rebooting (Where (zone_named (codes "z2"))))) Done
    ∷ entry 3 3 (reboot (data_center_named (codes "d1")) 0) (struck Reboot)
    ∷ entry 4 4 (Take 3 0) Done
    ∷ entry 5 3 (reboot (data_center_named (codes "d1")) 0) (barred (NoGrant (process 3)))
    ∷ []
