-- the clusters of the worked journals, and short words for what stands in a journal
use Rattle.std.specs.Prelude.{ℕ, ◌≤◌, true, false, List, [], ◌∷◌, Some, None, codes, filter, Bool}
use Rattle.std.proofs.lemmas.Bool.{leb-true}
use Rattle.std.proofs.Common.{refl}
use Rattle.fy_locality.specs.declared.ProcId.{ProcId}
use Rattle.fy_locality.specs.declared.locality.Locality.{Locality}
use Rattle.fy_locality.specs.declared.key.Key.TheVariants.{Process, Zone}
use Rattle.fy_policy.specs.Tree.{Tree, one, across}
use Rattle.fy_kinds.specs.declared.kind.Kind.{Kind}
use Rattle.fy_kinds.specs.declared.kind.Kind.TheVariants.{RebootProcess, Reboot, RebootAndDelete, KillInstantly}
use Rattle.fy_kinds.specs.declared.kind_set.KindSet.{KindSet}
use Rattle.fy_kinds.specs.declared.order.Target.{Target}
use Rattle.fy_kinds.specs.declared.verdict.Rule.{Rule}
use Rattle.fy_kinds.specs.Orders.{Order}
use Rattle.fy_kinds.specs.Kinds.{rank}
use Rattle.fy_grants.specs.declared.grant.Scope.TheVariants.{All}
use Rattle.fy_acts.specs.declared.act.Act.{Act}
use Rattle.fy_acts.specs.declared.act.Act.TheVariants.{Kill, CopyTo, Replace, Heal}
use Rattle.fy_acts.specs.declared.reply.Reply.{Reply}
use Rattle.fy_acts.specs.declared.reply.Reply.TheVariants.{Verdict}
use Rattle.fy_acts.specs.declared.entry.Entry.{Entry}
use Rattle.fy_cluster.specs.declared.config.Protection.{Protection}
use Rattle.fy_cluster.specs.declared.role.Role.TheVariants.{Fault, Storage, Operator}
use Rattle.fy_cluster.specs.Setup.{Setup}

-- ---- clusters

-- a process on a machine of its own, in a zone and without a hall
abbrev pub located : (process machine zone : List ℕ) → Locality
located process machine zone =
    record {
      process = process;
      machine = machine;
      zone = zone;
      data_hall = None;
      data_center = Some (codes "d0");
    }

-- four processes in two zones
abbrev pub four_processes : List Locality
four_processes =
    located (codes "p0") (codes "m0") (codes "z0")
    ∷ located (codes "p1") (codes "m1") (codes "z0")
    ∷ located (codes "p2") (codes "m2") (codes "z1")
    ∷ located (codes "p3") (codes "m3") (codes "z1")
    ∷ []

-- six processes in three zones
abbrev pub six_processes : List Locality
six_processes =
    located (codes "p0") (codes "m0") (codes "z0")
    ∷ located (codes "p1") (codes "m1") (codes "z0")
    ∷ located (codes "p2") (codes "m2") (codes "z1")
    ∷ located (codes "p3") (codes "m3") (codes "z1")
    ∷ located (codes "p4") (codes "m4") (codes "z2")
    ∷ located (codes "p5") (codes "m5") (codes "z2")
    ∷ []

-- every kind of kill, and clogging
abbrev pub every_kind : KindSet
every_kind =
    record {
      reboot_process = true;
      reboot = true;
      reboot_and_delete = true;
      kill_instantly = true;
      clog = true;
    }

-- kill for good and reboot
abbrev pub kill_and_reboot : KindSet
kill_and_reboot =
    record {
      reboot_process = false;
      reboot = true;
      reboot_and_delete = false;
      kill_instantly = true;
      clog = false;
    }

-- actor 0 stores, 1 may do all, 2 may kill and reboot, 3 has no grant, 4 operates
abbrev pub cluster : List Locality → Tree → ℕ → Setup
cluster processes policy limit = record {
  processes = processes;
  policies = policy ∷ [];
  roles = Storage ∷ Fault ∷ Fault ∷ Fault ∷ Operator ∷ [];
  grants =
      record { actor = 1; kinds = every_kind; scope = All }
      ∷ record { actor = 2; kinds = kill_and_reboot; scope = All } ∷ [];
  protections = [];
  limit = limit;
}

-- a process in each of two zones
abbrev pub in_two_zones : Tree
in_two_zones = across 2 Zone one

-- six processes in three zones, with a policy of two zones
abbrev pub six : Setup
six = cluster six_processes in_two_zones 1000

-- four processes in two zones, with the same policy
abbrev pub four : Setup
four = cluster four_processes in_two_zones 1000

-- the same four, where one process is enough
abbrev pub four_of_one : Setup
four_of_one = cluster four_processes one 1000

-- those of the first six processes that are in a set
abbrev pub members : (ℕ → Bool) → List ℕ
members s = filter s (0 ∷ 1 ∷ 2 ∷ 3 ∷ 4 ∷ 5 ∷ [])

-- ---- what stands in a journal

-- the entry at a place, by an actor
abbrev pub entry : (at by : ℕ) → Act → Reply → Entry
entry at by act reply = record { at = at; by = by; act = act; reply = reply }

-- the process with a number
abbrev pub process : ℕ → ProcId
process p = record { 0 = p }

-- all processes of a zone
abbrev pub zone_named : List ℕ → Target
zone_named name = record { key = Zone; value = name }

-- one process
abbrev pub process_named : List ℕ → Target
process_named name = record { key = Process; value = name }

-- an order to kill; the floor isn't above the kind
abbrev pub order : Target → (kind floor : Kind) → rank floor ≤ rank kind → ℕ → Order
order target kind floor ordered tear =
    record { target = target; kind = kind; floor = floor; tear = tear; ordered = ordered }

-- kill for good, or else down to a reboot
abbrev pub kill_order : Target → Order
kill_order target = order target KillInstantly Reboot (leb-true 1 3 refl) 0

-- the act of that order
abbrev pub kill : Target → Act
kill target = Kill (kill_order target)

-- kill for good, or else nothing
abbrev pub kill_or_nothing : Target → Act
kill_or_nothing target = Kill (order target KillInstantly KillInstantly (leb-true 3 3 refl) 0)

-- reboot and empty the disk, or else only reboot, by these bits
abbrev pub empty_or_tear : Target → ℕ → Act
empty_or_tear target tear = Kill (order target RebootAndDelete Reboot (leb-true 1 2 refl) tear)

-- the same, where a reboot keeps no unsynced write
abbrev pub empty : Target → Act
empty target = empty_or_tear target 0

-- reboot, the bits of tear saying which unsynced writes stay
abbrev pub reboot : Target → ℕ → Act
reboot target tear = Kill (order target Reboot Reboot (leb-true 1 1 refl) tear)

-- reboot, or else only restart the process
abbrev pub reboot_or_restart : Target → Act
reboot_or_restart target = Kill (order target Reboot RebootProcess (leb-true 0 1 refl) 0)

-- restart the process
abbrev pub restart : Target → Act
restart target = Kill (order target RebootProcess RebootProcess (leb-true 0 0 refl) 0)

-- copy a record from one process to another
abbrev pub copy : (from rec to : ℕ) → Act
copy from rec to = CopyTo (process from) rec (process to)

-- put a process into a team in the place of another
abbrev pub replace : (team out into : ℕ) → Act
replace team out into = Replace team (process out) (process into)

-- heal a process
abbrev pub heal : ℕ → Act
heal p = Heal (process p)

-- struck by the kind that was ordered
abbrev pub struck : Kind → Reply
struck kind = Verdict (record { struck = Some kind; rule = None })

-- struck by a milder kind, by this rule
abbrev pub weakened : Kind → Rule → Reply
weakened kind rule = Verdict (record { struck = Some kind; rule = Some rule })

-- not struck, by this rule
abbrev pub barred : Rule → Reply
barred rule = Verdict (record { struck = None; rule = Some rule })

-- the six, with some processes protected from the start
abbrev pub guarded_six : List Protection → Setup
guarded_six protections = record six { protections = protections }

-- the six under other policies
abbrev pub six_under : List Tree → Setup
six_under policies = record six { policies = policies }
