-- journals of kills: whom the policies spare
use Rattle.std.specs.Prelude.{ℕ, List, [], ◌∷◌, ◌++◌, Option, Some, None, codes}
use Rattle.fy_locality.specs.declared.locality.Locality.{Locality}
use Rattle.fy_locality.specs.declared.key.Key.TheVariants.{Zone, DataHall}
use Rattle.fy_policy.specs.Tree.{one, across, every, none, part}
use Rattle.fy_kinds.specs.declared.kind.Kind.TheVariants.{Reboot, RebootAndDelete, KillInstantly}
use Rattle.fy_kinds.specs.declared.verdict.Rule.TheVariants.{NoTarget, TooManyDestroyed, TooFewLeft}
use Rattle.fy_kinds.specs.Orders.{Order}
use Rattle.fy_acts.specs.declared.act.Act.TheVariants.{Up}
use Rattle.fy_acts.specs.declared.reply.Reply.TheVariants.{Done}
use Rattle.fy_acts.specs.declared.entry.Entry.{Entry}
use Rattle.fy_cluster.specs.Setup.{Setup}
use Rattle.fy_laws.specs.Clusters.{six, six_under, entry, process, zone_named, process_named, kill_order, kill, kill_or_nothing, empty, reboot, struck, weakened, barred}

-- one of three zones is killed
abbrev pub one_zone : List Entry
one_zone = entry 0 1 (kill (zone_named (codes "z0"))) (struck KillInstantly) ∷ []

-- two of three zones are to be killed: the second is only rebooted
abbrev pub two_zones : List Entry
two_zones =
    one_zone ++ entry 1 1 (kill (zone_named (codes "z1"))) (weakened Reboot (TooManyDestroyed 0))
    ∷ []

-- the second order of these
abbrev pub second_kill : Order
second_kill = kill_order (zone_named (codes "z1"))

-- of two zones one is to be killed: it is only emptied, since too few would be left
abbrev pub few_left : List Entry
few_left = entry 0 1 (kill (zone_named (codes "z0"))) (weakened RebootAndDelete (TooFewLeft 0)) ∷ []

-- the same with a floor that allows nothing milder
abbrev pub few_left_and_nothing_milder : List Entry
few_left_and_nothing_milder =
    entry 0 1 (kill_or_nothing (zone_named (codes "z0"))) (barred (TooFewLeft 0)) ∷ []

-- where one process satisfies the policy, none is emptied
abbrev pub one_is_enough : List Entry
one_is_enough =
    entry 0 1 (empty (process_named (codes "p0"))) (weakened Reboot (TooManyDestroyed 0)) ∷ []

-- an actor without a grant to empty: the kill is weakened by two steps, and the rule is that of the
-- ordered kind
abbrev pub few_left_and_no_grant_to_empty : List Entry
few_left_and_no_grant_to_empty =
    entry 0 2 (kill (zone_named (codes "z0"))) (weakened Reboot (TooFewLeft 0)) ∷ []

-- an emptied process comes back, and is destroyed still: no other zone is emptied
abbrev pub back_and_destroyed : List Entry
back_and_destroyed =
    entry 0 1 (empty (process_named (codes "p0"))) (struck RebootAndDelete)
    ∷ entry 1 0 (Up (process 0)) Done
    ∷ entry 2 1 (empty (zone_named (codes "z1"))) (weakened Reboot (TooManyDestroyed 0))
    ∷ []

-- one of a zone is emptied and the other killed, since the emptied one is left; nothing but the
-- emptied one is a target then
abbrev pub emptied_is_left : List Entry
emptied_is_left =
    entry 0 1 (empty (process_named (codes "p0"))) (struck RebootAndDelete)
    ∷ entry 1 1 (kill (process_named (codes "p1"))) (struck KillInstantly)
    ∷ entry 2 1 (reboot (process_named (codes "p1")) 0) (barred NoTarget)
    ∷ entry 3 1 (kill (zone_named (codes "z0"))) (weakened RebootAndDelete (TooFewLeft 0))
    ∷ []

-- one of a zone is killed, and the other only emptied, since the killed one isn't left
abbrev pub killed_is_not_left : List Entry
killed_is_not_left =
    entry 0 1 (kill (process_named (codes "p0"))) (struck KillInstantly)
    ∷ entry 1 1 (kill (process_named (codes "p1"))) (weakened RebootAndDelete (TooFewLeft 0))
    ∷ []

-- a process in each of three zones, and beside it both two zones and someone
abbrev pub three_and_two : Setup
three_and_two =
    six_under (across 3 Zone one ∷ every (part (across 2 Zone one) (part one none)) ∷ [])

-- each rule names the first policy by which it bars
abbrev pub two_policies : List Entry
two_policies =
    entry 0 1 (kill (zone_named (codes "z0"))) (weakened RebootAndDelete (TooFewLeft 0))
    ∷ entry 1 1 (kill (zone_named (codes "z1"))) (weakened Reboot (TooManyDestroyed 1))
    ∷ []

-- a process on a machine of its own, in a zone of its own
abbrev pub in_hall : List ℕ → Option (List ℕ) → Locality
in_hall name hall =
    record { process = name; machine = name; zone = name; data_hall = hall; data_center = None }

-- three processes are in a hall of their own each, and three in none; there have to be two halls
abbrev pub halls : Setup
halls = record six {
  processes =
      in_hall (codes "p0") (Some (codes "h0"))
      ∷ in_hall (codes "p1") None
      ∷ in_hall (codes "p2") (Some (codes "h1"))
      ∷ in_hall (codes "p3") None
      ∷ in_hall (codes "p4") (Some (codes "h2"))
      ∷ in_hall (codes "p5") None
      ∷ [];
  policies = across 2 DataHall one ∷ [];
}

-- those in no hall may all be killed; of the halls one
abbrev pub no_hall : List Entry
no_hall =
    entry 0 1 (kill (process_named (codes "p1"))) (struck KillInstantly)
    ∷ entry 1 1 (kill (process_named (codes "p3"))) (struck KillInstantly)
    ∷ entry 2 1 (kill (process_named (codes "p5"))) (struck KillInstantly)
    ∷ entry 3 1 (kill (process_named (codes "p0"))) (struck KillInstantly)
    ∷ entry 4 1 (kill (process_named (codes "p2"))) (weakened Reboot (TooManyDestroyed 0))
    ∷ []
