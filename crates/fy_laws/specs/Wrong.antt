-- journals that aren't legal: each is a legal one with one thing turned
use Rattle.std.specs.Prelude.{true, false, List, [], ◌∷◌, ◌++◌, codes}
use Rattle.fy_kinds.specs.declared.kind.Kind.TheVariants.{Reboot, RebootAndDelete, KillInstantly}
use Rattle.fy_kinds.specs.declared.verdict.Rule.TheVariants.{NoGrant, Protected, TooManyDestroyed}
use Rattle.fy_grants.specs.declared.grant.Scope.TheVariants.{Where}
use Rattle.fy_acts.specs.declared.act.Act.TheVariants.{Form, Begin, Deliver, Resend, Up, Tick, Give, Protect}
use Rattle.fy_acts.specs.declared.reply.Refusal.TheVariants.{Acked}
use Rattle.fy_acts.specs.declared.reply.Reply.TheVariants.{Formed, Begun, Stored, Marked, Sent, Time, Done, No}
use Rattle.fy_acts.specs.declared.entry.Entry.{Entry}
use Rattle.fy_cluster.specs.Setup.{Setup}
use Rattle.fy_laws.specs.Clusters.{entry, process, zone_named, process_named, kill, empty, reboot, copy, replace, heal, struck, weakened, barred, cluster, six_processes, in_two_zones}
use Rattle.fy_laws.specs.Permission.{permission, destroying, rebooting}
use Rattle.fy_laws.specs.Targets.{data_center_named}
use Rattle.fy_laws.specs.Records.{pair, hi, written_and_synced, forgotten}
use Rattle.fy_laws.specs.Messages.{begun}
use Rattle.fy_laws.specs.Healed.{healed, sent_and_healed, marked_and_healed}
use Rattle.fy_laws.specs.Replaced.{all_marked}

-- the second zone is killed too
abbrev pub second_zone_killed : List Entry
second_zone_killed =
    entry 0 1 (kill (zone_named (codes "z0"))) (struck KillInstantly)
    ∷ entry 1 1 (kill (zone_named (codes "z1"))) (struck KillInstantly)
    ∷ []

-- the second entry has the third place
abbrev pub place_left_out : List Entry
place_left_out =
    entry 0 1 (kill (zone_named (codes "z0"))) (struck KillInstantly)
    ∷ entry 2 1 (kill (zone_named (codes "z1"))) (weakened Reboot (TooManyDestroyed 0))
    ∷ []

-- who has a grant is told that it has none
abbrev pub grant_overlooked : List Entry
grant_overlooked =
    entry 0 4 (Protect (process 1) destroying) Done
    ∷ entry 1 1 (kill (zone_named (codes "z0"))) (weakened Reboot (NoGrant (process 0)))
    ∷ []

-- who has no grant is told of the protection
abbrev pub protection_named_first : List Entry
protection_named_first =
    entry 0 4 (Protect (process 1) destroying) Done
    ∷ entry 1 3 (kill (zone_named (codes "z0"))) (barred (Protected (process 1)))
    ∷ []

-- who has no grant is told of replication
abbrev pub replication_before_grant : List Entry
replication_before_grant =
    entry 0 1 (empty (process_named (codes "p0"))) (struck RebootAndDelete)
    ∷ entry 1 3 (kill (zone_named (codes "z1"))) (barred (TooManyDestroyed 0))
    ∷ []

-- of a protected process replication is told
abbrev pub replication_before_protection : List Entry
replication_before_protection =
    entry 0 1 (empty (process_named (codes "p0"))) (struck RebootAndDelete)
    ∷ entry 1 4 (Protect (process 3) destroying) Done
    ∷ entry 2 1 (kill (zone_named (codes "z1"))) (weakened Reboot (TooManyDestroyed 0))
    ∷ []

-- a data centre is killed that has a process in each of two zones
abbrev pub two_zones_by_data_center : List Entry
two_zones_by_data_center = entry 0 1 (kill (data_center_named (codes "d1"))) (struck KillInstantly) ∷ []

-- one grant covers a data centre of which it covers a part
abbrev pub covered_in_part : List Entry
covered_in_part =
    entry 0 4 (Give (permission rebooting (Where (zone_named (codes "z1"))))) Done
    ∷ entry 1 3 (reboot (data_center_named (codes "d1")) 0) (struck Reboot)
    ∷ []

-- the first message has number 1
abbrev pub number_left_out : List Entry
number_left_out = entry 0 0 (Form pair 0) (Formed 0) ∷ entry 1 0 (Begin 0 hi) (Begun 0 1) ∷ []

-- a store that arrives counts as a word
abbrev pub marked_unsynced : List Entry
marked_unsynced = begun ++ entry 2 0 (Deliver 0) (Marked false) ∷ []

-- a word is delivered that nobody has sent
abbrev pub ack_never_sent : List Entry
ack_never_sent = begun ++ entry 2 0 (Deliver 0) Stored ∷ entry 3 0 (Deliver 2) (Marked false) ∷ []

-- an acknowledged record is sent again
abbrev pub sent_though_acknowledged : List Entry
sent_though_acknowledged = written_and_synced ++ entry 9 0 (Resend 0 (process 2)) (Sent 4) ∷ []

-- one of two zones is killed, so that too few are left
abbrev pub too_few_left : List Entry
too_few_left = entry 0 1 (kill (zone_named (codes "z0"))) (struck KillInstantly) ∷ []

-- ---- copies, replaced members and healing

-- a heal keeps the mark of a record that isn't acknowledged
abbrev pub mark_kept : List Entry
mark_kept = marked_and_healed ++ entry 10 0 (Deliver 3) (Marked true) ∷ []

-- a heal keeps the word that was sent before
abbrev pub ack_kept : List Entry
ack_kept = sent_and_healed ++ entry 7 0 (Deliver 2) (Marked false) ∷ []

-- who lacks an acknowledged record is healed
abbrev pub healed_in_need : List Entry
healed_in_need = forgotten ++ entry 10 0 (Up (process 0)) Done ∷ entry 11 0 (heal 0) Done ∷ []

-- who lacks it comes into the team
abbrev pub replaced_in_need : List Entry
replaced_in_need = forgotten ++ entry 10 0 (replace 0 0 1) Done ∷ []

-- a member comes in another's place
abbrev pub replaced_by_member : List Entry
replaced_by_member = forgotten ++ entry 10 0 (replace 0 0 2) Done ∷ []

-- the team is short then
abbrev pub replaced_short : List Entry
replaced_short = forgotten ++ entry 10 0 (replace 0 0 3) Done ∷ []

-- a replaced member makes a record acknowledged
abbrev pub acknowledged_by_replace : List Entry
acknowledged_by_replace = all_marked ++ entry 10 0 (Resend 0 (process 0)) (No Acked) ∷ []

-- a record is copied by who hasn't it
abbrev pub copied_from_nothing : List Entry
copied_from_nothing = forgotten ++ entry 10 0 (copy 3 0 1) (Sent 4) ∷ []

-- a record is copied by who is down
abbrev pub copied_while_down : List Entry
copied_while_down =
    forgotten
    ++ entry 10 1 (reboot (process_named (codes "p2")) 0) (struck Reboot)
    ∷ entry 11 0 (copy 2 0 1) (Sent 4)
    ∷ []

-- who is healed counts as destroyed still
abbrev pub healed_and_counted : List Entry
healed_and_counted =
    healed
    ++ entry 16 1 (empty (process_named (codes "p2"))) (weakened Reboot (TooManyDestroyed 0)) ∷ []

-- who is up again and was never healed counts no more
abbrev pub back_and_not_counted : List Entry
back_and_not_counted =
    forgotten
    ++ entry 10 0 (Up (process 0)) Done
    ∷ entry 11 1 (empty (process_named (codes "p2"))) (struck RebootAndDelete)
    ∷ []

-- ---- a journal that is too long

-- a cluster whose journal may have one entry
abbrev pub short_lived : Setup
short_lived = cluster six_processes in_two_zones 1

-- two entries
abbrev pub two_ticks : List Entry
two_ticks = entry 0 0 (Tick 1) (Time 1) ∷ entry 1 0 (Tick 1) (Time 2) ∷ []
