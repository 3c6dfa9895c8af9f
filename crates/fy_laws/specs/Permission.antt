-- journals of grants and protections: who may do what to whom
use Rattle.std.specs.Prelude.{ℕ, true, List, [], ◌∷◌, Some, codes, replicate}
use Rattle.fy_locality.specs.declared.key.Key.TheVariants.{DataHall}
use Rattle.fy_kinds.specs.declared.kind.Kind.TheVariants.{RebootProcess, Reboot, RebootAndDelete, KillInstantly}
use Rattle.fy_kinds.specs.declared.kind_set.KindSet.{KindSet}
use Rattle.fy_kinds.specs.declared.verdict.Rule.TheVariants.{NoTarget, NoGrant, Protected, TooManyDestroyed}
use Rattle.fy_kinds.specs.Kinds.{Striking, Clogging, only, no_deed}
use Rattle.fy_grants.specs.declared.grant.Grant.{Grant}
use Rattle.fy_grants.specs.declared.grant.Scope.{Scope}
use Rattle.fy_grants.specs.declared.grant.Scope.TheVariants.{All, Where}
use Rattle.fy_acts.specs.declared.act.Act.TheVariants.{Clog, Give, Take, Protect, Unprotect}
use Rattle.fy_acts.specs.declared.reply.Refusal.TheVariants.{NoSuch, Full}
use Rattle.fy_acts.specs.declared.reply.Reply.TheVariants.{Ruled, Done, No}
use Rattle.fy_acts.specs.declared.entry.Entry.{Entry}
use Rattle.fy_cluster.specs.Setup.{Setup}
use Rattle.fy_laws.specs.Clusters.{six, guarded_six, entry, process, zone_named, process_named, kill, empty, reboot, reboot_or_restart, struck, weakened, barred}

-- the kinds that destroy
abbrev pub destroying : KindSet
destroying = record no_deed { reboot_and_delete = true; kill_instantly = true }

-- reboots alone
abbrev pub rebooting : KindSet
rebooting = only (Striking Reboot)

-- restarts alone
abbrev pub restarting : KindSet
restarting = only (Striking RebootProcess)

-- clogging alone
abbrev pub clogging : KindSet
clogging = only Clogging

-- permission of the actor without grants
abbrev pub permission : KindSet → Scope → Grant
permission kinds scope = record { actor = 3; kinds = kinds; scope = scope }

-- a protected process is only rebooted, with its zone; whoever has no grant is told of that first
abbrev pub protected : List Entry
protected =
    entry 0 4 (Protect (process 1) destroying) Done
    ∷ entry 1 1 (kill (zone_named (codes "z0"))) (weakened Reboot (Protected (process 1)))
    ∷ entry 2 3 (kill (zone_named (codes "z0"))) (barred (NoGrant (process 0)))
    ∷ entry 3 3 (kill (process_named (codes "p1"))) (barred (NoGrant (process 1)))
    ∷ []

-- replication bars a kill of a second zone; on the same order a missing grant is named first, and
-- so is a protection
abbrev pub first_of_the_rules : List Entry
first_of_the_rules =
    entry 0 1 (empty (process_named (codes "p0"))) (struck RebootAndDelete)
    ∷ entry 1 1 (kill (zone_named (codes "z1"))) (weakened Reboot (TooManyDestroyed 0))
    ∷ entry 2 3 (kill (zone_named (codes "z1"))) (barred (NoGrant (process 2)))
    ∷ entry 3 4 (Protect (process 3) destroying) Done
    ∷ entry 4 1 (kill (zone_named (codes "z1"))) (weakened Reboot (Protected (process 3)))
    ∷ []

-- a grant is given and taken, and a protection made and ended; nobody is in a hall
abbrev pub given_and_taken : List Entry
given_and_taken =
    entry 0 4 (Give (permission rebooting All)) Done
    ∷ entry 1 3 (reboot_or_restart (process_named (codes "p0"))) (struck Reboot)
    ∷ entry 2 4 (Take 3 0) Done
    ∷ entry 3 4 (Take 3 0) (No NoSuch)
    ∷ entry 4 3 (reboot_or_restart (process_named (codes "p0"))) (barred (NoGrant (process 0)))
    ∷ entry 5 4 (Protect (process 1) rebooting) Done
    ∷ entry 6 1 (reboot_or_restart (zone_named (codes "z0")))
    (weakened RebootProcess (Protected (process 1)))
    ∷ entry 7 4 (Unprotect (process 1) rebooting) Done
    ∷ entry 8 1 (kill (record { key = DataHall; value = codes "h0" })) (barred NoTarget)
    ∷ []

-- of three grants the second is taken twice, and the list closes up each time; then there is no
-- second one
abbrev pub closed_up : List Entry
closed_up =
    entry 0 4 (Give (permission rebooting All)) Done
    ∷ entry 1 4 (Give (permission restarting All)) Done
    ∷ entry 2 4 (Give (permission clogging All)) Done
    ∷ entry 3 4 (Take 3 1) Done
    ∷ entry 4 3 (reboot_or_restart (process_named (codes "p0"))) (struck Reboot)
    ∷ entry 5 4 (Take 3 1) Done
    ∷ entry 6 4 (Take 3 1) (No NoSuch)
    ∷ entry 7 3 (Clog (process_named (codes "p0")) 5) (Ruled (Some (NoGrant (process 0))))
    ∷ []

-- a grant for a zone covers its processes alone
abbrev pub one_zone_granted : List Entry
one_zone_granted =
    entry 0 4 (Give (permission rebooting (Where (zone_named (codes "z0"))))) Done
    ∷ entry 1 3 (reboot (zone_named (codes "z0")) 0) (struck Reboot)
    ∷ entry 2 3 (reboot (zone_named (codes "z1")) 0) (barred (NoGrant (process 2)))
    ∷ []

-- of a protection from two kinds the one that is ended is gone, and the other stays
abbrev pub half_unprotected : List Entry
half_unprotected =
    entry 0 4 (Protect (process 1) destroying) Done
    ∷ entry 1 4 (Unprotect (process 1) (only (Striking KillInstantly))) Done
    ∷ entry 2 1 (kill (process_named (codes "p1"))) (struck KillInstantly)
    ∷ []

-- the second process is protected from the start, by two lines of the setup
abbrev pub guarded : Setup
guarded =
    guarded_six (record { process = process 1; kinds = destroying }
    ∷ record { process = process 1; kinds = rebooting } ∷ [])

-- both lines count, and one kind is taken out
abbrev pub protected_from_the_start : List Entry
protected_from_the_start =
    entry 0 1 (kill (zone_named (codes "z0"))) (barred (Protected (process 1)))
    ∷ entry 1 4 (Unprotect (process 1) rebooting) Done
    ∷ entry 2 1 (kill (zone_named (codes "z0"))) (weakened Reboot (Protected (process 1)))
    ∷ []

-- the six, with so many grants
abbrev pub granted : ℕ → Setup
granted n = record six { grants = replicate n (permission rebooting All) }

-- one more than 4095 grants is given, and no further one to anybody
abbrev pub full_of_grants : List Entry
full_of_grants =
    entry 0 4 (Give (permission restarting All)) Done
    ∷ entry 1 4 (Give (record { actor = 2; kinds = restarting; scope = All })) (No Full)
    ∷ entry 2 4 (Take 3 0) Done
    ∷ entry 3 4 (Give (permission restarting All)) Done
    ∷ []
