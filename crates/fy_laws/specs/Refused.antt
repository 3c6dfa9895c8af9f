-- journals of refusals
use Rattle.std.specs.Prelude.{List, [], ◌∷◌, ◌++◌, Some, codes, replicate}
use Rattle.fy_kinds.specs.declared.kind.Kind.TheVariants.{KillInstantly}
use Rattle.fy_kinds.specs.declared.verdict.Rule.TheVariants.{NoGrant}
use Rattle.fy_kinds.specs.Kinds.{no_deed}
use Rattle.fy_grants.specs.declared.grant.Scope.TheVariants.{All}
use Rattle.fy_acts.specs.declared.act.Act.TheVariants.{Clog, Unclog, Form, Begin, Deliver, Lose, Resend, Sync, Up, Tick, Give, Take, Protect, Unprotect}
use Rattle.fy_acts.specs.declared.reply.Refusal.TheVariants.{Stranger, WrongRole, NoPolicy, NoProcess, Gone, TeamShort, NoTeam, NotUp, IsUp, ClockEnd, NoActor, Payload, NoRecord, NotMember}
use Rattle.fy_acts.specs.declared.reply.Reply.TheVariants.{Ruled, Formed, Begun, Time, Done, No}
use Rattle.fy_acts.specs.declared.entry.Entry.{Entry}
use Rattle.fy_laws.specs.Clusters.{every_kind, entry, process, zone_named, process_named, kill, copy, replace, struck, barred}
use Rattle.fy_laws.specs.Records.{pair, hi, written_and_synced}

-- acts that name what isn't there, or that their actor may not make; the clock gets to its end
abbrev pub refused_before_anything : List Entry
refused_before_anything =
    entry 0 1 (Tick 1) (No WrongRole)
    ∷ entry 1 5 (kill (zone_named (codes "z0"))) (No Stranger)
    ∷ entry 2 0 (Form (process 0 ∷ process 1 ∷ []) 0) (No (TeamShort 0))
    ∷ entry 3 0 (Form (process 0 ∷ process 1 ∷ []) 1) (No NoPolicy)
    ∷ entry 4 0 (Form (process 0 ∷ process 9 ∷ []) 0) (No NoProcess)
    ∷ entry 5 0 (Begin 7 hi) (No NoTeam)
    ∷ entry 6 0 (Tick 1099511627777) (No ClockEnd)
    ∷ entry 7 0 (Tick 1099511627776) (Time 1099511627776)
    ∷ []

-- nobody makes no team: a policy is met by somebody
abbrev pub nobody_formed : List Entry
nobody_formed = entry 0 0 (Form [] 0) (No (TeamShort 0)) ∷ []

-- a process that is gone may be protected, and unprotected again
abbrev pub gone_protected : List Entry
gone_protected =
    entry 0 1 (kill (process_named (codes "p0"))) (struck KillInstantly)
    ∷ entry 1 4 (Protect (process 0) every_kind) Done
    ∷ entry 2 4 (Protect (process 1) every_kind) Done
    ∷ entry 3 4 (Unprotect (process 1) every_kind) Done
    ∷ []

-- what is refused of a process that is up, and of one that is gone
abbrev pub refused_of_the_gone : List Entry
refused_of_the_gone =
    entry 0 0 (Up (process 0)) (No IsUp)
    ∷ entry 1 1 (kill (process_named (codes "p0"))) (struck KillInstantly)
    ∷ entry 2 0 (Up (process 0)) (No Gone)
    ∷ entry 3 0 (Sync (process 0)) (No NotUp)
    ∷ entry 4 0 (Sync (process 99)) (No NoProcess)
    ∷ entry 5 0 (Form pair 0) (No Gone)
    ∷ entry 6 0 (Form (process 1 ∷ process 2 ∷ []) 0) (Formed 0)
    ∷ []

-- of several reasons the first is named
abbrev pub refused_in_order : List Entry
refused_in_order =
    entry 0 1 (kill (process_named (codes "p0"))) (struck KillInstantly)
    ∷ entry 1 0 (Form (process 0 ∷ process 9 ∷ []) 1) (No NoPolicy)
    ∷ entry 2 0 (Form (process 0 ∷ process 9 ∷ []) 0) (No NoProcess)
    ∷ entry 3 0 (Form (process 0 ∷ process 1 ∷ []) 0) (No Gone)
    ∷ entry 4 0 (Begin 0 (replicate 257 0)) (No NoTeam)
    ∷ entry 5 0 (Form (process 1 ∷ process 2 ∷ []) 0) (Formed 0)
    ∷ entry 6 0 (Begin 0 (replicate 257 0)) (No Payload)
    ∷ entry 7 0 (Begin 0 (replicate 256 0)) (Begun 0 0)
    ∷ entry 8 0 (Up (process 6)) (No NoProcess)
    ∷ entry 9 4 (Give (record { actor = 5; kinds = no_deed; scope = All })) (No NoActor)
    ∷ entry 10 4 (Take 5 0) (No NoActor)
    ∷ entry 11 4 (Protect (process 6) no_deed) (No NoProcess)
    ∷ entry 12 4 (Unprotect (process 6) no_deed) (No NoProcess)
    ∷ []

-- who may do what: kills and clogs are open to every role, and of the other acts each to one
abbrev pub roles_apart : List Entry
roles_apart =
    entry 0 4 (Protect (process 1) every_kind) Done
    ∷ entry 1 0 (kill (process_named (codes "p0"))) (barred (NoGrant (process 0)))
    ∷ entry 2 4 (Clog (process_named (codes "p0")) 1) (Ruled (Some (NoGrant (process 0))))
    ∷ entry 3 0 (Unclog (process_named (codes "p0"))) (Ruled (Some (NoGrant (process 0))))
    ∷ entry 4 1 (Form pair 0) (No WrongRole)
    ∷ entry 5 4 (Form pair 0) (No WrongRole)
    ∷ entry 6 1 (Begin 0 hi) (No WrongRole)
    ∷ entry 7 4 (Begin 0 hi) (No WrongRole)
    ∷ entry 8 1 (Deliver 0) (No WrongRole)
    ∷ entry 9 4 (Deliver 0) (No WrongRole)
    ∷ entry 10 1 (Lose 0) (No WrongRole)
    ∷ entry 11 4 (Lose 0) (No WrongRole)
    ∷ entry 12 1 (Resend 0 (process 0)) (No WrongRole)
    ∷ entry 13 4 (Resend 0 (process 0)) (No WrongRole)
    ∷ entry 14 1 (Sync (process 0)) (No WrongRole)
    ∷ entry 15 4 (Sync (process 0)) (No WrongRole)
    ∷ entry 16 1 (Up (process 0)) (No WrongRole)
    ∷ entry 17 4 (Up (process 0)) (No WrongRole)
    ∷ entry 18 1 (Tick 1) (No WrongRole)
    ∷ entry 19 4 (Tick 1) (No WrongRole)
    ∷ entry 20 0 (Give (record { actor = 0; kinds = every_kind; scope = All })) (No WrongRole)
    ∷ entry 21 1 (Give (record { actor = 0; kinds = every_kind; scope = All })) (No WrongRole)
    ∷ entry 22 0 (Take 1 0) (No WrongRole)
    ∷ entry 23 1 (Take 1 0) (No WrongRole)
    ∷ entry 24 0 (Protect (process 0) every_kind) (No WrongRole)
    ∷ entry 25 1 (Protect (process 0) every_kind) (No WrongRole)
    ∷ entry 26 0 (Unprotect (process 1) every_kind) (No WrongRole)
    ∷ entry 27 1 (Unprotect (process 1) every_kind) (No WrongRole)
    ∷ []

-- nor does an operator copy a record or put a process into a team, be there one or not
abbrev pub operator_moves_nothing : List Entry
operator_moves_nothing =
    entry 0 4 (copy 0 0 1) (No WrongRole)
    ∷ entry 1 4 (replace 0 0 1) (No WrongRole)
    ∷ entry 2 0 (Form pair 0) (Formed 0)
    ∷ entry 3 4 (replace 0 0 1) (No WrongRole)
    ∷ entry 4 0 (replace 0 0 1) Done
    ∷ []

-- a team names a policy of several, and has to meet that one alone
abbrev pub team_by_policy : List Entry
team_by_policy =
    entry 0 0 (Form pair 0) (No (TeamShort 0))
    ∷ entry 1 0 (Form pair 1) (Formed 0)
    ∷ entry 2 0 (Form (process 0 ∷ process 2 ∷ process 4 ∷ []) 0) (Formed 1)
    ∷ []

-- that a process is no member comes before that the record is acknowledged; there is no second
-- record
abbrev pub no_member_of_acknowledged : List Entry
no_member_of_acknowledged =
    written_and_synced
    ++ entry 9 0 (Resend 0 (process 1)) (No NotMember)
    ∷ entry 10 0 (Resend 1 (process 0)) (No NoRecord)
    ∷ []
