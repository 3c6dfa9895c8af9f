-- journals of teams that change: a process comes in the place of a member
use Rattle.std.specs.Prelude.{true, false, List, [], ◌∷◌, ◌++◌, codes}
use Rattle.fy_locality.specs.declared.ProcId.{ProcId}
use Rattle.fy_kinds.specs.declared.kind.Kind.TheVariants.{Reboot, RebootAndDelete, KillInstantly}
use Rattle.fy_kinds.specs.declared.verdict.Rule.TheVariants.{TooManyDestroyed}
use Rattle.fy_acts.specs.declared.act.Act.TheVariants.{Form, Begin, Deliver, Resend, Sync, Up}
use Rattle.fy_acts.specs.declared.reply.Refusal.TheVariants.{WrongRole, NoProcess, Gone, TeamShort, NoTeam, NotUp, NoRecord, NotMember, Acked, NoCopy, IsMember, NotDestroyed, StillNeeds}
use Rattle.fy_acts.specs.declared.reply.Reply.TheVariants.{Formed, Begun, Stored, Marked, Sent, Synced, Done, No}
use Rattle.fy_acts.specs.declared.entry.Entry.{Entry}
use Rattle.fy_laws.specs.Clusters.{entry, process, zone_named, process_named, kill, empty, copy, replace, heal, struck, weakened}
use Rattle.fy_laws.specs.Records.{pair, hi, forgotten, acknowledged}

-- ---- a member that stays away

-- nobody comes in the place of the emptied member who is a member, leaves the team short or lacks
-- its acknowledged record; and nobody in the place of who is no member
abbrev pub not_replaced : List Entry
not_replaced =
    forgotten
    ++ entry 10 0 (replace 0 0 2) (No IsMember)
    ∷ entry 11 0 (replace 0 0 3) (No (TeamShort 0))
    ∷ entry 12 0 (replace 0 5 1) (No NotMember)
    ∷ entry 13 0 (replace 0 0 1) (No (StillNeeds 0))
    ∷ []

-- the record is copied by the one member that has it, and synced
abbrev pub copied : List Entry
copied =
    not_replaced
    ++ entry 14 0 (copy 0 0 1) (No NotUp)
    ∷ entry 15 0 (copy 3 0 1) (No NoCopy)
    ∷ entry 16 0 (copy 2 9 1) (No NoRecord)
    ∷ entry 17 0 (copy 2 0 1) (Sent 4)
    ∷ entry 18 0 (Deliver 4) Stored
    ∷ entry 19 0 (Sync (process 1)) (Synced 5 1)
    ∷ []

-- now the emptied member is replaced; it is destroyed still
abbrev pub replaced : List Entry
replaced =
    copied
    ++ entry 20 0 (replace 0 0 1) Done
    ∷ entry 21 1 (empty (process_named (codes "p2"))) (weakened Reboot (TooManyDestroyed 0))
    ∷ []

-- who is in no team needs no record to be healed
abbrev pub healed_outside : List Entry
healed_outside =
    replaced
    ++ entry 22 0 (Up (process 0)) Done
    ∷ entry 23 0 (heal 0) Done
    ∷ entry 24 0 (heal 0) (No NotDestroyed)
    ∷ entry 25 1 (empty (process_named (codes "p2"))) (struck RebootAndDelete)
    ∷ []

-- the record stays acknowledged, though the new member has no mark for it: a word from elsewhere is
-- told so, and it isn't sent again
abbrev pub stays_acknowledged : List Entry
stays_acknowledged =
    replaced
    ++ entry 22 0 (copy 1 0 3) (Sent 6)
    ∷ entry 23 0 (Deliver 6) Stored
    ∷ entry 24 0 (Sync (process 3)) (Synced 7 1)
    ∷ entry 25 0 (Deliver 7) (Marked true)
    ∷ entry 26 0 (Resend 0 (process 1)) (No Acked)
    ∷ []

-- a member that is gone for good is replaced
abbrev pub gone_replaced : List Entry
gone_replaced =
    acknowledged
    ++ entry 9 0 (copy 2 0 1) (Sent 4)
    ∷ entry 10 0 (Deliver 4) Stored
    ∷ entry 11 0 (Sync (process 1)) (Synced 5 1)
    ∷ entry 12 0 (replace 0 0 1) Done
    ∷ []

-- ---- marks

-- a team in the two zones behind the first
abbrev pub pair_behind : List ProcId
pair_behind = process 2 ∷ process 4 ∷ []

-- its record is copied to a process of the first zone, and the word of that comes
abbrev pub marked_outside : List Entry
marked_outside =
    entry 0 0 (Form pair_behind 0) (Formed 0)
    ∷ entry 1 0 (Begin 0 hi) (Begun 0 0)
    ∷ entry 2 0 (Deliver 0) Stored
    ∷ entry 3 0 (Sync (process 2)) (Synced 2 1)
    ∷ entry 4 0 (copy 2 0 0) (Sent 3)
    ∷ entry 5 0 (Deliver 3) Stored
    ∷ entry 6 0 (Sync (process 0)) (Synced 4 1)
    ∷ entry 7 0 (Deliver 4) (Marked false)
    ∷ []

-- its mark counts once it is a member
abbrev pub mark_counts : List Entry
mark_counts =
    marked_outside
    ++ entry 8 0 (replace 0 4 0) Done ∷ entry 9 0 (Deliver 2) (Marked true) ∷ []

-- a team all of whose members have marks: what came of them before acknowledges nothing
abbrev pub all_marked : List Entry
all_marked =
    marked_outside
    ++ entry 8 0 (Deliver 2) (Marked false) ∷ entry 9 0 (replace 0 4 0) Done ∷ []

-- so the record may be sent again
abbrev pub not_yet_acknowledged : List Entry
not_yet_acknowledged = all_marked ++ entry 10 0 (Resend 0 (process 0)) (Sent 5) ∷ []

-- a word of another record doesn't acknowledge it
abbrev pub ack_of_another_record : List Entry
ack_of_another_record =
    all_marked
    ++ entry 10 0 (Begin 0 hi) (Begun 1 5)
    ∷ entry 11 0 (Deliver 5) Stored
    ∷ entry 12 0 (Sync (process 0)) (Synced 7 1)
    ∷ entry 13 0 (Deliver 7) (Marked false)
    ∷ entry 14 0 (Resend 0 (process 2)) (Sent 8)
    ∷ []

-- the next word acknowledges it, here one from outside the team
abbrev pub acknowledged_from_outside : List Entry
acknowledged_from_outside =
    all_marked
    ++ entry 10 0 (copy 2 0 1) (Sent 5)
    ∷ entry 11 0 (Deliver 5) Stored
    ∷ entry 12 0 (Sync (process 1)) (Synced 6 1)
    ∷ entry 13 0 (Deliver 6) (Marked true)
    ∷ []

-- a heal takes the mark of who is no member, too
abbrev pub mark_outside_taken : List Entry
mark_outside_taken =
    marked_outside
    ++ entry 8 1 (empty (process_named (codes "p0"))) (struck RebootAndDelete)
    ∷ entry 9 0 (Up (process 0)) Done
    ∷ entry 10 0 (heal 0) Done
    ∷ entry 11 0 (replace 0 4 0) Done
    ∷ entry 12 0 (Deliver 2) (Marked false)
    ∷ []

-- ---- members

-- members stand by rising number, whoever came; a record is sent to those who are there
abbrev pub sent_to_members : List Entry
sent_to_members =
    entry 0 0 (Form pair 0) (Formed 0)
    ∷ entry 1 0 (Form (process 1 ∷ process 2 ∷ process 4 ∷ []) 0) (Formed 1)
    ∷ entry 2 0 (replace 0 0 4) Done
    ∷ entry 3 0 (replace 1 2 3) Done
    ∷ entry 4 0 (Begin 0 hi) (Begun 0 0)
    ∷ entry 5 0 (Begin 1 hi) (Begun 1 2)
    ∷ entry 6 0 (Resend 0 (process 0)) (No NotMember)
    ∷ entry 7 0 (replace 0 4 0) Done
    ∷ entry 8 0 (Resend 0 (process 0)) (Sent 5)
    ∷ []

-- a record that is acknowledged is needed by those who come into its own team alone; who left it
-- keeps it no more, though it has it
abbrev pub needed_by_its_team : List Entry
needed_by_its_team =
    entry 0 0 (Form pair 0) (Formed 0)
    ∷ entry 1 0 (Form (process 3 ∷ process 4 ∷ []) 0) (Formed 1)
    ∷ entry 2 0 (Begin 0 hi) (Begun 0 0)
    ∷ entry 3 0 (Deliver 0) Stored
    ∷ entry 4 0 (Deliver 1) Stored
    ∷ entry 5 0 (Sync (process 0)) (Synced 2 1)
    ∷ entry 6 0 (Sync (process 2)) (Synced 3 1)
    ∷ entry 7 0 (Deliver 2) (Marked false)
    ∷ entry 8 0 (Deliver 3) (Marked true)
    ∷ entry 9 0 (replace 1 3 1) Done
    ∷ entry 10 0 (replace 0 2 4) (No (StillNeeds 0))
    ∷ entry 11 0 (copy 0 0 4) (Sent 4)
    ∷ entry 12 0 (Deliver 4) Stored
    ∷ entry 13 0 (Sync (process 4)) (Synced 5 1)
    ∷ entry 14 0 (replace 0 0 4) Done
    ∷ []

-- ---- refused

-- of several reasons the first is named
abbrev pub replaces_refused : List Entry
replaces_refused =
    forgotten
    ++ entry 10 0 (replace 1 9 9) (No NoTeam)
    ∷ entry 11 0 (replace 0 9 9) (No NoProcess)
    ∷ entry 12 0 (replace 0 9 1) (No NotMember)
    ∷ entry 13 0 (replace 0 5 2) (No NotMember)
    ∷ entry 14 1 (kill (zone_named (codes "z0"))) (struck KillInstantly)
    ∷ entry 15 0 (replace 0 2 0) (No IsMember)
    ∷ entry 16 0 (replace 0 2 1) (No Gone)
    ∷ entry 17 1 (replace 0 0 4) (No WrongRole)
    ∷ []

-- a team that changes has to meet the policy that it names
abbrev pub short_by_its_policy : List Entry
short_by_its_policy =
    entry 0 0 (Form pair 1) (Formed 0)
    ∷ entry 1 0 (replace 0 0 3) (No (TeamShort 1))
    ∷ entry 2 0 (replace 0 0 4) Done
    ∷ []
