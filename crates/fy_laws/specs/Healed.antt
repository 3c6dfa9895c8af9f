-- journals of copies and healing: a process that was destroyed gets its records again, and counts
-- as destroyed no longer
use Rattle.std.specs.Prelude.{true, false, List, [], ◌∷◌, ◌++◌, codes}
use Rattle.fy_kinds.specs.declared.kind.Kind.TheVariants.{Reboot, RebootAndDelete, KillInstantly}
use Rattle.fy_kinds.specs.declared.verdict.Rule.TheVariants.{TooManyDestroyed}
use Rattle.fy_acts.specs.declared.act.Act.TheVariants.{Form, Begin, Deliver, Resend, Sync, Up}
use Rattle.fy_acts.specs.declared.reply.Refusal.TheVariants.{Stranger, WrongRole, NoProcess, Gone, NoMessage, NotUp, NoRecord, NoCopy, NotDestroyed, StillNeeds}
use Rattle.fy_acts.specs.declared.reply.Reply.TheVariants.{Formed, Begun, Stored, Marked, Sent, Synced, Done, No}
use Rattle.fy_acts.specs.declared.entry.Entry.{Entry}
use Rattle.fy_laws.specs.Clusters.{entry, process, process_named, kill, empty, reboot, copy, heal, struck, weakened}
use Rattle.fy_laws.specs.Records.{pair, hi, forgotten, first_acknowledged}

-- ---- a member that comes back

-- the emptied member is up again, and lacks the acknowledged record
abbrev pub still_needed : List Entry
still_needed =
    forgotten
    ++ entry 10 0 (Up (process 0)) Done ∷ entry 11 0 (heal 0) (No (StillNeeds 0)) ∷ []

-- it gets a copy from the other member, and syncs it
abbrev pub copied_back : List Entry
copied_back =
    still_needed
    ++ entry 12 0 (copy 2 0 0) (Sent 4)
    ∷ entry 13 0 (Deliver 4) Stored
    ∷ entry 14 0 (Sync (process 0)) (Synced 5 1)
    ∷ []

-- now it is healed
abbrev pub healed : List Entry
healed = copied_back ++ entry 15 0 (heal 0) Done ∷ []

-- its word is gone, and the other member may be emptied
abbrev pub healed_stands_in : List Entry
healed_stands_in =
    healed
    ++ entry 16 0 (Deliver 5) (No NoMessage)
    ∷ entry 17 1 (empty (process_named (codes "p2"))) (struck RebootAndDelete)
    ∷ []

-- ---- what a heal takes away

-- a member syncs the record, is emptied and healed, while nothing is acknowledged
abbrev pub sent_and_healed : List Entry
sent_and_healed =
    entry 0 0 (Form pair 0) (Formed 0)
    ∷ entry 1 0 (Begin 0 hi) (Begun 0 0)
    ∷ entry 2 0 (Deliver 0) Stored
    ∷ entry 3 0 (Sync (process 0)) (Synced 2 1)
    ∷ entry 4 1 (empty (process_named (codes "p0"))) (struck RebootAndDelete)
    ∷ entry 5 0 (Up (process 0)) Done
    ∷ entry 6 0 (heal 0) Done
    ∷ []

-- the word that it sent before is gone, and the other's word is the first
abbrev pub ack_voided : List Entry
ack_voided =
    sent_and_healed
    ++ entry 7 0 (Deliver 2) (No NoMessage)
    ∷ entry 8 0 (Deliver 1) Stored
    ∷ entry 9 0 (Sync (process 2)) (Synced 3 1)
    ∷ entry 10 0 (Deliver 3) (Marked false)
    ∷ []

-- the same where the word had come before
abbrev pub marked_and_healed : List Entry
marked_and_healed =
    entry 0 0 (Form pair 0) (Formed 0)
    ∷ entry 1 0 (Begin 0 hi) (Begun 0 0)
    ∷ entry 2 0 (Deliver 0) Stored
    ∷ entry 3 0 (Sync (process 0)) (Synced 2 1)
    ∷ entry 4 0 (Deliver 2) (Marked false)
    ∷ entry 5 1 (empty (process_named (codes "p0"))) (struck RebootAndDelete)
    ∷ entry 6 0 (Up (process 0)) Done
    ∷ entry 7 0 (heal 0) Done
    ∷ entry 8 0 (Deliver 1) Stored
    ∷ entry 9 0 (Sync (process 2)) (Synced 3 1)
    ∷ []

-- its mark is gone: the other's is the first
abbrev pub mark_taken : List Entry
mark_taken = marked_and_healed ++ entry 10 0 (Deliver 3) (Marked false) ∷ []

-- and a word of what it synced since is a mark again
abbrev pub marked_again : List Entry
marked_again =
    mark_taken
    ++ entry 11 0 (Resend 0 (process 0)) (Sent 4)
    ∷ entry 12 0 (Deliver 4) Stored
    ∷ entry 13 0 (Sync (process 0)) (Synced 5 1)
    ∷ entry 14 0 (Deliver 5) (Marked true)
    ∷ []

-- of four messages in flight a heal takes the process's own word alone
abbrev pub own_ack_voided : List Entry
own_ack_voided =
    entry 0 0 (Form pair 0) (Formed 0)
    ∷ entry 1 0 (Begin 0 hi) (Begun 0 0)
    ∷ entry 2 0 (Begin 0 hi) (Begun 1 2)
    ∷ entry 3 0 (Deliver 0) Stored
    ∷ entry 4 0 (Deliver 1) Stored
    ∷ entry 5 0 (Sync (process 0)) (Synced 4 1)
    ∷ entry 6 0 (Sync (process 2)) (Synced 5 1)
    ∷ entry 7 1 (empty (process_named (codes "p0"))) (struck RebootAndDelete)
    ∷ entry 8 0 (Up (process 0)) Done
    ∷ entry 9 0 (heal 0) Done
    ∷ []

-- the others come, and so does a word that it sends later
abbrev pub later_acks_delivered : List Entry
later_acks_delivered =
    own_ack_voided
    ++ entry 10 0 (Deliver 5) (Marked false)
    ∷ entry 11 0 (Deliver 2) Stored
    ∷ entry 12 0 (Sync (process 0)) (Synced 6 1)
    ∷ entry 13 0 (Deliver 6) (Marked false)
    ∷ []

-- a refused heal takes nothing away: the word still comes
abbrev pub refused_takes_nothing : List Entry
refused_takes_nothing =
    entry 0 0 (Form pair 0) (Formed 0)
    ∷ entry 1 0 (Begin 0 hi) (Begun 0 0)
    ∷ entry 2 0 (Deliver 0) Stored
    ∷ entry 3 0 (Sync (process 0)) (Synced 2 1)
    ∷ entry 4 0 (heal 0) (No NotDestroyed)
    ∷ entry 5 0 (Deliver 2) (Marked false)
    ∷ entry 6 0 (heal 0) (No NotDestroyed)
    ∷ []

-- ---- destroyed again

-- who was healed can be destroyed again, and then counts again, until it is healed again
abbrev pub destroyed_again : List Entry
destroyed_again =
    entry 0 1 (empty (process_named (codes "p0"))) (struck RebootAndDelete)
    ∷ entry 1 0 (heal 0) (No NotUp)
    ∷ entry 2 0 (Up (process 0)) Done
    ∷ entry 3 0 (heal 0) Done
    ∷ entry 4 1 (empty (process_named (codes "p0"))) (struck RebootAndDelete)
    ∷ entry 5 1 (empty (process_named (codes "p2"))) (weakened Reboot (TooManyDestroyed 0))
    ∷ entry 6 0 (Up (process 0)) Done
    ∷ entry 7 0 (heal 0) Done
    ∷ entry 8 0 (heal 0) (No NotDestroyed)
    ∷ entry 9 1 (empty (process_named (codes "p2"))) (struck RebootAndDelete)
    ∷ []

-- of two that were destroyed one is healed, and the other still counts
abbrev pub one_of_two_healed : List Entry
one_of_two_healed =
    entry 0 1 (empty (process_named (codes "p0"))) (struck RebootAndDelete)
    ∷ entry 1 1 (empty (process_named (codes "p1"))) (struck RebootAndDelete)
    ∷ entry 2 0 (Up (process 0)) Done
    ∷ entry 3 0 (heal 0) Done
    ∷ entry 4 1 (empty (process_named (codes "p2"))) (weakened Reboot (TooManyDestroyed 0))
    ∷ []

-- ---- refused

-- who may not be healed: of several reasons the first is named
abbrev pub not_healed : List Entry
not_healed =
    entry 0 1 (kill (process_named (codes "p0"))) (struck KillInstantly)
    ∷ entry 1 0 (heal 0) (No Gone)
    ∷ entry 2 0 (heal 9) (No NoProcess)
    ∷ entry 3 1 (reboot (process_named (codes "p1")) 0) (struck Reboot)
    ∷ entry 4 0 (heal 1) (No NotDestroyed)
    ∷ entry 5 1 (empty (process_named (codes "p1"))) (struck RebootAndDelete)
    ∷ entry 6 0 (heal 1) (No NotUp)
    ∷ entry 7 1 (heal 1) (No WrongRole)
    ∷ entry 8 4 (heal 1) (No WrongRole)
    ∷ entry 9 5 (heal 1) (No Stranger)
    ∷ []

-- two acknowledged records are lacking, and the least is named; one that is written is lacking
-- until it is synced
abbrev pub least_needed : List Entry
least_needed =
    first_acknowledged
    ++ entry 12 0 (Deliver 5) (Marked true)
    ∷ entry 13 1 (empty (process_named (codes "p0"))) (struck RebootAndDelete)
    ∷ entry 14 0 (heal 0) (No NotUp)
    ∷ entry 15 0 (Up (process 0)) Done
    ∷ entry 16 0 (heal 0) (No (StillNeeds 0))
    ∷ entry 17 0 (copy 2 0 0) (Sent 8)
    ∷ entry 18 0 (Deliver 8) Stored
    ∷ entry 19 0 (heal 0) (No (StillNeeds 0))
    ∷ entry 20 0 (Sync (process 0)) (Synced 9 1)
    ∷ entry 21 0 (heal 0) (No (StillNeeds 1))
    ∷ entry 22 0 (copy 2 1 0) (Sent 10)
    ∷ entry 23 0 (Deliver 10) Stored
    ∷ entry 24 0 (Sync (process 0)) (Synced 11 1)
    ∷ entry 25 0 (heal 0) Done
    ∷ []

-- why a record isn't copied: of several reasons the first is named
abbrev pub copies_refused : List Entry
copies_refused =
    forgotten
    ++ entry 10 0 (copy 9 9 0) (No NoRecord)
    ∷ entry 11 0 (copy 9 0 1) (No NoProcess)
    ∷ entry 12 0 (copy 2 0 9) (No NoProcess)
    ∷ entry 13 0 (copy 0 0 1) (No NotUp)
    ∷ entry 14 0 (copy 3 0 1) (No NoCopy)
    ∷ entry 15 1 (kill (process_named (codes "p0"))) (struck KillInstantly)
    ∷ entry 16 0 (copy 2 0 0) (No Gone)
    ∷ entry 17 0 (copy 0 0 0) (No Gone)
    ∷ entry 18 0 (copy 0 0 1) (No NotUp)
    ∷ entry 19 1 (copy 2 0 1) (No WrongRole)
    ∷ []

-- a record that is written is copied once it is synced, also to who is no member, and from there
-- again; its word is a mark, though not a member's
abbrev pub copied_along : List Entry
copied_along =
    entry 0 0 (Form pair 0) (Formed 0)
    ∷ entry 1 0 (Begin 0 hi) (Begun 0 0)
    ∷ entry 2 0 (Deliver 0) Stored
    ∷ entry 3 0 (copy 0 0 1) (No NoCopy)
    ∷ entry 4 0 (Sync (process 0)) (Synced 2 1)
    ∷ entry 5 0 (copy 0 0 1) (Sent 3)
    ∷ entry 6 0 (Deliver 3) Stored
    ∷ entry 7 0 (Sync (process 1)) (Synced 4 1)
    ∷ entry 8 0 (copy 1 0 2) (Sent 5)
    ∷ entry 9 0 (Deliver 4) (Marked false)
    ∷ []

-- a copy to who is down waits until it is up
abbrev pub copied_to_who_is_down : List Entry
copied_to_who_is_down =
    forgotten
    ++ entry 10 0 (copy 2 0 0) (Sent 4)
    ∷ entry 11 0 (Deliver 4) (No NotUp)
    ∷ entry 12 0 (Up (process 0)) Done
    ∷ entry 13 0 (Deliver 4) Stored
    ∷ []

-- nothing is copied from who is down, though it has the record
abbrev pub not_copied_while_down : List Entry
not_copied_while_down =
    forgotten
    ++ entry 10 1 (reboot (process_named (codes "p2")) 0) (struck Reboot)
    ∷ entry 11 0 (copy 2 0 1) (No NotUp)
    ∷ []
