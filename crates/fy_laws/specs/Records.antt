-- journals of records: what is written, synced, torn off and acknowledged
use Rattle.std.specs.Prelude.{ℕ, zero, suc, ◌+◌, true, false, List, [], ◌∷◌, ◌++◌, codes}
use Rattle.fy_locality.specs.declared.ProcId.{ProcId}
use Rattle.fy_kinds.specs.declared.kind.Kind.TheVariants.{RebootProcess, Reboot, RebootAndDelete, KillInstantly}
use Rattle.fy_kinds.specs.declared.verdict.Rule.TheVariants.{TooManyDestroyed}
use Rattle.fy_disk.specs.declared.item.Item.{Item}
use Rattle.fy_acts.specs.declared.act.Act.TheVariants.{Form, Begin, Deliver, Resend, Sync, Up}
use Rattle.fy_acts.specs.declared.reply.Refusal.TheVariants.{Acked, NotUp, NotMember, NoCopy}
use Rattle.fy_acts.specs.declared.reply.Reply.TheVariants.{Formed, Begun, Stored, Marked, Sent, Synced, Done, No}
use Rattle.fy_acts.specs.declared.entry.Entry.{Entry}
use Rattle.fy_laws.specs.Clusters.{entry, process, process_named, kill, empty, empty_or_tear, reboot, restart, copy, struck, weakened}

-- the members of the one team of these journals
abbrev pub pair : List ProcId
pair = process 0 ∷ process 2 ∷ []

-- the two bytes of the one record
abbrev pub hi : List ℕ
hi = codes "hi"

-- a record on a disk
abbrev pub item : ℕ → List ℕ → Item
item rec payload = record { rec = rec; payload = payload }

-- a record is written to both members and acknowledged, though the first was emptied before the
-- second synced it
abbrev pub written_and_synced : List Entry
written_and_synced =
    entry 0 0 (Form pair 0) (Formed 0)
    ∷ entry 1 0 (Begin 0 hi) (Begun 0 0)
    ∷ entry 2 0 (Deliver 0) Stored
    ∷ entry 3 0 (Deliver 1) Stored
    ∷ entry 4 0 (Sync (process 0)) (Synced 2 1)
    ∷ entry 5 0 (Deliver 2) (Marked false)
    ∷ entry 6 1 (empty (process_named (codes "p0"))) (struck RebootAndDelete)
    ∷ entry 7 0 (Sync (process 2)) (Synced 3 1)
    ∷ entry 8 0 (Deliver 3) (Marked true)
    ∷ []

-- its client has forgotten the payload
abbrev pub forgotten : List Entry
forgotten = written_and_synced ++ entry 9 0 (Resend 0 (process 2)) (No Acked) ∷ []

-- the first member is back, and the second can't be emptied
abbrev pub and_back : List Entry
and_back =
    forgotten
    ++ entry 10 0 (Up (process 0)) Done
    ∷ entry 11 1 (empty (process_named (codes "p2"))) (weakened Reboot (TooManyDestroyed 0))
    ∷ []

-- both members have synced the record when the first is killed; its word of it still counts
abbrev pub acknowledged : List Entry
acknowledged =
    entry 0 0 (Form pair 0) (Formed 0)
    ∷ entry 1 0 (Begin 0 hi) (Begun 0 0)
    ∷ entry 2 0 (Deliver 0) Stored
    ∷ entry 3 0 (Deliver 1) Stored
    ∷ entry 4 0 (Sync (process 0)) (Synced 2 1)
    ∷ entry 5 0 (Sync (process 2)) (Synced 3 1)
    ∷ entry 6 1 (kill (process_named (codes "p0"))) (struck KillInstantly)
    ∷ entry 7 0 (Deliver 2) (Marked false)
    ∷ entry 8 0 (Deliver 3) (Marked true)
    ∷ []

-- and the second isn't emptied
abbrev pub spared : List Entry
spared =
    acknowledged
    ++ entry 9 1 (empty (process_named (codes "p2"))) (weakened Reboot (TooManyDestroyed 0)) ∷ []

-- three records are begun, and their stores to the first member delivered
abbrev pub three_written : List Entry
three_written =
    entry 0 0 (Form pair 0) (Formed 0)
    ∷ entry 1 0 (Begin 0 (10 ∷ [])) (Begun 0 0)
    ∷ entry 2 0 (Begin 0 (11 ∷ [])) (Begun 1 2)
    ∷ entry 3 0 (Begin 0 (12 ∷ [])) (Begun 2 4)
    ∷ entry 4 0 (Deliver 0) Stored
    ∷ entry 5 0 (Deliver 2) Stored
    ∷ entry 6 0 (Deliver 4) Stored
    ∷ []

-- a reboot tears the second of three unsynced writes off
abbrev pub torn : List Entry
torn = three_written ++ entry 7 1 (reboot (process_named (codes "p0")) 5) (struck Reboot) ∷ []

-- what it kept is synced, so that nothing is left to sync
abbrev pub torn_and_back : List Entry
torn_and_back =
    torn ++ entry 8 0 (Up (process 0)) Done ∷ entry 9 0 (Sync (process 0)) (Synced 6 0) ∷ []

-- the next reboot tears nothing off of what the first one kept
abbrev pub torn_once : List Entry
torn_once = torn ++ entry 8 1 (reboot (process_named (codes "p0")) 0) (struck Reboot) ∷ []

-- a write after the reboot has the first place again, whatever was written elsewhere, and the next
-- reboot keeps it
abbrev pub counted_anew : List Entry
counted_anew =
    torn
    ++ entry 8 0 (Up (process 0)) Done
    ∷ entry 9 0 (Resend 1 (process 0)) (Sent 6)
    ∷ entry 10 0 (Deliver 1) Stored
    ∷ entry 11 0 (Deliver 6) Stored
    ∷ entry 12 1 (reboot (process_named (codes "p0")) 1) (struck Reboot)
    ∷ []

-- the same after a sync
abbrev pub counted_anew_after_sync : List Entry
counted_anew_after_sync =
    three_written
    ++ entry 7 0 (Sync (process 0)) (Synced 6 3)
    ∷ entry 8 0 (Resend 1 (process 0)) (Sent 9)
    ∷ entry 9 0 (Deliver 9) Stored
    ∷ entry 10 1 (reboot (process_named (codes "p0")) 1) (struck Reboot)
    ∷ []

-- a record is sent again so many times, by messages from this number on, at places from this one on
abbrev pub sent_again : (count at message : ℕ) → List Entry
sent_again zero at message = []
sent_again (suc count) at message =
    entry at 0 (Resend 0 (process 0)) (Sent message) ∷ sent_again count (at + 1) (message + 1)

-- so many messages are delivered and stored
abbrev pub stored : (count at message : ℕ) → List Entry
stored zero at message = []
stored (suc count) at message =
    entry at 0 (Deliver message) Stored ∷ stored count (at + 1) (message + 1)

-- 65 writes: of the first record at the places 0 to 62, then one each of two more records; a reboot
-- has the bits 0 and 63, and the second record can be copied, and not the third
abbrev pub last_bit_kept : List Entry
last_bit_kept =
    entry 0 0 (Form (process 0 ∷ []) 0) (Formed 0)
    ∷ entry 1 0 (Begin 0 (10 ∷ [])) (Begun 0 0)
    ∷ sent_again 62 2 1
    ++ entry 64 0 (Begin 0 (11 ∷ [])) (Begun 1 63)
    ∷ entry 65 0 (Begin 0 (12 ∷ [])) (Begun 2 64)
    ∷ stored 65 66 0
    ++ entry 131 1 (reboot (process_named (codes "p0")) 9223372036854775809) (struck Reboot)
    ∷ entry 132 0 (Up (process 0)) Done
    ∷ entry 133 0 (copy 0 2 1) (No NoCopy)
    ∷ entry 134 0 (copy 0 1 1) (Sent 65)
    ∷ []

-- a process that is only restarted keeps its unsynced writes
abbrev pub restarted : List Entry
restarted =
    entry 0 0 (Form pair 0) (Formed 0)
    ∷ entry 1 0 (Begin 0 (10 ∷ [])) (Begun 0 0)
    ∷ entry 2 0 (Begin 0 (11 ∷ [])) (Begun 1 2)
    ∷ entry 3 0 (Begin 0 (12 ∷ [])) (Begun 2 4)
    ∷ entry 4 0 (Deliver 0) Stored
    ∷ entry 5 0 (Deliver 2) Stored
    ∷ entry 6 1 (restart (process_named (codes "p0"))) (struck RebootProcess)
    ∷ []

-- they aren't synced while it is down
abbrev pub not_synced_while_down : List Entry
not_synced_while_down = restarted ++ entry 7 0 (Sync (process 0)) (No NotUp) ∷ []

-- and their places: one more write has the third, and a reboot keeps the second and the third
abbrev pub restarted_and_torn : List Entry
restarted_and_torn =
    restarted
    ++ entry 7 0 (Up (process 0)) Done
    ∷ entry 8 0 (Deliver 4) Stored
    ∷ entry 9 1 (reboot (process_named (codes "p0")) 6) (struck Reboot)
    ∷ []

-- two records are synced by both members; of each, one word has come
abbrev pub one_ack_each : List Entry
one_ack_each =
    entry 0 0 (Form pair 0) (Formed 0)
    ∷ entry 1 0 (Begin 0 (10 ∷ [])) (Begun 0 0)
    ∷ entry 2 0 (Begin 0 (11 ∷ [])) (Begun 1 2)
    ∷ entry 3 0 (Deliver 0) Stored
    ∷ entry 4 0 (Deliver 1) Stored
    ∷ entry 5 0 (Deliver 2) Stored
    ∷ entry 6 0 (Deliver 3) Stored
    ∷ entry 7 0 (Sync (process 0)) (Synced 4 2)
    ∷ entry 8 0 (Sync (process 2)) (Synced 6 2)
    ∷ entry 9 0 (Deliver 4) (Marked false)
    ∷ entry 10 0 (Deliver 7) (Marked false)
    ∷ []

-- the second word of the first record acknowledges it alone
abbrev pub first_acknowledged : List Entry
first_acknowledged = one_ack_each ++ entry 11 0 (Deliver 6) (Marked true) ∷ []

-- what was written and not synced is gone with the rest of an emptied disk
abbrev pub emptied_unsynced : List Entry
emptied_unsynced =
    three_written
    ++ entry 7 0 (Sync (process 0)) (Synced 6 3)
    ∷ entry 8 0 (Resend 1 (process 0)) (Sent 9)
    ∷ entry 9 0 (Deliver 9) Stored
    ∷ entry 10 1 (empty_or_tear (process_named (codes "p0")) 1) (struck RebootAndDelete)
    ∷ []

-- a weakened order tears by its own bits
abbrev pub weakened_and_torn : List Entry
weakened_and_torn =
    entry 0 0 (Form pair 0) (Formed 0)
    ∷ entry 1 0 (Begin 0 (10 ∷ [])) (Begun 0 0)
    ∷ entry 2 0 (Begin 0 (11 ∷ [])) (Begun 1 2)
    ∷ entry 3 0 (Deliver 0) Stored
    ∷ entry 4 0 (Deliver 2) Stored
    ∷ entry 5 1 (empty_or_tear (process_named (codes "p0")) 2)
    (weakened Reboot (TooManyDestroyed 0))
    ∷ []

-- an emptied member is back and has the record synced again, before it is acknowledged
abbrev pub written_again : List Entry
written_again =
    entry 0 0 (Form pair 0) (Formed 0)
    ∷ entry 1 0 (Begin 0 hi) (Begun 0 0)
    ∷ entry 2 0 (Deliver 0) Stored
    ∷ entry 3 0 (Sync (process 0)) (Synced 2 1)
    ∷ entry 4 1 (empty (process_named (codes "p0"))) (struck RebootAndDelete)
    ∷ entry 5 0 (Up (process 0)) Done
    ∷ entry 6 0 (Resend 0 (process 0)) (Sent 3)
    ∷ entry 7 0 (Deliver 3) Stored
    ∷ entry 8 0 (Sync (process 0)) (Synced 4 1)
    ∷ entry 9 0 (Deliver 1) Stored
    ∷ entry 10 0 (Sync (process 2)) (Synced 5 1)
    ∷ entry 11 0 (Deliver 2) (Marked false)
    ∷ entry 12 0 (Deliver 5) (Marked true)
    ∷ []

-- a record of the second of two teams is sent to its members alone, in their order
abbrev pub second_team : List Entry
second_team =
    entry 0 0 (Form pair 0) (Formed 0)
    ∷ entry 1 0 (Form (process 1 ∷ process 3 ∷ process 4 ∷ []) 0) (Formed 1)
    ∷ entry 2 0 (Begin 1 hi) (Begun 0 0)
    ∷ entry 3 0 (Begin 0 hi) (Begun 1 3)
    ∷ entry 4 0 (Resend 0 (process 0)) (No NotMember)
    ∷ []
