-- a record is written to both members of its team: what its client is told
use Rattle.std.specs.Prelude.{false, List, [], ◌∷◌, ◌++◌, codes}
use Rattle.fy_kinds.specs.declared.kind.Kind.TheVariants.{RebootAndDelete}
use Rattle.fy_acts.specs.declared.act.Act.TheVariants.{Form, Begin, Deliver, Sync}
use Rattle.fy_acts.specs.declared.reply.Reply.{Reply}
use Rattle.fy_acts.specs.declared.reply.Reply.TheVariants.{Formed, Begun, Stored, Marked, Synced}
use Rattle.fy_acts.specs.declared.entry.Entry.{Entry}
use Rattle.fy_laws.specs.Clusters.{entry, process, process_named, empty, struck}
use Rattle.fy_laws.specs.Records.{pair, hi, written_and_synced}

-- the first member has synced it, and the second has it written
abbrev pub first_synced : List Entry
first_synced =
    entry 0 0 (Form pair 0) (Formed 0)
    ∷ entry 1 0 (Begin 0 hi) (Begun 0 0)
    ∷ entry 2 0 (Deliver 0) Stored
    ∷ entry 3 0 (Deliver 1) Stored
    ∷ entry 4 0 (Sync (process 0)) (Synced 2 1)
    ∷ []

-- the first member's acknowledgement is delivered, with this reply
abbrev pub first_ack : Reply → Entry
first_ack reply = entry 5 0 (Deliver 2) reply

-- and the second member syncs it too
abbrev pub both_synced : List Entry
both_synced =
    first_synced ++ first_ack (Marked false) ∷ entry 6 0 (Sync (process 2)) (Synced 3 1) ∷ []

-- the second member's acknowledgement is delivered, with this reply
abbrev pub last_ack : Reply → Entry
last_ack reply = entry 7 0 (Deliver 3) reply

-- an acknowledged record's one copy is emptied
abbrev pub last_copy_emptied : List Entry
last_copy_emptied =
    written_and_synced
    ++ entry 9 1 (empty (process_named (codes "p2"))) (struck RebootAndDelete) ∷ []
