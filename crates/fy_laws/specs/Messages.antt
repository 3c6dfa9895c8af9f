-- journals of messages: clogs, losses and processes that are down
use Rattle.std.specs.Prelude.{false, List, [], ◌∷◌, ◌++◌, Some, None, codes, replicate}
use Rattle.fy_kinds.specs.declared.kind.Kind.TheVariants.{Reboot, KillInstantly}
use Rattle.fy_kinds.specs.declared.verdict.Rule.TheVariants.{NoTarget, NoGrant}
use Rattle.fy_acts.specs.declared.act.Act.TheVariants.{Clog, Unclog, Form, Begin, Deliver, Lose, Resend, Sync, Up, Tick}
use Rattle.fy_acts.specs.declared.reply.Refusal.TheVariants.{NoMessage, Clogged, NotUp, NoRecord, NotMember, Payload}
use Rattle.fy_acts.specs.declared.reply.Reply.TheVariants.{Ruled, Formed, Begun, Stored, Marked, Sent, Synced, Time, Done, No}
use Rattle.fy_acts.specs.declared.entry.Entry.{Entry}
use Rattle.fy_laws.specs.Clusters.{entry, process, zone_named, process_named, kill, reboot, struck}
use Rattle.fy_laws.specs.Records.{pair, hi}

-- one record is begun
abbrev pub begun : List Entry
begun = entry 0 0 (Form pair 0) (Formed 0) ∷ entry 1 0 (Begin 0 hi) (Begun 0 0) ∷ []

-- a clog of ten ticks holds for nine and no longer than ten
abbrev pub clogged_until : List Entry
clogged_until =
    begun
    ++ entry 2 1 (Clog (process_named (codes "p0")) 10) (Ruled None)
    ∷ entry 3 0 (Tick 9) (Time 9)
    ∷ entry 4 0 (Deliver 0) (No Clogged)
    ∷ entry 5 0 (Tick 1) (Time 10)
    ∷ entry 6 0 (Deliver 0) Stored
    ∷ []

-- a clog is taken off before its end
abbrev pub unclogged : List Entry
unclogged =
    begun
    ++ entry 2 1 (Clog (process_named (codes "p0")) 10) (Ruled None)
    ∷ entry 3 0 (Tick 3) (Time 3)
    ∷ entry 4 1 (Unclog (process_named (codes "p0"))) (Ruled None)
    ∷ entry 5 0 (Deliver 0) Stored
    ∷ []

-- a shorter clog doesn't shorten a longer one
abbrev pub longest_clog_holds : List Entry
longest_clog_holds =
    begun
    ++ entry 2 1 (Clog (process_named (codes "p0")) 10) (Ruled None)
    ∷ entry 3 0 (Tick 4) (Time 4)
    ∷ entry 4 1 (Clog (process_named (codes "p0")) 2) (Ruled None)
    ∷ entry 5 0 (Tick 5) (Time 9)
    ∷ entry 6 0 (Deliver 0) (No Clogged)
    ∷ []

-- a later clog counts from its own time, also once the first was taken off
abbrev pub clogged_again : List Entry
clogged_again =
    begun
    ++ entry 2 1 (Clog (process_named (codes "p0")) 2) (Ruled None)
    ∷ entry 3 0 (Tick 1) (Time 1)
    ∷ entry 4 1 (Unclog (process_named (codes "p0"))) (Ruled None)
    ∷ entry 5 1 (Clog (process_named (codes "p0")) 3) (Ruled None)
    ∷ entry 6 0 (Tick 2) (Time 3)
    ∷ entry 7 0 (Deliver 0) (No Clogged)
    ∷ entry 8 0 (Tick 1) (Time 4)
    ∷ entry 9 0 (Deliver 0) Stored
    ∷ []

-- a zone is clogged, and its second process unclogged; who has no grant neither clogs nor unclogs
abbrev pub clogged_by_zone : List Entry
clogged_by_zone =
    begun
    ++ entry 2 1 (Clog (zone_named (codes "z0")) 10) (Ruled None)
    ∷ entry 3 1 (Unclog (process_named (codes "p1"))) (Ruled None)
    ∷ entry 4 3 (Unclog (process_named (codes "p0"))) (Ruled (Some (NoGrant (process 0))))
    ∷ entry 5 2 (Clog (zone_named (codes "z1")) 10) (Ruled (Some (NoGrant (process 2))))
    ∷ entry 6 0 (Deliver 0) (No Clogged)
    ∷ entry 7 0 (Deliver 1) Stored
    ∷ []

-- a clog holds words back, too
abbrev pub ack_held_back : List Entry
ack_held_back =
    begun
    ++ entry 2 0 (Deliver 0) Stored
    ∷ entry 3 0 (Sync (process 0)) (Synced 2 1)
    ∷ entry 4 1 (Clog (process_named (codes "p0")) 1) (Ruled None)
    ∷ entry 5 0 (Deliver 2) (No Clogged)
    ∷ entry 6 0 (Tick 1) (Time 1)
    ∷ entry 7 0 (Deliver 2) (Marked false)
    ∷ []

-- a word that is held back or lost marks nothing; the other member's is the first
abbrev pub ack_lost : List Entry
ack_lost =
    begun
    ++ entry 2 0 (Deliver 0) Stored
    ∷ entry 3 0 (Deliver 1) Stored
    ∷ entry 4 0 (Sync (process 0)) (Synced 2 1)
    ∷ entry 5 0 (Sync (process 2)) (Synced 3 1)
    ∷ entry 6 1 (Clog (process_named (codes "p0")) 1) (Ruled None)
    ∷ entry 7 0 (Deliver 2) (No Clogged)
    ∷ entry 8 0 (Lose 2) Done
    ∷ entry 9 0 (Deliver 3) (Marked false)
    ∷ []

-- no clog outlasts the clock
abbrev pub clogged_to_the_end : List Entry
clogged_to_the_end =
    begun
    ++ entry 2 1 (Clog (process_named (codes "p0")) 1099511627780) (Ruled None)
    ∷ entry 3 0 (Tick 1099511627775) (Time 1099511627775)
    ∷ entry 4 0 (Deliver 0) (No Clogged)
    ∷ entry 5 0 (Tick 1) (Time 1099511627776)
    ∷ entry 6 0 (Deliver 0) Stored
    ∷ []

-- a lost store doesn't come, and is sent again to a member alone
abbrev pub lost_and_resent : List Entry
lost_and_resent =
    begun
    ++ entry 2 0 (Lose 0) Done
    ∷ entry 3 0 (Deliver 0) (No NoMessage)
    ∷ entry 4 0 (Resend 0 (process 0)) (Sent 2)
    ∷ entry 5 0 (Resend 0 (process 1)) (No NotMember)
    ∷ entry 6 0 (Resend 5 (process 0)) (No NoRecord)
    ∷ entry 7 0 (Begin 0 (replicate 257 0)) (No Payload)
    ∷ []

-- a clog holds no loss back
abbrev pub lost_though_clogged : List Entry
lost_though_clogged =
    begun
    ++ entry 2 1 (Clog (process_named (codes "p0")) 10) (Ruled None)
    ∷ entry 3 0 (Deliver 0) (No Clogged)
    ∷ entry 4 0 (Lose 0) Done
    ∷ entry 5 0 (Lose 0) (No NoMessage)
    ∷ []

-- a store waits for its process to be up; a word of a process that is down comes
abbrev pub waited_for : List Entry
waited_for =
    begun
    ++ entry 2 1 (reboot (process_named (codes "p0")) 0) (struck Reboot)
    ∷ entry 3 0 (Deliver 0) (No NotUp)
    ∷ entry 4 0 (Up (process 0)) Done
    ∷ entry 5 0 (Deliver 0) Stored
    ∷ entry 6 0 (Sync (process 0)) (Synced 2 1)
    ∷ entry 7 1 (reboot (process_named (codes "p0")) 0) (struck Reboot)
    ∷ entry 8 0 (Deliver 2) (Marked false)
    ∷ []

-- no message comes twice
abbrev pub delivered_once : List Entry
delivered_once =
    begun
    ++ entry 2 0 (Deliver 0) Stored
    ∷ entry 3 0 (Deliver 0) (No NoMessage)
    ∷ entry 4 0 (Lose 0) (No NoMessage)
    ∷ entry 5 0 (Sync (process 0)) (Synced 2 1)
    ∷ entry 6 0 (Deliver 2) (Marked false)
    ∷ entry 7 0 (Deliver 2) (No NoMessage)
    ∷ []

-- a clogged process that is down, too, is named clogged
abbrev pub clogged_and_down : List Entry
clogged_and_down =
    begun
    ++ entry 2 1 (reboot (process_named (codes "p0")) 0) (struck Reboot)
    ∷ entry 3 1 (Clog (process_named (codes "p0")) 1) (Ruled None)
    ∷ entry 4 0 (Deliver 0) (No Clogged)
    ∷ entry 5 0 (Tick 1) (Time 1)
    ∷ entry 6 0 (Deliver 0) (No NotUp)
    ∷ []

-- a clog of a zone isn't for the one that is gone, whose word comes; nor is there a target without
-- the other
abbrev pub ack_of_the_gone : List Entry
ack_of_the_gone =
    begun
    ++ entry 2 0 (Deliver 0) Stored
    ∷ entry 3 0 (Sync (process 0)) (Synced 2 1)
    ∷ entry 4 1 (kill (process_named (codes "p0"))) (struck KillInstantly)
    ∷ entry 5 1 (Clog (zone_named (codes "z0")) 10) (Ruled None)
    ∷ entry 6 1 (Clog (process_named (codes "p0")) 10) (Ruled (Some NoTarget))
    ∷ entry 7 0 (Deliver 2) (Marked false)
    ∷ []
