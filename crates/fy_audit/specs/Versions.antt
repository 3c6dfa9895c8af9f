-- which entries audits of a version have: the first lacks three acts and four refusals
use Rattle.std.specs.Prelude.{Bool, true, false, ◌&&◌}
use Rattle.fy_acts.specs.declared.reply.Refusal.{Refusal}
use Rattle.fy_acts.specs.declared.reply.Refusal.TheVariants.{Stranger, WrongRole, TooMany, NoPolicy, NoProcess, Gone, TeamShort, NoTeam, Payload, NetFull, NoMessage, Clogged, NotUp, NoRecord, NotMember, Acked, IsUp, ClockEnd, NoActor, Full, NoSuch, NoCopy, IsMember, NotDestroyed, StillNeeds}
use Rattle.fy_acts.specs.declared.reply.Reply.{Reply}
use Rattle.fy_acts.specs.declared.reply.Reply.TheVariants.{Verdict, Ruled, Formed, Begun, Stored, Marked, Sent, Synced, Time, Done, No}
use Rattle.fy_acts.specs.declared.entry.Entry.{Entry}
use Rattle.fy_acts.specs.declared.version.Version.{Version}
use Rattle.fy_acts.specs.declared.version.Version.TheVariants.{First, Second}
use Rattle.fy_acts.specs.Versions.{knows}

-- whether there is such a refusal under the version
abbrev pub knows_refusal : Version → Refusal → Bool
knows_refusal Second refusal = true
knows_refusal First Stranger = true
knows_refusal First WrongRole = true
knows_refusal First TooMany = true
knows_refusal First NoPolicy = true
knows_refusal First NoProcess = true
knows_refusal First Gone = true
knows_refusal First (TeamShort policy) = true
knows_refusal First NoTeam = true
knows_refusal First Payload = true
knows_refusal First NetFull = true
knows_refusal First NoMessage = true
knows_refusal First Clogged = true
knows_refusal First NotUp = true
knows_refusal First NoRecord = true
knows_refusal First NotMember = true
knows_refusal First Acked = true
knows_refusal First IsUp = true
knows_refusal First ClockEnd = true
knows_refusal First NoActor = true
knows_refusal First Full = true
knows_refusal First NoSuch = true
knows_refusal First NoCopy = false
knows_refusal First IsMember = false
knows_refusal First NotDestroyed = false
knows_refusal First (StillNeeds rec) = false

-- whether there is such a reply under the version
abbrev pub knows_reply : Version → Reply → Bool
knows_reply version (Verdict verdict) = true
knows_reply version (Ruled rule) = true
knows_reply version (Formed team) = true
knows_reply version (Begun rec first) = true
knows_reply version Stored = true
knows_reply version (Marked acked) = true
knows_reply version (Sent message) = true
knows_reply version (Synced first count) = true
knows_reply version (Time now) = true
knows_reply version Done = true
knows_reply version (No refusal) = knows_refusal version refusal

-- whether audits of the version have such an entry
abbrev pub has_entry : Version → Entry → Bool
has_entry version entry = knows version entry.act && knows_reply version entry.reply
