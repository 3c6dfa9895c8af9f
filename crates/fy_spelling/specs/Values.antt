-- acts, replies and entries as JSON values: one act has one value, for scripts and audits alike
use Rattle.std.specs.Prelude.{ℕ, List, [], ◌∷◌, map, filter, codes, Option, Some, None}
use Rattle.serde_json.specs.Data.{Data, null, boolean, number, unsigned, string, array, object, Members as Fields, no_members, member}
use Rattle.serde_json.specs.View.{items_of}
use Rattle.serde_json.specs.Written.{compact_text}
use Rattle.hex.specs.Hex.{encode_lower}
use Rattle.fy_locality.specs.Key.{key_text}
use Rattle.fy_locality.specs.declared.ProcId.{ProcId}
use Rattle.fy_kinds.specs.Kinds.{Deed, deeds, deed_text, kind_text, has, no_deed}
use Rattle.fy_kinds.specs.Members.{Members}
use Rattle.fy_kinds.specs.declared.kind.Kind.{Kind}
use Rattle.fy_kinds.specs.declared.order.Target.{Target}
use Rattle.fy_kinds.specs.declared.verdict.Rule.{Rule}
use Rattle.fy_kinds.specs.declared.verdict.Rule.TheVariants.{NoTarget, NoGrant, Protected, TooManyDestroyed, TooFewLeft}
use Rattle.fy_kinds.specs.declared.verdict.Verdict.{Verdict as Verdicts}
use Rattle.fy_grants.specs.declared.grant.Scope.{Scope}
use Rattle.fy_grants.specs.declared.grant.Scope.TheVariants.{All, Where}
use Rattle.fy_acts.specs.declared.act.Act.{Act}
use Rattle.fy_acts.specs.declared.act.Act.TheVariants.{Kill, Clog, Unclog, Form, Begin, Deliver, Lose, Resend, Sync, Up, Tick, Give, Take, Protect, Unprotect, CopyTo, Replace, Heal}
use Rattle.fy_acts.specs.declared.reply.Refusal.{Refusal}
use Rattle.fy_acts.specs.declared.reply.Refusal.TheVariants.{Stranger, WrongRole, TooMany, NoPolicy, NoProcess, Gone, TeamShort, NoTeam, Payload, NetFull, NoMessage, Clogged, NotUp, NoRecord, NotMember, Acked, IsUp, ClockEnd, NoActor, Full, NoSuch, NoCopy, IsMember, NotDestroyed, StillNeeds}
use Rattle.fy_acts.specs.declared.reply.Reply.{Reply}
use Rattle.fy_acts.specs.declared.reply.Reply.TheVariants.{Verdict, Ruled, Formed, Begun, Stored, Marked, Sent, Synced, Time, Done, No}
use Rattle.fy_acts.specs.declared.entry.Entry.{Entry}

-- members under these keys
abbrev pub fields : List (List ℕ × Data) → Fields
fields [] = no_members
fields (field ∷ more) = member field.0 field.1 (fields more)

-- an object with just these members
abbrev pub with_fields : List (List ℕ × Data) → Data
with_fields all = object (fields all)

-- an object with one member
abbrev pub under : List ℕ → Data → Data
under key value = with_fields ((key, value) ∷ [])

-- a whole number
abbrev pub whole : ℕ → Data
whole n = number (unsigned n)

-- a list of values
abbrev pub listed : List Data → Data
listed values = array (items_of values)

-- a word by itself, in a list
abbrev pub alone : List ℕ → Data
alone word = listed (string word ∷ [])

-- a word with a number, in a list
abbrev pub numbered : List ℕ → ℕ → Data
numbered word n = listed (string word ∷ whole n ∷ [])

-- ---- parts of acts

-- the processes by their numbers
abbrev pub processes_value : List ProcId → Data
processes_value ps = listed (map (λ p. whole p.0) ps)

-- the deeds of a list by their words
abbrev pub deeds_value : List Deed → Data
deeds_value ds = listed (map (λ d. string (deed_text d)) ds)

-- the deeds of a set, each once and in their order
abbrev pub in_order : Members → List Deed
in_order kinds = filter (has kinds) deeds

-- an order to kill, whether or not its floor is above its kind
abbrev pub order_value : Target → Kind → Kind → ℕ → Data
order_value target kind floor tear =
    with_fields (
    (codes "floor", string (kind_text floor))
    ∷ (codes "key", string (key_text target.key))
    ∷ (codes "kind", string (kind_text kind))
    ∷ (codes "tear", whole tear)
    ∷ (codes "value", string target.value)
    ∷ [])

-- the processes with one value of a key
abbrev pub target_value : Target → Data
target_value target =
    with_fields (
    (codes "key", string (key_text target.key)) ∷ (codes "value", string target.value) ∷ [])

-- the processes with one value of a key, for some ticks
abbrev pub clog_value : Target → ℕ → Data
clog_value target ticks =
    with_fields (
    (codes "key", string (key_text target.key))
    ∷ (codes "ticks", whole ticks)
    ∷ (codes "value", string target.value)
    ∷ [])

-- which processes a grant covers
abbrev pub scope_value : Scope → Data
scope_value All = string (codes "all")
scope_value (Where target) = target_value target

-- a process and kinds, which are listed as given
abbrev pub protection_value : List Deed → ProcId → Data
protection_value kinds process =
    with_fields ((codes "kinds", deeds_value kinds) ∷ (codes "process", whole process.0) ∷ [])

-- a process alone
abbrev pub process_value : ProcId → Data
process_value process = under (codes "process") (whole process.0)

-- ---- acts

-- an act, where the kinds of a grant or a protection are listed as given
abbrev pub act_listing : List Deed → Act → Data
act_listing kinds (Kill order) =
    under (codes "kill") (order_value order.target order.kind order.floor order.tear)
act_listing kinds (Clog target ticks) = under (codes "clog") (clog_value target ticks)
act_listing kinds (Unclog target) = under (codes "unclog") (target_value target)
act_listing kinds (Form members policy) =
    under (codes "form") (with_fields (
    (codes "members", processes_value members) ∷ (codes "policy", whole policy) ∷ []))
act_listing kinds (Begin team payload) =
    under (codes "begin") (with_fields (
    (codes "payload", string (encode_lower payload)) ∷ (codes "team", whole team) ∷ []))
act_listing kinds (Deliver message) =
    under (codes "deliver") (under (codes "message") (whole message))
act_listing kinds (Lose message) = under (codes "lose") (under (codes "message") (whole message))
act_listing kinds (Resend rec process) =
    under (codes "resend") (with_fields (
    (codes "process", whole process.0) ∷ (codes "record", whole rec) ∷ []))
act_listing kinds (Sync process) = under (codes "sync") (process_value process)
act_listing kinds (Up process) = under (codes "up") (process_value process)
act_listing kinds (Tick ticks) = under (codes "tick") (under (codes "ticks") (whole ticks))
act_listing kinds (Give grant) =
    under (codes "give") (with_fields (
    (codes "actor", whole grant.actor)
    ∷ (codes "kinds", deeds_value kinds)
    ∷ (codes "scope", scope_value grant.scope)
    ∷ []))
act_listing kinds (Take actor index) =
    under (codes "take") (with_fields (
    (codes "actor", whole actor) ∷ (codes "index", whole index) ∷ []))
act_listing kinds (Protect process protected) =
    under (codes "protect") (protection_value kinds process)
act_listing kinds (Unprotect process protected) =
    under (codes "unprotect") (protection_value kinds process)
act_listing kinds (CopyTo from rec to) =
    under (codes "copy") (with_fields (
    (codes "from", whole from.0) ∷ (codes "record", whole rec) ∷ (codes "to", whole to.0) ∷ []))
act_listing kinds (Replace team out into) =
    under (codes "replace") (with_fields (
    (codes "into", whole into.0) ∷ (codes "out", whole out.0) ∷ (codes "team", whole team) ∷ []))
act_listing kinds (Heal process) = under (codes "heal") (process_value process)

-- the kinds that an act names, if it names any
abbrev pub kinds_in : Act → Members
kinds_in (Give grant) = grant.kinds
kinds_in (Protect process kinds) = kinds
kinds_in (Unprotect process kinds) = kinds
kinds_in (Kill order) = no_deed
kinds_in (Clog target ticks) = no_deed
kinds_in (Unclog target) = no_deed
kinds_in (Form members policy) = no_deed
kinds_in (Begin team payload) = no_deed
kinds_in (Deliver message) = no_deed
kinds_in (Lose message) = no_deed
kinds_in (Resend rec process) = no_deed
kinds_in (Sync process) = no_deed
kinds_in (Up process) = no_deed
kinds_in (Tick ticks) = no_deed
kinds_in (Take actor index) = no_deed
kinds_in (CopyTo from rec to) = no_deed
kinds_in (Replace team out into) = no_deed
kinds_in (Heal process) = no_deed

-- the one value of an act, with each kind once and in order
abbrev pub act_data : Act → Data
act_data act = act_listing (in_order (kinds_in act)) act

-- ---- replies

-- why a kind is barred, if it is
abbrev pub rule_data : Option Rule → Data
rule_data None = null
rule_data (Some NoTarget) = alone (codes "NoTarget")
rule_data (Some (NoGrant process)) = numbered (codes "NoGrant") process.0
rule_data (Some (Protected process)) = numbered (codes "Protected") process.0
rule_data (Some (TooManyDestroyed policy)) = numbered (codes "TooManyDestroyed") policy
rule_data (Some (TooFewLeft policy)) = numbered (codes "TooFewLeft") policy

-- the kind that struck, if one did
abbrev pub struck_data : Option Kind → Data
struck_data None = null
struck_data (Some kind) = string (kind_text kind)

-- what came of an order
abbrev pub verdict_data : Verdicts → Data
verdict_data verdict =
    with_fields (
    (codes "rule", rule_data verdict.rule) ∷ (codes "struck", struck_data verdict.struck) ∷ [])

-- why an act was refused
abbrev pub refusal_data : Refusal → Data
refusal_data Stranger = alone (codes "Stranger")
refusal_data WrongRole = alone (codes "WrongRole")
refusal_data TooMany = alone (codes "TooMany")
refusal_data NoPolicy = alone (codes "NoPolicy")
refusal_data NoProcess = alone (codes "NoProcess")
refusal_data Gone = alone (codes "Gone")
refusal_data (TeamShort policy) = numbered (codes "TeamShort") policy
refusal_data NoTeam = alone (codes "NoTeam")
refusal_data Payload = alone (codes "Payload")
refusal_data NetFull = alone (codes "NetFull")
refusal_data NoMessage = alone (codes "NoMessage")
refusal_data Clogged = alone (codes "Clogged")
refusal_data NotUp = alone (codes "NotUp")
refusal_data NoRecord = alone (codes "NoRecord")
refusal_data NotMember = alone (codes "NotMember")
refusal_data Acked = alone (codes "Acked")
refusal_data IsUp = alone (codes "IsUp")
refusal_data ClockEnd = alone (codes "ClockEnd")
refusal_data NoActor = alone (codes "NoActor")
refusal_data Full = alone (codes "Full")
refusal_data NoSuch = alone (codes "NoSuch")
refusal_data NoCopy = alone (codes "NoCopy")
refusal_data IsMember = alone (codes "IsMember")
refusal_data NotDestroyed = alone (codes "NotDestroyed")
refusal_data (StillNeeds rec) = numbered (codes "StillNeeds") rec

-- the one value of a reply
abbrev pub reply_data : Reply → Data
reply_data (Verdict verdict) = under (codes "verdict") (verdict_data verdict)
reply_data (Ruled rule) = under (codes "ruled") (rule_data rule)
reply_data (Formed team) = under (codes "formed") (whole team)
reply_data (Begun rec first) =
    under (codes "begun") (with_fields (
    (codes "first", whole first) ∷ (codes "record", whole rec) ∷ []))
reply_data Stored = string (codes "stored")
reply_data (Marked acked) = under (codes "marked") (boolean acked)
reply_data (Sent message) = under (codes "sent") (whole message)
reply_data (Synced first count) =
    under (codes "synced") (with_fields (
    (codes "count", whole count) ∷ (codes "first", whole first) ∷ []))
reply_data (Time now) = under (codes "time") (whole now)
reply_data Done = string (codes "done")
reply_data (No refusal) = under (codes "no") (refusal_data refusal)

-- ---- entries

-- the one value of an entry
abbrev pub entry_data : Entry → Data
entry_data entry =
    with_fields (
    (codes "act", act_data entry.act)
    ∷ (codes "at", whole entry.at)
    ∷ (codes "by", whole entry.by)
    ∷ (codes "reply", reply_data entry.reply)
    ∷ [])

-- the one text of an entry, without its line end
unfoldable pub text_of : Entry → List ℕ
text_of entry = compact_text (entry_data entry)
