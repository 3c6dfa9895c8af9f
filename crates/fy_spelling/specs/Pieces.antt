-- texts as they are written, piece by piece
use Rattle.std.specs.Prelude.{⊤, ℕ, List, [], ◌∷◌, ◌++◌, Bool, true, false, codes, decimal, Option, Some, None}
use Rattle.std.specs.List.{AllByRecursion}
use Rattle.serde_json.specs.Written.{comma_if}
use Rattle.hex.specs.Hex.{encode_lower}
use Rattle.fy_locality.specs.Key.{key_text}
use Rattle.fy_locality.specs.declared.ProcId.{ProcId}
use Rattle.fy_kinds.specs.Kinds.{Deed, deed_text, kind_text}
use Rattle.fy_kinds.specs.declared.order.Target.{Target}
use Rattle.fy_kinds.specs.Orders.{Order}
use Rattle.fy_grants.specs.declared.grant.Grant.{Grant}
use Rattle.fy_grants.specs.declared.grant.Scope.{Scope}
use Rattle.fy_grants.specs.declared.grant.Scope.TheVariants.{All, Where}
use Rattle.fy_kinds.specs.Members.{Members}
use Rattle.fy_spelling.specs.Fits.{IsByte, FitsTarget, FitsScope}
use Rattle.fy_spelling.specs.Values.{in_order}
use Rattle.fy_acts.specs.declared.act.Act.{Act}
use Rattle.fy_acts.specs.declared.act.Act.TheVariants.{Kill, Clog, Unclog, Form, Begin, Deliver, Lose, Resend, Sync, Up, Tick, Give, Take, Protect, Unprotect, CopyTo, Replace, Heal}
use Rattle.fy_kinds.specs.declared.kind.Kind.{Kind}
use Rattle.fy_kinds.specs.declared.verdict.Rule.{Rule}
use Rattle.fy_kinds.specs.declared.verdict.Rule.TheVariants.{NoTarget, NoGrant, Protected, TooManyDestroyed, TooFewLeft}
use Rattle.fy_kinds.specs.declared.verdict.Verdict.{Verdict as Verdicts}
use Rattle.fy_acts.specs.declared.reply.Refusal.{Refusal}
use Rattle.fy_acts.specs.declared.reply.Refusal.TheVariants.{Stranger, WrongRole, TooMany, NoPolicy, NoProcess, Gone, TeamShort, NoTeam, Payload, NetFull, NoMessage, Clogged, NotUp, NoRecord, NotMember, Acked, IsUp, ClockEnd, NoActor, Full, NoSuch, NoCopy, IsMember, NotDestroyed, StillNeeds}
use Rattle.fy_acts.specs.declared.reply.Reply.{Reply}
use Rattle.fy_acts.specs.declared.reply.Reply.TheVariants.{Verdict, Ruled, Formed, Begun, Stored, Marked, Sent, Synced, Time, Done, No}
use Rattle.fy_acts.specs.declared.entry.Entry.{Entry}
use Rattle.fy_spelling.specs.declared.command.Command.{Command}

-- ---- one, two and three numbers, each behind what stands before it

-- one number behind a text, and the end of two objects
abbrev pub one_text : List ℕ → ℕ → List ℕ
one_text a m = a ++ (decimal m ++ codes "}}")

-- two numbers, each behind a text, and the end of two objects
abbrev pub two_text : List ℕ → ℕ → List ℕ → ℕ → List ℕ
two_text a m b n = a ++ (decimal m ++ (b ++ (decimal n ++ codes "}}")))

-- three numbers, each behind a text, and the end of two objects
abbrev pub three_text : List ℕ → ℕ → List ℕ → ℕ → List ℕ → ℕ → List ℕ
three_text a m b n c k = a ++ (decimal m ++ (b ++ (decimal n ++ (c ++ (decimal k ++ codes "}}")))))

-- ---- parts of acts

-- a number, and then a name
abbrev pub valued_text : List ℕ → ℕ → List ℕ → List ℕ
valued_text head n value =
    head ++ (decimal n ++ (codes ",\"value\":\"" ++ (value ++ codes "\"}}")))

-- a key, and then a name
abbrev pub target_text : List ℕ → Target → List ℕ → List ℕ
target_text head target tail =
    head ++ (key_text target.key ++ (codes "\",\"value\":\"" ++ (target.value ++ tail)))

-- a key and a kind
abbrev pub keys_text : List ℕ → List ℕ → List ℕ
keys_text key kind = codes "\",\"key\":\"" ++ (key ++ (codes "\",\"kind\":\"" ++ kind))

-- the head of a kill: its floor, a key and its kind
abbrev pub kill_head_text : List ℕ → List ℕ → List ℕ → List ℕ
kill_head_text floor key kind = codes "{\"kill\":{\"floor\":\"" ++ (floor ++ keys_text key kind)

-- an order to kill
abbrev pub order_text : Order → List ℕ
order_text o =
    kill_head_text (kind_text o.floor) (key_text o.target.key) (kind_text o.kind)
    ++ valued_text (codes "\",\"tear\":") o.tear o.target.value

-- a clog of a target, for so many ticks
abbrev pub clog_text : Target → ℕ → List ℕ
clog_text target ticks =
    codes "{\"clog\":{\"key\":\"" ++ (key_text target.key
    ++ valued_text (codes "\",\"ticks\":") ticks target.value)

-- processes, from the second on with a comma before each
abbrev pub processes_text : Bool → List ProcId → List ℕ
processes_text later [] = []
processes_text later (p ∷ ps) = comma_if later ++ (decimal p.0 ++ processes_text true ps)

-- deeds, from the second on with a comma before each
abbrev pub deeds_text : Bool → List Deed → List ℕ
deeds_text later [] = []
deeds_text later (d ∷ ds) =
    comma_if later ++ (codes "\"" ++ (deed_text d ++ (codes "\"" ++ deeds_text true ds)))

-- a team that is formed: its members and its policy
abbrev pub form_text : List ProcId → ℕ → List ℕ
form_text members policy =
    codes "{\"form\":{\"members\":[" ++ (processes_text false members
    ++ one_text (codes "],\"policy\":") policy)

-- a record that is begun: its payload and its team
abbrev pub begin_text : ℕ → List ℕ → List ℕ
begin_text team payload =
    codes "{\"begin\":{\"payload\":\"" ++ (encode_lower payload
    ++ one_text (codes "\",\"team\":") team)

-- the scope of a grant, which is all or a target
abbrev pub scope_text : Scope → List ℕ
scope_text All = codes "],\"scope\":\"all\"}}"
scope_text (Where target) = target_text (codes "],\"scope\":{\"key\":\"") target (codes "\"}}}")

-- a grant that is given
abbrev pub give_text : Grant → List ℕ
give_text grant =
    codes "{\"give\":{\"actor\":" ++ (decimal grant.actor ++ (codes ",\"kinds\":["
    ++ (deeds_text false (in_order grant.kinds) ++ scope_text grant.scope)))

-- a protection, behind the word that gives or ends it
abbrev pub protection_text : List ℕ → Members → ProcId → List ℕ
protection_text head kinds process =
    head ++ (deeds_text false (in_order kinds) ++ one_text (codes "],\"process\":") process.0)

-- ---- acts

-- an act, as an object with one member
abbrev pub act_text : Act → List ℕ
act_text (Kill order) = order_text order
act_text (Clog target ticks) = clog_text target ticks
act_text (Unclog target) = target_text (codes "{\"unclog\":{\"key\":\"") target (codes "\"}}")
act_text (Form members policy) = form_text members policy
act_text (Begin team payload) = begin_text team payload
act_text (Deliver message) = one_text (codes "{\"deliver\":{\"message\":") message
act_text (Lose message) = one_text (codes "{\"lose\":{\"message\":") message
act_text (Resend rec process) =
    two_text (codes "{\"resend\":{\"process\":") process.0 (codes ",\"record\":") rec
act_text (Sync process) = one_text (codes "{\"sync\":{\"process\":") process.0
act_text (Up process) = one_text (codes "{\"up\":{\"process\":") process.0
act_text (Tick ticks) = one_text (codes "{\"tick\":{\"ticks\":") ticks
act_text (Give grant) = give_text grant
act_text (Take actor index) =
    two_text (codes "{\"take\":{\"actor\":") actor (codes ",\"index\":") index
act_text (Protect process kinds) = protection_text (codes "{\"protect\":{\"kinds\":[") kinds process
act_text (Unprotect process kinds) =
    protection_text (codes "{\"unprotect\":{\"kinds\":[") kinds process
act_text (CopyTo from rec to) =
    three_text (codes "{\"copy\":{\"from\":") from.0 (codes ",\"record\":") rec
    (codes ",\"to\":") to.0
act_text (Replace team out into) =
    three_text (codes "{\"replace\":{\"into\":") into.0 (codes ",\"out\":") out.0
    (codes ",\"team\":") team
act_text (Heal process) = one_text (codes "{\"heal\":{\"process\":") process.0

-- nothing in the act needs an escape: its names are names, and its payload is bytes
abbrev pub NeedsNoEscape : Act → Type 0
NeedsNoEscape (Kill order) = FitsTarget order.target
NeedsNoEscape (Clog target ticks) = FitsTarget target
NeedsNoEscape (Unclog target) = FitsTarget target
NeedsNoEscape (Form members policy) = ⊤
NeedsNoEscape (Begin team payload) = AllByRecursion IsByte payload
NeedsNoEscape (Deliver message) = ⊤
NeedsNoEscape (Lose message) = ⊤
NeedsNoEscape (Resend rec process) = ⊤
NeedsNoEscape (Sync process) = ⊤
NeedsNoEscape (Up process) = ⊤
NeedsNoEscape (Tick ticks) = ⊤
NeedsNoEscape (Give grant) = FitsScope grant.scope
NeedsNoEscape (Take actor index) = ⊤
NeedsNoEscape (Protect process kinds) = ⊤
NeedsNoEscape (Unprotect process kinds) = ⊤
NeedsNoEscape (CopyTo from rec to) = ⊤
NeedsNoEscape (Replace team out into) = ⊤
NeedsNoEscape (Heal process) = ⊤

-- a command, who asks first
abbrev pub asked_text : Command → List ℕ
asked_text command =
    codes "{\"by\":" ++ (decimal command.by
    ++ (codes ",\"act\":" ++ (act_text command.act ++ codes "}")))

-- ---- replies, each as the last member of an entry, up to the entry's end

-- a number between two texts
abbrev pub between_text : List ℕ → ℕ → List ℕ → List ℕ
between_text head n tail = head ++ (decimal n ++ tail)

-- a rule, with the process or policy that it names, or null
abbrev pub rule_text : Option Rule → List ℕ
rule_text None = codes "null"
rule_text (Some NoTarget) = codes "[\"NoTarget\"]"
rule_text (Some (NoGrant process)) = between_text (codes "[\"NoGrant\",") process.0 (codes "]")
rule_text (Some (Protected process)) = between_text (codes "[\"Protected\",") process.0 (codes "]")
rule_text (Some (TooManyDestroyed policy)) =
    between_text (codes "[\"TooManyDestroyed\",") policy (codes "]")
rule_text (Some (TooFewLeft policy)) = between_text (codes "[\"TooFewLeft\",") policy (codes "]")

-- what struck, or null, up to the entry's end
abbrev pub struck_text : Option Kind → List ℕ
struck_text None = codes ",\"struck\":null}}}"
struck_text (Some kind) = codes ",\"struck\":\"" ++ (kind_text kind ++ codes "\"}}}")

-- the verdict on a kill
abbrev pub verdict_text : Verdicts → List ℕ
verdict_text verdict =
    codes ",\"reply\":{\"verdict\":{\"rule\":" ++ (rule_text verdict.rule
    ++ struck_text verdict.struck)

-- the rule that bars a clog, or null
abbrev pub ruled_text : Option Rule → List ℕ
ruled_text rule = codes ",\"reply\":{\"ruled\":" ++ (rule_text rule ++ codes "}}")

-- a record that was begun: its number and its first message
abbrev pub begun_text : ℕ → ℕ → List ℕ
begun_text rec first =
    codes ",\"reply\":{\"begun\":{\"first\":" ++ (decimal first
    ++ between_text (codes ",\"record\":") rec (codes "}}}"))

-- what was synced: the first message and how many
abbrev pub synced_text : ℕ → ℕ → List ℕ
synced_text first count =
    codes ",\"reply\":{\"synced\":{\"count\":" ++ (decimal count
    ++ between_text (codes ",\"first\":") first (codes "}}}"))

-- the word that a refusal is told by
abbrev pub refusal_word : Refusal → List ℕ
refusal_word Stranger = codes "Stranger"
refusal_word WrongRole = codes "WrongRole"
refusal_word TooMany = codes "TooMany"
refusal_word NoPolicy = codes "NoPolicy"
refusal_word NoProcess = codes "NoProcess"
refusal_word Gone = codes "Gone"
refusal_word (TeamShort policy) = codes "TeamShort"
refusal_word NoTeam = codes "NoTeam"
refusal_word Payload = codes "Payload"
refusal_word NetFull = codes "NetFull"
refusal_word NoMessage = codes "NoMessage"
refusal_word Clogged = codes "Clogged"
refusal_word NotUp = codes "NotUp"
refusal_word NoRecord = codes "NoRecord"
refusal_word NotMember = codes "NotMember"
refusal_word Acked = codes "Acked"
refusal_word IsUp = codes "IsUp"
refusal_word ClockEnd = codes "ClockEnd"
refusal_word NoActor = codes "NoActor"
refusal_word Full = codes "Full"
refusal_word NoSuch = codes "NoSuch"
refusal_word NoCopy = codes "NoCopy"
refusal_word IsMember = codes "IsMember"
refusal_word NotDestroyed = codes "NotDestroyed"
refusal_word (StillNeeds rec) = codes "StillNeeds"

-- what stands behind that word: its number, if it has one, and the end of the entry
abbrev pub refusal_end : Refusal → List ℕ
refusal_end (TeamShort policy) = between_text (codes "\",") policy (codes "]}}")
refusal_end (StillNeeds rec) = between_text (codes "\",") rec (codes "]}}")
refusal_end _ = codes "\"]}}"

-- a refusal
abbrev pub refusal_text : Refusal → List ℕ
refusal_text refusal =
    codes ",\"reply\":{\"no\":[\"" ++ (refusal_word refusal ++ refusal_end refusal)

-- whether a delivered acknowledgement acknowledged its record
abbrev pub marked_text : Bool → List ℕ
marked_text true = codes ",\"reply\":{\"marked\":true}}"
marked_text false = codes ",\"reply\":{\"marked\":false}}"

-- any reply
abbrev pub reply_text : Reply → List ℕ
reply_text (Verdict verdict) = verdict_text verdict
reply_text (Ruled rule) = ruled_text rule
reply_text (Formed team) = one_text (codes ",\"reply\":{\"formed\":") team
reply_text (Begun rec first) = begun_text rec first
reply_text Stored = codes ",\"reply\":\"stored\"}"
reply_text (Marked acked) = marked_text acked
reply_text (Sent message) = one_text (codes ",\"reply\":{\"sent\":") message
reply_text (Synced first count) = synced_text first count
reply_text (Time now) = one_text (codes ",\"reply\":{\"time\":") now
reply_text Done = codes ",\"reply\":\"done\"}"
reply_text (No refusal) = refusal_text refusal

-- ---- entries

-- an act, its place and whose it is
abbrev pub front_text : Entry → List ℕ
front_text entry =
    codes "{\"act\":" ++ (act_text entry.act
    ++ (codes ",\"at\":" ++ (decimal entry.at ++ (codes ",\"by\":" ++ decimal entry.by))))

-- an entry: its act, its place and actor, its reply
abbrev pub entry_pieces : Entry → List ℕ
entry_pieces entry = front_text entry ++ reply_text entry.reply
