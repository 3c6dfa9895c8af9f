-- what a value tells of a reply or an entry, if anything. More is found than is written: whoever
-- finds something writes it again and compares
use Rattle.std.specs.Prelude.{ℕ, List, codes, if◌then◌else◌, bytes_eq, Option, Some, None, option_map}
use Rattle.std.specs.Option.{option_or}
use Rattle.serde_json.specs.Data.{Data}
use Rattle.serde_json.specs.Find.{as_bool, as_object, as_str, at}
use Rattle.fy_locality.specs.declared.ProcId.{ProcId}
use Rattle.fy_kinds.specs.declared.verdict.Rule.{Rule}
use Rattle.fy_kinds.specs.declared.verdict.Rule.TheVariants as rule
use Rattle.fy_kinds.specs.declared.verdict.Verdict.{Verdict}
use Rattle.fy_locality.specs.Chain.{◌>>=◌}
use Rattle.fy_spelling.specs.Candidate.{next_at, at_end, sole, two, u64_from, u32_from, process_from, kind_from, act_from}
use Rattle.fy_spelling.specs.declared.reading.UncheckedAct.{UncheckedAct}
use Rattle.fy_acts.specs.declared.reply.Refusal.{Refusal}
use Rattle.fy_acts.specs.declared.reply.Refusal.TheVariants.{Stranger, WrongRole, TooMany, NoPolicy, NoProcess, Gone, TeamShort, NoTeam, Payload, NetFull, NoMessage, Clogged, NotUp, NoRecord, NotMember, Acked, IsUp, ClockEnd, NoActor, Full, NoSuch, NoCopy, IsMember, NotDestroyed, StillNeeds}
use Rattle.fy_acts.specs.declared.reply.Reply.{Reply}
use Rattle.fy_acts.specs.declared.reply.Reply.TheVariants as reply

-- the word that a list begins with, and the number or the process behind it
abbrev pub first_word : Data → Option (List ℕ)
first_word d = at 0 d >>= as_str

-- the number behind that word
abbrev pub second_number : Data → Option ℕ
second_number d = at 1 d >>= u32_from

-- the process behind that word
abbrev pub second_process : Data → Option ProcId
second_process d = at 1 d >>= process_from

-- ---- rules

-- a rule by its word, with what it names
abbrev pub rule_by : List ℕ → Data → Option Rule
rule_by word d =
    if bytes_eq word (codes "NoTarget") then Some rule.NoTarget
    else if bytes_eq word (codes "NoGrant") then option_map rule.NoGrant (second_process d)
    else if bytes_eq word (codes "Protected") then option_map rule.Protected (second_process d)
    else if bytes_eq word (codes "TooManyDestroyed") then
    option_map rule.TooManyDestroyed (second_number d)
    else if bytes_eq word (codes "TooFewLeft") then option_map rule.TooFewLeft (second_number d)
    else None

-- the rule of a list; nothing but a list has one
abbrev pub rule_from : Data → Option Rule
rule_from d = first_word d >>= λ word. rule_by word d

-- ---- refusals

-- refusals that speak of processes and their messages
abbrev pub refusal_of_processes : List ℕ → Option Refusal
refusal_of_processes word =
    if bytes_eq word (codes "NoProcess") then Some NoProcess
    else if bytes_eq word (codes "Gone") then Some Gone
    else if bytes_eq word (codes "NetFull") then Some NetFull
    else if bytes_eq word (codes "NoMessage") then Some NoMessage
    else if bytes_eq word (codes "Clogged") then Some Clogged
    else if bytes_eq word (codes "NotUp") then Some NotUp
    else if bytes_eq word (codes "IsUp") then Some IsUp
    else None

-- refusals that speak of teams and records
abbrev pub refusal_of_teams : List ℕ → Option Refusal
refusal_of_teams word =
    if bytes_eq word (codes "TooMany") then Some TooMany
    else if bytes_eq word (codes "NoPolicy") then Some NoPolicy
    else if bytes_eq word (codes "NoTeam") then Some NoTeam
    else if bytes_eq word (codes "Payload") then Some Payload
    else if bytes_eq word (codes "NoRecord") then Some NoRecord
    else if bytes_eq word (codes "NotMember") then Some NotMember
    else if bytes_eq word (codes "Acked") then Some Acked
    else None

-- refusals that speak of actors and the clock
abbrev pub refusal_of_actors : List ℕ → Option Refusal
refusal_of_actors word =
    if bytes_eq word (codes "Stranger") then Some Stranger
    else if bytes_eq word (codes "WrongRole") then Some WrongRole
    else if bytes_eq word (codes "ClockEnd") then Some ClockEnd
    else if bytes_eq word (codes "NoActor") then Some NoActor
    else if bytes_eq word (codes "Full") then Some Full
    else if bytes_eq word (codes "NoSuch") then Some NoSuch
    else None

-- any refusal
abbrev pub refusal_by : List ℕ → Data → Option Refusal
refusal_by word d =
    if bytes_eq word (codes "TeamShort") then option_map TeamShort (second_number d)
    else if bytes_eq word (codes "StillNeeds") then option_map StillNeeds (second_number d)
    else if bytes_eq word (codes "NoCopy") then Some NoCopy
    else if bytes_eq word (codes "IsMember") then Some IsMember
    else if bytes_eq word (codes "NotDestroyed") then Some NotDestroyed
    else option_or (option_or (refusal_of_actors word) (refusal_of_teams word))
    (refusal_of_processes word)

-- the refusal of a list
abbrev pub refusal_from : Data → Option Refusal
refusal_from d = first_word d >>= λ word. refusal_by word d

-- ---- replies

-- what came of an order; whatever is no kind's name tells that none struck
abbrev pub verdict_from : Data → Option Verdict
verdict_from d = do
  values ← two (codes "rule") (codes "struck") d
  Some (record { struck = kind_from values.1; rule = rule_from values.0 })

-- a record that was begun, by its two numbers
abbrev pub begun_from : Data → Option Reply
begun_from d = do
  values ← two (codes "first") (codes "record") d
  first ← u64_from values.0
  rec ← u32_from values.1
  Some (reply.Begun rec first)

-- what was synced, by its two numbers
abbrev pub synced_from : Data → Option Reply
synced_from d = do
  values ← two (codes "count") (codes "first") d
  count ← u32_from values.0
  first ← u64_from values.1
  Some (reply.Synced first count)

-- a reply of numbers, by its name
abbrev pub numbers_by : List ℕ → Data → Option Reply
numbers_by name d =
    if bytes_eq name (codes "formed") then option_map reply.Formed (u32_from d)
    else if bytes_eq name (codes "begun") then begun_from d
    else if bytes_eq name (codes "sent") then option_map reply.Sent (u64_from d)
    else if bytes_eq name (codes "synced") then synced_from d
    else if bytes_eq name (codes "time") then option_map reply.Time (u64_from d)
    else None

-- any reply of an object, by its name
abbrev pub reply_by : List ℕ → Data → Option Reply
reply_by name d =
    if bytes_eq name (codes "verdict") then option_map reply.Verdict (verdict_from d)
    else if bytes_eq name (codes "ruled") then Some (reply.Ruled (rule_from d))
    else if bytes_eq name (codes "marked") then option_map reply.Marked (as_bool d)
    else if bytes_eq name (codes "no") then option_map reply.No (refusal_from d)
    else numbers_by name d

-- a reply that is a word, or an object with one member
abbrev pub reply_at : Option (List ℕ) → Data → Option Reply
reply_at (Some word) d =
    if bytes_eq word (codes "stored") then Some reply.Stored
    else if bytes_eq word (codes "done") then Some reply.Done
    else None
reply_at None d = sole d >>= λ named. reply_by named.0 named.1

-- any reply
abbrev pub reply_from : Data → Option Reply
reply_from d = reply_at (as_str d) d

-- ---- entries

-- the values of an object's four members, which have these keys
abbrev pub four :
    List ℕ → List ℕ → List ℕ → List ℕ → Data → Option (Data × Data × Data × Data)
four first second third fourth d = do
  ms ← as_object d
  a ← next_at first ms
  b ← next_at second a.1
  c ← next_at third b.1
  e ← next_at fourth c.1
  at_end e.1 (a.0, b.0, c.0, e.0)

-- what was asked, where it stands, who asked, and the reply
abbrev pub entry_from : Data → Option (UncheckedAct × ℕ × ℕ × Reply)
entry_from d = do
  values ← four (codes "act") (codes "at") (codes "by") (codes "reply") d
  place ← u32_from values.1
  by ← u32_from values.2
  told ← reply_from values.3
  asked ← act_from values.0
  Some (asked, place, by, told)
