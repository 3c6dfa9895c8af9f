-- what a value asks for, if anything: each act is told by the one member of its object
use Rattle.std.specs.Prelude.{◌≡◌, ◌<◌, ℕ, ◌^◌, nat_lt, List, [], ◌∷◌, codes, if◌then◌else◌, bytes_eq, Option, Some, None, option_map, Result, Ok, Err}
use Rattle.std.specs.Option.{option_or}
use Rattle.serde_json.specs.Data.{Data, Items, no_items, item, Members as Fields, no_members, member}
use Rattle.serde_json.specs.Find.{as_object, as_array, as_str, as_number, as_u64}
use Rattle.hex.specs.Hex.{decode_of, encode_lower}
use Rattle.hex.specs.declared.error.FromHexError.{FromHexError}
use Rattle.fy_locality.specs.Chain.{◌>>=◌}
use Rattle.fy_locality.specs.Key.{key_named}
use Rattle.fy_locality.specs.Name.{is_name}
use Rattle.fy_locality.specs.declared.ProcId.{ProcId}
use Rattle.fy_locality.specs.declared.key.Key.{Key}
use Rattle.fy_kinds.specs.Kinds.{Deed, deed_named, kind_named, rank}
use Rattle.fy_kinds.specs.Members.{Members}
use Rattle.fy_kinds.specs.Orders.{Order as Orders}
use Rattle.fy_kinds.specs.declared.kind.Kind.{Kind}
use Rattle.fy_kinds.specs.declared.order.Target.{Target}
use Rattle.fy_grants.specs.declared.grant.Scope.{Scope}
use Rattle.fy_grants.specs.declared.grant.Scope.TheVariants.{All, Where}
use Rattle.fy_team.specs.Members.{are_members}
use Rattle.fy_spelling.specs.Command.{gathered}
use Rattle.fy_acts.specs.declared.act.Act.{Act}
use Rattle.fy_acts.specs.declared.act.Act.TheVariants as act
use Rattle.fy_spelling.specs.declared.command.LineFault.{LineFault}
use Rattle.fy_spelling.specs.declared.command.LineFault.TheVariants.{Floor}
use Rattle.fy_spelling.specs.declared.reading.UncheckedAct.{UncheckedAct}
use Rattle.fy_spelling.specs.declared.reading.UncheckedAct.TheVariants.{Order, Other}

-- ---- members of objects

-- the value of the first member and the members behind it, where it has this key
abbrev pub next_at : List ℕ → Fields → Option (Data × Fields)
next_at key no_members = None
next_at key (member k d ms) = if bytes_eq k key then Some (d, ms) else None

-- the first member and those behind it
abbrev pub first_of : Fields → Option ((List ℕ × Data) × Fields)
first_of no_members = None
first_of (member k d ms) = Some ((k, d), ms)

-- what was found, where no member is left
abbrev pub at_end : {A : Type 0} → Fields → A → Option A
at_end no_members x = Some x
at_end (member k d ms) x = None

-- the one member of an object
abbrev pub sole : Data → Option (List ℕ × Data)
sole d = do
  ms ← as_object d
  a ← first_of ms
  at_end a.1 a.0

-- the value of an object's one member, which has this key
abbrev pub one : List ℕ → Data → Option Data
one key d = do
  ms ← as_object d
  a ← next_at key ms
  at_end a.1 a.0

-- the values of an object's two members, which have these keys
abbrev pub two : List ℕ → List ℕ → Data → Option (Data × Data)
two first second d = do
  ms ← as_object d
  a ← next_at first ms
  b ← next_at second a.1
  at_end b.1 (a.0, b.0)

-- the values of an object's three members, which have these keys
abbrev pub three : List ℕ → List ℕ → List ℕ → Data → Option (Data × Data × Data)
three first second third d = do
  ms ← as_object d
  a ← next_at first ms
  b ← next_at second a.1
  c ← next_at third b.1
  at_end c.1 (a.0, b.0, c.0)

-- the values of an object's five members, which have these keys
abbrev pub five :
    List ℕ → List ℕ → List ℕ → List ℕ → List ℕ → Data
    → Option (Data × Data × Data × Data × Data)
five first second third fourth fifth d = do
  ms ← as_object d
  a ← next_at first ms
  b ← next_at second a.1
  c ← next_at third b.1
  e ← next_at fourth c.1
  f ← next_at fifth e.1
  at_end f.1 (a.0, b.0, c.0, e.0, f.0)

-- ---- numbers

-- a number below a bound
abbrev pub below : ℕ → ℕ → Option ℕ
below bound n = if nat_lt n bound then Some n else None

-- a number of 64 bits
abbrev pub u64_from : Data → Option ℕ
u64_from d = do
  number ← as_number d
  n ← as_u64 number
  below (2 ^ 64) n

-- a number of 32 bits
abbrev pub u32_from : Data → Option ℕ
u32_from d = u64_from d >>= below (2 ^ 32)

-- the number of a process
abbrev pub process_from : Data → Option ProcId
process_from d = option_map (λ n. record { 0 = n }) (u32_from d)

-- the numbers of processes
abbrev pub processes_from : Items → Option (List ProcId)
processes_from no_items = Some []
processes_from (item d ds) =
    process_from d >>= λ p. option_map (λ ps. p ∷ ps) (processes_from ds)

-- the members of a team
abbrev pub members_from : Data → Option (List ProcId)
members_from d = do
  items ← as_array d
  ps ← processes_from items
  if are_members ps then Some ps else None

-- ---- words

-- a kind, a key, a name
abbrev pub kind_from : Data → Option Kind
kind_from d = as_str d >>= kind_named

-- a key by its text
abbrev pub key_from : Data → Option Key
key_from d = as_str d >>= key_named

-- a text that is a name
abbrev pub name_from : Data → Option (List ℕ)
name_from d = as_str d >>= λ text. if is_name text then Some text else None

-- the target of a key and a value
abbrev pub target_from : Data → Data → Option Target
target_from key value = do
  key ← key_from key
  name ← name_from value
  Some (record { key = key; value = name })

-- a deed by its word
abbrev pub deed_from : Data → Option Deed
deed_from d = as_str d >>= deed_named

-- the deeds of a list of words
abbrev pub deeds_from : Items → Option (List Deed)
deeds_from no_items = Some []
deeds_from (item d ds) = deed_from d >>= λ deed. option_map (λ more. deed ∷ more) (deeds_from ds)

-- the set of the deeds of a list of words
abbrev pub kinds_from : Data → Option Members
kinds_from d = option_map gathered (as_array d >>= deeds_from)

-- what a reading gave, if it gave something
abbrev pub given : Result (List ℕ) FromHexError → Option (List ℕ)
given (Ok bytes) = Some bytes
given (Err e) = None

-- the bytes of a text of two lower-case digits each
abbrev pub payload_from : Data → Option (List ℕ)
payload_from d = do
  text ← as_str d
  bytes ← given (decode_of text)
  if bytes_eq (encode_lower bytes) text then Some bytes else None

-- ---- what acts hold

-- a number of 64 bits at the one key
abbrev pub u64_in : List ℕ → Data → Option ℕ
u64_in key d = one key d >>= u64_from

-- a process at the key of one
abbrev pub process_in : Data → Option ProcId
process_in d = one (codes "process") d >>= process_from

-- the target of an object of a key and a value
abbrev pub target_in : Data → Option Target
target_in d = do
  values ← two (codes "key") (codes "value") d
  target_from values.0 values.1

-- a target and ticks
abbrev pub clog_in : Data → Option (Target × ℕ)
clog_in d = do
  values ← three (codes "key") (codes "ticks") (codes "value") d
  target ← target_from values.0 values.2
  ticks ← u64_from values.1
  Some (target, ticks)

-- every process by a word, or those of a target
abbrev pub scope_by : Option (List ℕ) → Data → Option Scope
scope_by (Some word) d = if bytes_eq word (codes "all") then Some All else None
scope_by None d = option_map Where (target_in d)

-- a scope: a word, or a target
abbrev pub scope_from : Data → Option Scope
scope_from d = scope_by (as_str d) d

-- ---- acts

-- an order, whether or not its floor is above its kind
abbrev pub order_in : Data → Option UncheckedAct
order_in d = do
  values ← five (codes "floor") (codes "key") (codes "kind") (codes "tear") (codes "value") d
  floor ← kind_from values.0
  target ← target_from values.1 values.4
  kind ← kind_from values.2
  tear ← u64_from values.3
  Some (Order target kind floor tear)

-- the form of a team
abbrev pub form_in : Data → Option Act
form_in d = do
  values ← two (codes "members") (codes "policy") d
  policy ← u32_from values.1
  members ← members_from values.0
  Some (act.Form members policy)

-- the begin of a record
abbrev pub begin_in : Data → Option Act
begin_in d = do
  values ← two (codes "payload") (codes "team") d
  team ← u32_from values.1
  payload ← payload_from values.0
  Some (act.Begin team payload)

-- a grant
abbrev pub give_in : Data → Option Act
give_in d = do
  values ← three (codes "actor") (codes "kinds") (codes "scope") d
  actor ← u32_from values.0
  kinds ← kinds_from values.1
  scope ← scope_from values.2
  Some (act.Give (record { actor = actor; kinds = kinds; scope = scope }))

-- a process and kinds
abbrev pub protection_in : Data → Option (ProcId × Members)
protection_in d = do
  values ← two (codes "kinds") (codes "process") d
  kinds ← kinds_from values.0
  process ← process_from values.1
  Some (process, kinds)

-- a record and a process
abbrev pub resend_in : Data → Option Act
resend_in d = do
  values ← two (codes "process") (codes "record") d
  process ← process_from values.0
  rec ← u32_from values.1
  Some (act.Resend rec process)

-- a grant's place
abbrev pub take_in : Data → Option Act
take_in d = do
  values ← two (codes "actor") (codes "index") d
  actor ← u32_from values.0
  index ← u32_from values.1
  Some (act.Take actor index)

-- a copy of a record
abbrev pub copy_in : Data → Option Act
copy_in d = do
  values ← three (codes "from") (codes "record") (codes "to") d
  from ← process_from values.0
  rec ← u32_from values.1
  to ← process_from values.2
  Some (act.CopyTo from rec to)

-- the replacement of a member
abbrev pub replace_in : Data → Option Act
replace_in d = do
  values ← three (codes "into") (codes "out") (codes "team") d
  into ← process_from values.0
  out ← process_from values.1
  team ← u32_from values.2
  Some (act.Replace team out into)

-- an act of a target or of ticks, by its name
abbrev pub clog_or_tick_from : List ℕ → Data → Option Act
clog_or_tick_from name d =
    if bytes_eq name (codes "clog") then option_map (λ c. act.Clog c.0 c.1) (clog_in d)
    else if bytes_eq name (codes "unclog") then option_map act.Unclog (target_in d)
    else if bytes_eq name (codes "tick") then option_map act.Tick (u64_in (codes "ticks") d)
    else None

-- an act of a process or a message, by its name
abbrev pub message_act_from : List ℕ → Data → Option Act
message_act_from name d =
    if bytes_eq name (codes "deliver") then option_map act.Deliver (u64_in (codes "message") d)
    else if bytes_eq name (codes "lose") then option_map act.Lose (u64_in (codes "message") d)
    else if bytes_eq name (codes "resend") then resend_in d
    else if bytes_eq name (codes "sync") then option_map act.Sync (process_in d)
    else if bytes_eq name (codes "up") then option_map act.Up (process_in d)
    else None

-- an act of rights, by its name
abbrev pub rights_act_from : List ℕ → Data → Option Act
rights_act_from name d =
    if bytes_eq name (codes "give") then give_in d
    else if bytes_eq name (codes "take") then take_in d
    else if bytes_eq name (codes "protect") then
    option_map (λ p. act.Protect p.0 p.1) (protection_in d)
    else if bytes_eq name (codes "unprotect") then
    option_map (λ p. act.Unprotect p.0 p.1) (protection_in d)
    else None

-- an act of healing, by its name
abbrev pub healing_act_from : List ℕ → Data → Option Act
healing_act_from name d =
    if bytes_eq name (codes "copy") then copy_in d
    else if bytes_eq name (codes "replace") then replace_in d
    else if bytes_eq name (codes "heal") then option_map act.Heal (process_in d)
    else None

-- any act but a kill, a form and a begin: one group at most has its name
abbrev pub plain_act_from : List ℕ → Data → Option Act
plain_act_from name d =
    option_or (option_or (option_or (clog_or_tick_from name d) (message_act_from name d))
    (rights_act_from name d)) (healing_act_from name d)

-- any act, by its name
abbrev pub named_act_from : List ℕ → Data → Option UncheckedAct
named_act_from name d =
    if bytes_eq name (codes "kill") then order_in d
    else if bytes_eq name (codes "form") then option_map Other (form_in d)
    else if bytes_eq name (codes "begin") then option_map Other (begin_in d)
    else option_map Other (plain_act_from name d)

-- what an act's value asks for
abbrev pub act_from : Data → Option UncheckedAct
act_from d = do
  named ← sole d
  named_act_from named.0 named.1

-- who asks for which act
abbrev pub command_from : Data → Option (ℕ × UncheckedAct)
command_from d = do
  values ← two (codes "act") (codes "by") d
  by ← u32_from values.1
  asked ← act_from values.0
  Some (by, asked)

-- the act kills by an order of these parts
pub record IsKill (kill : Act) (target : Target) (kind floor : Kind) (tear : ℕ) : Type 0 where
  pub order : Orders
  pub is : kill ≡ act.Kill order
  pub target_is : order.target ≡ target
  pub kind_is : order.kind ≡ kind
  pub floor_is : order.floor ≡ floor
  pub tear_is : order.tear ≡ tear

-- the act that is asked for, or the fault of a floor above its kind
abbrev pub IsCheckedAct : UncheckedAct → Result Act LineFault → Type 0
IsCheckedAct (Order target kind floor tear) (Ok kill) = IsKill kill target kind floor tear
IsCheckedAct (Order target kind floor tear) (Err fault) = (fault ≡ Floor) × (rank kind < rank floor)
IsCheckedAct (Other asked) checked_act = checked_act ≡ Ok asked
