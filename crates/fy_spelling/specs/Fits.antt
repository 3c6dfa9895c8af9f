-- the acts and entries that a program can hold: their numbers and lists are within their types
use Rattle.std.specs.Prelude.{◌≡◌, ◌<◌, ◌^◌, ℕ, List, true, Option, Some, None, ⊤, IsTrue}
use Rattle.std.specs.List.{AllByRecursion}
use Rattle.fy_locality.specs.Name.{is_name}
use Rattle.fy_locality.specs.declared.ProcId.{ProcId}
use Rattle.fy_kinds.specs.declared.order.Target.{Target}
use Rattle.fy_kinds.specs.declared.verdict.Rule.{Rule}
use Rattle.fy_kinds.specs.declared.verdict.Rule.TheVariants.{NoTarget, NoGrant, Protected, TooManyDestroyed, TooFewLeft}
use Rattle.fy_grants.specs.declared.grant.Scope.{Scope}
use Rattle.fy_grants.specs.declared.grant.Scope.TheVariants.{All, Where}
use Rattle.fy_team.specs.Members.{are_members}
use Rattle.fy_acts.specs.declared.act.Act.{Act}
use Rattle.fy_acts.specs.declared.act.Act.TheVariants.{Kill, Clog, Unclog, Form, Begin, Deliver, Lose, Resend, Sync, Up, Tick, Give, Take, Protect, Unprotect, CopyTo, Replace, Heal}
use Rattle.fy_acts.specs.declared.reply.Refusal.{Refusal}
use Rattle.fy_acts.specs.declared.reply.Refusal.TheVariants as refusal
use Rattle.fy_acts.specs.declared.reply.Reply.{Reply}
use Rattle.fy_acts.specs.declared.reply.Reply.TheVariants.{Verdict, Ruled, Formed, Begun, Stored, Marked, Sent, Synced, Time, Done, No}
use Rattle.fy_acts.specs.declared.entry.Entry.{Entry}

-- a number of 32 bits
abbrev pub IsU32 : ℕ → Type 0
IsU32 n = n < 2 ^ 32

-- a number of 64 bits
abbrev pub IsU64 : ℕ → Type 0
IsU64 n = n < 2 ^ 64

-- a byte
abbrev pub IsByte : ℕ → Type 0
IsByte n = n < 256

-- the number of a process, whether or not it is there
abbrev pub IsProcess : ProcId → Type 0
IsProcess p = IsU32 p.0

-- a target's value is a name
abbrev pub FitsTarget : Target → Type 0
FitsTarget target = is_name target.value ≡ true

-- the value of a scope is a name
abbrev pub FitsScope : Scope → Type 0
FitsScope All = ⊤
FitsScope (Where target) = FitsTarget target

-- the members of a team: few enough, rising, and numbers of processes
abbrev pub FitsMembers : List ProcId → Type 0
FitsMembers members = IsTrue (are_members members) × AllByRecursion IsProcess members

-- an act whose numbers are below their bounds, whose names are names, whose members are members
abbrev pub FitsAct : Act → Type 0
FitsAct (Kill order) = FitsTarget order.target × IsU64 order.tear
FitsAct (Clog target ticks) = FitsTarget target × IsU64 ticks
FitsAct (Unclog target) = FitsTarget target
FitsAct (Form members policy) = FitsMembers members × IsU32 policy
FitsAct (Begin team payload) = IsU32 team × AllByRecursion IsByte payload
FitsAct (Deliver message) = IsU64 message
FitsAct (Lose message) = IsU64 message
FitsAct (Resend rec process) = IsU32 rec × IsProcess process
FitsAct (Sync process) = IsProcess process
FitsAct (Up process) = IsProcess process
FitsAct (Tick ticks) = IsU64 ticks
FitsAct (Give grant) = IsU32 grant.actor × FitsScope grant.scope
FitsAct (Take actor index) = IsU32 actor × IsU32 index
FitsAct (Protect process kinds) = IsProcess process
FitsAct (Unprotect process kinds) = IsProcess process
FitsAct (CopyTo from rec to) = IsProcess from × IsU32 rec × IsProcess to
FitsAct (Replace team out into) = IsU32 team × IsProcess out × IsProcess into
FitsAct (Heal process) = IsProcess process

-- a rule whose number is below its bound
abbrev pub FitsRule : Option Rule → Type 0
FitsRule None = ⊤
FitsRule (Some NoTarget) = ⊤
FitsRule (Some (NoGrant process)) = IsProcess process
FitsRule (Some (Protected process)) = IsProcess process
FitsRule (Some (TooManyDestroyed policy)) = IsU32 policy
FitsRule (Some (TooFewLeft policy)) = IsU32 policy

-- a refusal whose number is below its bound
abbrev pub FitsRefusal : Refusal → Type 0
FitsRefusal (refusal.TeamShort policy) = IsU32 policy
FitsRefusal (refusal.StillNeeds rec) = IsU32 rec
FitsRefusal _ = ⊤

-- a reply whose numbers are below their bounds
abbrev pub FitsReply : Reply → Type 0
FitsReply (Verdict verdict) = FitsRule verdict.rule
FitsReply (Ruled rule) = FitsRule rule
FitsReply (Formed team) = IsU32 team
FitsReply (Begun rec first) = IsU32 rec × IsU64 first
FitsReply Stored = ⊤
FitsReply (Marked acked) = ⊤
FitsReply (Sent message) = IsU64 message
FitsReply (Synced first count) = IsU64 first × IsU32 count
FitsReply (Time now) = IsU64 now
FitsReply Done = ⊤
FitsReply (No refused) = FitsRefusal refused

-- an entry of which all parts are so
pub record FitsEntry (entry : Entry) : Type 0 where
  pub act : FitsAct entry.act
  pub at : IsU32 entry.at
  pub by : IsU32 entry.by
  pub reply : FitsReply entry.reply
