-- acts made by numbers: which act is given, what it comes to, and what is told of it
use Rattle.std.specs.Prelude.{◌≡◌, ◌≢◌, ◌<◌, ◌≤◌, ℕ, List, length, map, Result, Ok}
use Rattle.fy_locality.specs.declared.ProcId.{ProcId}
use Rattle.fy_kinds.specs.Kinds.{bits_of}
use Rattle.fy_kinds.specs.Members.{Members}
use Rattle.fy_kinds.specs.declared.order.Target.{Target}
use Rattle.fy_grants.specs.declared.grant.Scope.{Scope}
use Rattle.fy_grants.specs.declared.grant.Scope.TheVariants.{All, Where}
use Rattle.fy_team.specs.Teams.{AreMembers}
use Rattle.fy_acts.specs.declared.act.Act.{Act}
use Rattle.fy_acts.specs.declared.act.Act.TheVariants.{Clog, Unclog, Form, Begin, Give, Protect, Unprotect}
use Rattle.fy_acts.specs.declared.reply.Refusal.{Refusal}
use Rattle.fy_acts.specs.declared.reply.Refusal.TheVariants as refusal
use Rattle.fy_acts.specs.declared.reply.Reply.{Reply}
use Rattle.fy_acts.specs.declared.reply.Reply.TheVariants.{Ruled, Formed, Begun, Marked, Sent, Synced, Time, No}
use Rattle.fy_cluster.specs.declared.fault.Fault.{Fault}
use Rattle.fy_cluster.specs.Execution.{Execution}
use Rattle.fy_answers.specs.Answers.{HasRoom}
use Rattle.fy_c.specs.Entering.{Applies, status_of}
use Rattle.fy_c.specs.Numbers.{bit, named_by, refusal_number, rule_number}
use Rattle.fy_c.specs.Sets.{IsTargetOf, NoTarget}
use Rattle.fy_c.specs.Statuses.{number}
use Rattle.fy_c.specs.declared.making.FyReply.{FyReply}
use Rattle.fy_c.specs.declared.storing.TheConstants.{MOST_PAYLOAD}
use Rattle.fy_c.specs.declared.status.Status.{Status}
use Rattle.fy_c.specs.declared.status.Status.TheVariants.{Argument, JournalFull, NoMemory}

-- ---- what is told

-- the policy or the record that a refusal names, 0 where it names none
abbrev pub refused_by : Refusal → ℕ
refused_by (refusal.TeamShort policy) = policy
refused_by (refusal.StillNeeds rec) = rec
refused_by _ = 0

-- nothing to tell
abbrev pub nothing_told : FyReply
nothing_told = record {
  refusal = 0;
  rule = 0;
  named = 0;
  team = 0;
  rec = 0;
  message = 0;
  synced = 0;
  now = 0;
  marked = 0;
  acked = 0;
}

-- what is told of an answer
abbrev pub reply_told : Result Reply Fault → FyReply
reply_told (Ok (Ruled rule)) =
    record nothing_told { rule = rule_number rule; named = named_by rule }
reply_told (Ok (Formed team)) = record nothing_told { team = team }
reply_told (Ok (Begun rec first)) = record nothing_told { rec = rec; message = first }
reply_told (Ok (Marked acked)) = record nothing_told { marked = 1; acked = bit acked 1 }
reply_told (Ok (Sent message)) = record nothing_told { message = message }
reply_told (Ok (Synced first count)) = record nothing_told { message = first; synced = count }
reply_told (Ok (Time now)) = record nothing_told { now = now }
reply_told (Ok (No why)) =
    record nothing_told { refusal = refusal_number why; named = refused_by why }
reply_told _ = nothing_told

-- the act came to something, and that is what is told
pub record Makes (old new : Execution) (by : ℕ) (act : Act) (code : ℕ) (told : FyReply)
    : Type 0 where
  pub answer : Result Reply Fault
  pub applies : Applies old new by act answer
  pub code_is : code ≡ number (status_of answer)
  pub told_is : told ≡ reply_told answer

-- an act is given, came to something, and that is told; or none is, and nothing changed
pub data MakesGiven (old new : Execution) (by : ℕ) (IsGiven : Act → Type 0)
    (NotGiven : Status → Type 0) (code : ℕ) (told : FyReply) : Type 0 where
  made : (act : Act) → IsGiven act → Makes old new by act code told →
      MakesGiven old new by IsGiven NotGiven code told
  not_given : (status : Status) → NotGiven status → code ≡ number status → new ≡ old →
      told ≡ nothing_told → MakesGiven old new by IsGiven NotGiven code told

-- ---- which act is given, and why none is

-- a clog of the target that a key's number and a name's bytes give
pub record IsClogOf (key : ℕ) (value : List ℕ) (ticks : ℕ) (act : Act) : Type 0 where
  pub target : Target
  pub given : IsTargetOf key value target
  pub act_is : act ≡ Clog target ticks

-- the end of the clogs of that target
pub record IsUnclogOf (key : ℕ) (value : List ℕ) (act : Act) : Type 0 where
  pub target : Target
  pub given : IsTargetOf key value target
  pub act_is : act ≡ Unclog target

-- the processes with these numbers
abbrev pub processes : List ℕ → List ProcId
processes numbers = map (λ n. record { 0 = n }) numbers

-- the form of a team of the processes with these numbers
pub record IsFormOf (members : List ℕ) (policy : ℕ) (act : Act) : Type 0 where
  pub valid : AreMembers (processes members)
  pub act_is : act ≡ Form (processes members) policy

-- why no team is formed, the first that holds: the numbers don't rise or are too many, the journal
-- is full, or an allocation failed
pub data NoForm (old : Execution) (members : List ℕ) : Status → Type 0 where
  no_members : ¬ AreMembers (processes members) → NoForm old members Argument
  full : AreMembers (processes members) → old.setup.limit ≤ length old.journal →
      NoForm old members JournalFull
  no_memory : AreMembers (processes members) → HasRoom old → NoForm old members NoMemory

-- the begin of a record with these bytes
pub record IsBeginOf (team : ℕ) (payload : List ℕ) (act : Act) : Type 0 where
  pub short : length payload ≤ MOST_PAYLOAD
  pub act_is : act ≡ Begin team payload

-- why no record is begun, the first that holds: the bytes are too many for a line of an audit, the
-- journal is full, or an allocation failed
pub data NoBegin (old : Execution) (payload : List ℕ) : Status → Type 0 where
  too_long : MOST_PAYLOAD < length payload → NoBegin old payload Argument
  full : length payload ≤ MOST_PAYLOAD → old.setup.limit ≤ length old.journal →
      NoBegin old payload JournalFull
  no_memory : length payload ≤ MOST_PAYLOAD → HasRoom old → NoBegin old payload NoMemory

-- the number isn't that of a set of kinds
abbrev pub AreNoKinds : ℕ → Type 0
AreNoKinds bits = (kinds : Members) → bits ≢ bits_of kinds

-- the scope that a key's number and a name's bytes give: 0 is every process
pub data IsScopeOf (key : ℕ) (value : List ℕ) : Scope → Type 0 where
  everyone : key ≡ 0 → IsScopeOf key value All
  some : (target : Target) → IsTargetOf key value target → IsScopeOf key value (Where target)

-- the grant of an actor by numbers
pub record IsGiveOf (actor bits key : ℕ) (value : List ℕ) (act : Act) : Type 0 where
  pub kinds : Members
  pub scope : Scope
  pub kinds_are : bits ≡ bits_of kinds
  pub scope_is : IsScopeOf key value scope
  pub act_is : act ≡ Give (record { actor = actor; kinds = kinds; scope = scope })

-- why no grant is given, the first that holds: a bit is that of no kind; the number is neither 0
-- nor that of a key, or the bytes are no name
pub data NoGive (bits key : ℕ) (value : List ℕ) : Status → Type 0 where
  no_kinds : AreNoKinds bits → NoGive bits key value Argument
  no_scope : (kinds : Members) → bits ≡ bits_of kinds → key ≢ 0 → (status : Status) →
      NoTarget key value status → NoGive bits key value status

-- a protection of a process, by numbers
pub record IsProtectOf (process bits : ℕ) (act : Act) : Type 0 where
  pub kinds : Members
  pub kinds_are : bits ≡ bits_of kinds
  pub act_is : act ≡ Protect (record { 0 = process }) kinds

-- the end of one
pub record IsUnprotectOf (process bits : ℕ) (act : Act) : Type 0 where
  pub kinds : Members
  pub kinds_are : bits ≡ bits_of kinds
  pub act_is : act ≡ Unprotect (record { 0 = process }) kinds

-- why neither is given: a bit is that of no kind
pub data NoKinds (bits : ℕ) : Status → Type 0 where
  no_kinds : AreNoKinds bits → NoKinds bits Argument
