-- the numbers by which C knows keys, kinds, rules, processes, messages, records, states and
-- refusals
use Rattle.std.specs.Prelude.{ℕ, ◌+◌, Bool, Option, Some, None, if◌then◌else◌}
use Rattle.fy_locality.specs.declared.ProcId.{ProcId}
use Rattle.fy_locality.specs.declared.key.Key.{Key}
use Rattle.fy_locality.specs.declared.key.Key.TheVariants.{Process, Machine, Zone, DataHall, DataCenter}
use Rattle.fy_kinds.specs.declared.kind.Kind.{Kind}
use Rattle.fy_kinds.specs.declared.verdict.Rule.{Rule}
use Rattle.fy_kinds.specs.declared.verdict.Rule.TheVariants as rule
use Rattle.fy_kinds.specs.Kinds.{rank}
use Rattle.fy_acts.specs.declared.reply.Refusal.{Refusal}
use Rattle.fy_acts.specs.declared.reply.Refusal.TheVariants as refusal
use Rattle.fy_cluster.specs.declared.status.Status.{Status}

-- keys, from 1
abbrev pub key_number : Key → ℕ
key_number Process = 1
key_number Machine = 2
key_number Zone = 3
key_number DataHall = 4
key_number DataCenter = 5

-- kinds, from 1, the mildest
abbrev pub kind_number : Kind → ℕ
kind_number kind = rank kind + 1

-- the kind that struck, 0 where none did
abbrev pub struck_number : Option Kind → ℕ
struck_number None = 0
struck_number (Some kind) = kind_number kind

-- rules, from 1, 0 for none
abbrev pub rule_number : Option Rule → ℕ
rule_number None = 0
rule_number (Some rule.NoTarget) = 1
rule_number (Some (rule.NoGrant process)) = 2
rule_number (Some (rule.Protected process)) = 3
rule_number (Some (rule.TooManyDestroyed policy)) = 4
rule_number (Some (rule.TooFewLeft policy)) = 5

-- the process or the policy that a rule names, 0 where it names none
abbrev pub named_by : Option Rule → ℕ
named_by None = 0
named_by (Some rule.NoTarget) = 0
named_by (Some (rule.NoGrant process)) = process.0
named_by (Some (rule.Protected process)) = process.0
named_by (Some (rule.TooManyDestroyed policy)) = policy
named_by (Some (rule.TooFewLeft policy)) = policy

-- the process, 2 ^ 32 - 1 where there is none
abbrev pub process_number : Option ProcId → ℕ
process_number None = 4294967295
process_number (Some process) = process.0

-- the message, 2 ^ 64 - 1 where there is none
abbrev pub message_number : Option ℕ → ℕ
message_number None = 18446744073709551615
message_number (Some message) = message

-- the record, 2 ^ 32 - 1 where there is none
abbrev pub record_number : Option ℕ → ℕ
record_number None = 4294967295
record_number (Some rec) = rec

-- the value where something is so, and else 0
abbrev pub bit : Bool → ℕ → ℕ
bit is value = if is then value else 0

-- the state of a process as bits, 2 ^ 32 - 1 where there is no such process
abbrev pub status_bits : Option Status → ℕ
status_bits None = 4294967295
status_bits (Some status) =
    bit status.up 1 + bit status.clogged 2 + bit status.destroyed 4 + bit status.gone 8

-- refusals, from 1
abbrev pub refusal_number : Refusal → ℕ
refusal_number refusal.Stranger = 1
refusal_number refusal.WrongRole = 2
refusal_number refusal.TooMany = 3
refusal_number refusal.NoPolicy = 4
refusal_number refusal.NoProcess = 5
refusal_number refusal.Gone = 6
refusal_number (refusal.TeamShort policy) = 7
refusal_number refusal.NoTeam = 8
refusal_number refusal.Payload = 9
refusal_number refusal.NetFull = 10
refusal_number refusal.NoMessage = 11
refusal_number refusal.Clogged = 12
refusal_number refusal.NotUp = 13
refusal_number refusal.NoRecord = 14
refusal_number refusal.NotMember = 15
refusal_number refusal.Acked = 16
refusal_number refusal.IsUp = 17
refusal_number refusal.ClockEnd = 18
refusal_number refusal.NoActor = 19
refusal_number refusal.Full = 20
refusal_number refusal.NoSuch = 21
refusal_number refusal.NoCopy = 22
refusal_number refusal.IsMember = 23
refusal_number refusal.NotDestroyed = 24
refusal_number (refusal.StillNeeds rec) = 25
