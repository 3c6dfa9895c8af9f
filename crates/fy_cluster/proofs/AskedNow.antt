-- what a cluster tells where it is asked is what the machine's parts say
use Rattle.std.proofs.Common.{◌≡◌, ◌∙◌, ◌<◌, ◌≤◌, ◌&&◌, ℕ, Bool, true, false, Option, Some, None, option_map, nat_lt, length, slice_get, refl, sym, ap, ap₂, arith}
use Rattle.std.proofs.lemmas.Bool.Decides.{nat_tests}
use Rattle.std.proofs.lemmas.List.{get_or_past}
use Rattle.fy_kinds.specs.Kinds.{Clogging, those}
use Rattle.fy_kinds.specs.declared.order.Target.{Target}
use Rattle.fy_kinds.specs.declared.verdict.Rule.{Rule}
use Rattle.fy_grants.specs.Rights.{protections_of}
use Rattle.fy_decide.specs.Verdicts.{bar, targets}
use Rattle.fy_disk.specs.Disk.{Stored, empty_disk}
use Rattle.fy_disk.specs.Disks.{has_record}
use Rattle.fy_team.specs.Teams.{Record, team_number}
use Rattle.fy_acts.specs.declared.act.Act.TheVariants.{Clog}
use Rattle.fy_acts.specs.declared.reply.Reply.TheVariants.{No, Ruled}
use Rattle.fy_acts.specs.declared.reply.Refusal.TheVariants.{Stranger}
use Rattle.fy_cluster.specs.declared.machine.Machine.{Machine}
use Rattle.fy_cluster.specs.declared.role.Role.{Role}
use Rattle.fy_cluster.specs.Setup.{Setup}
use Rattle.fy_cluster.specs.History.{BegunRecord, History, has_synced, left, records}
use Rattle.fy_cluster.specs.Rules.{situation}
use Rattle.fy_cluster.specs.Replies.{answer, first_refusal_or, refusals, reply}
use Rattle.fy_cluster.specs.Needs.{has_on}
use Rattle.fy_cluster.specs.Asked.{held_by, protected_from, team_for}
use Rattle.fy_cluster.specs.Standing.{Refines, begun_of, clog_bar, targets_by}
use Rattle.fy_cluster.proofs.Delivered.{record_is}
use Rattle.fy_cluster.proofs.Entering.{may_reply, stranger}
use Rattle.fy_cluster.proofs.Judged.{situation_same}
use Rattle.fy_cluster.proofs.Needed.{has_is}

-- ---- clogs

-- the targets of a clog are those left with its value
clogs_at : (c : Setup) (h : History) (m : Machine) → Refines c h m → (target : Target) →
    targets_by m target ≡ targets c.processes (left c h) target
clogs_at c h m k target = λ i. targets (k.dead.processes i) (λ p. k.dead.left p i) target

clog_ruled : (c : Setup) (h : History) (by : ℕ) (target : Target) (n : ℕ) (rule : Option Rule) →
    rule ≡ bar (situation c h by) Clogging (targets c.processes (left c h) target) →
    Ruled rule ≡ first_refusal_or (refusals c h (Clog target n)) (answer c h by (Clog target n))
unfolding refusals answer
clog_ruled c h by target n rule is = ap Ruled is

-- what a clog would be replied
pub clog_now : (c : Setup) (h : History) (m : Machine) → Refines c h m → (by : ℕ) (target : Target)
    (n : ℕ) (role : Role) (rule : Option Rule) → slice_get c.roles by ≡ Some role →
    rule ≡ clog_bar m by target → Ruled rule ≡ reply c h by (Clog target n)
clog_now c h m k by target n role rule there is =
    clog_ruled c h by target n rule
    (is ∙ ap₂ (λ s t. bar s Clogging t) (situation_same c h m k by) (clogs_at c h m k target))
    ∙ sym (may_reply c h by (Clog target n) role there refl)

pub clog_stranger : (c : Setup) (h : History) (by : ℕ) (target : Target) (n : ℕ) →
    slice_get c.roles by ≡ None → No Stranger ≡ reply c h by (Clog target n)
clog_stranger c h by target n none = sym (stranger c h by (Clog target n) none)

-- ---- the parts

-- the kinds from which a process is protected
pub protected_now : (c : Setup) (h : History) (m : Machine) → Refines c h m → (p : ℕ) →
    protections_of m.book p ≡ protected_from c h p
protected_now c h m k p = λ i. those (λ deed. k.rights.protections p deed i)

-- the team of a record
pub team_now : (c : Setup) (h : History) (m : Machine) → Refines c h m → (rec : ℕ) →
    team_number m.teams rec ≡ team_for h rec
team_now c h m k rec =
    at (slice_get m.teams.records rec)
    ∙ ap (option_map (λ (b : BegunRecord). b.team)) (sym (record_is h m.teams k.teams rec))
  where
    at : (o : Option Record) → option_map (λ (it : Record). it.team) o
        ≡ option_map (λ (b : BegunRecord). b.team) (option_map begun_of o)
    at None = refl
    at (Some it) = refl

-- who has a record synced
pub held_now : (c : Setup) (h : History) (m : Machine) → Refines c h m → (rec p : ℕ) →
    has_on m rec p ≡ held_by c h rec p
held_now c h m k rec p = at (nat_lt p (length c.processes)) refl
  where
    at : (b : Bool) → nat_lt p (length c.processes) ≡ b → has_on m rec p ≡ (b && has_synced h rec p)
    at true e = let there : p < length c.processes = grind (arith, nat_tests) in has_is c h m k rec p there
    at false e =
        let past : length m.disks ≤ p = (let count = k.disks.count in let over : length c.processes ≤ p = grind (arith, nat_tests) in omega (arith, count, over)) in
        ap (λ (d : Stored). has_record d.synced rec) (get_or_past m.disks p empty_disk past)
