-- the cluster from which a guard goes on
use Rattle.std.proofs.Common.{◌≡◌, ◌∙◌, ℕ, List, Option, Some, None, sym, ap, subst}
use Rattle.std.specs.Prelude.{IfSome, Ok, Err}
use Rattle.fy_audit.specs.Audit.{AuditOf}
use Rattle.fy_audit.specs.declared.audit.AuditFault.TheVariants.{Line}
use Rattle.fy_audit.specs.declared.audit.AuditLineFault.TheVariants.{Header}
use Rattle.fy_replay.specs.Replayed.{HasFirstBad}
use Rattle.fy_check.specs.Checked.{IsReplayed}
use Rattle.fy_check.specs.declared.check.ReplayedAudit.{ReplayedAudit}
use Rattle.fy_cluster.specs.Execution.{Execution}
use Rattle.fy_cluster.specs.Setup.{Setup}
use Rattle.fy_cluster.specs.Versions.{LegalUnder}
use Rattle.fy_check.specs.Inputs.{IsInputStop}
use Rattle.fy_streams.specs.Stops.{IfAuditFault, IsCheckStop}
use Rattle.fy_streams.specs.declared.stop.Stop.{Stop}
use Rattle.fy_streams.specs.declared.stop.Stop.TheVariants.{JudgeTooLong, JudgeLine, Config, Script, JournalFull, Audit as audit_stopped, Events, SwarmClose, Read, Write, NoMemory}
use Rattle.fy_guard.specs.AfterTexts.{IsJournalOf, IsOfFirstVersion, NoJournalOf}
use Rattle.fy_run.specs.RunTexts.{IfRunRefusal}
use Rattle.fy_acts.specs.declared.version.Version.{Version}
use Rattle.fy_acts.specs.declared.version.Version.TheVariants.{First, Second}

-- a legal audit of this version
record IsLegal (setup : Setup) (bytes : List ℕ) (version : Version) (from : Execution) : Type 0 where
  pub read : AuditOf bytes (Ok (record { version = version; entries = from.journal }))
  pub legal : LegalUnder version setup from.journal
  pub same : from.setup ≡ setup

legal_of : (setup : Setup) (bytes : List ℕ) (replayed : ReplayedAudit) (version : Version) →
    replayed.replayer.first_bad ≡ None → replayed.replayer.version ≡ version →
    IsReplayed setup bytes replayed → IsLegal setup bytes version replayed.replayer.execution
legal_of setup bytes replayed version none version_is is =
    let execution = is.those.execution none in
    let entries = ap (λ (e : Execution). e.journal) execution in
    let its : is.audit.version ≡ version = sym is.version ∙ version_is in
    let audit_is : is.audit ≡ record { version = version; entries = replayed.replayer.execution.journal } =
    (λ i. record { version = its i; entries = sym entries i }) in
    let legal : LegalUnder replayed.replayer.version setup is.audit.entries =
    subst (HasFirstBad replayed.replayer.version setup is.audit.entries) none is.those.first in
    record {
      read = subst (λ audit. AuditOf bytes (Ok audit)) audit_is is.read;
      legal = subst (λ entries. LegalUnder version setup entries) (sym entries)
          (subst (λ v. LegalUnder v setup is.audit.entries) version_is legal);
      same = ap (λ (e : Execution). e.setup) execution;
    }

pub journal_of : (setup : Setup) (bytes : List ℕ) (replayed : ReplayedAudit) (from : Execution) →
    replayed.replayer.first_bad ≡ None → replayed.replayer.version ≡ Second →
    from ≡ replayed.replayer.execution → IsReplayed setup bytes replayed →
    IsJournalOf setup bytes from
journal_of setup bytes replayed from none second same is =
    let legal = legal_of setup bytes replayed Second none second is in
    subst (IsJournalOf setup bytes) (sym same) (record {
      setup_is = legal.same;
      read = legal.read;
      legal = legal.legal.legal;
    })

pub of_first : (setup : Setup) (bytes : List ℕ) (replayed : ReplayedAudit) →
    replayed.replayer.first_bad ≡ None → replayed.replayer.version ≡ First →
    IsReplayed setup bytes replayed → IsOfFirstVersion setup bytes
of_first setup bytes replayed none first is =
    let legal = legal_of setup bytes replayed First none first is in
    record {
      entries = replayed.replayer.execution.journal;
      read = legal.read;
      legal = legal.legal;
    }

-- an audit of the first version is told as a faulty header
pub first_refused : (setup : Setup) (known : Option (List ℕ)) (replayed : ReplayedAudit) →
    ((setup : Setup) (bytes : List ℕ) → IsReplayed setup bytes replayed → IsOfFirstVersion setup bytes) →
    IfSome known (λ bytes. IsReplayed setup bytes replayed) →
    IfSome known (λ bytes. NoJournalOf setup bytes (Line 1 Header))
first_refused setup None replayed first is = tt
first_refused setup (Some bytes) replayed first is = NoJournalOf.of_first (first setup bytes is)

-- a fault that `check` tells
pub fault_told : (setup : Setup) (known : Option (List ℕ)) (stop : Stop) →
    IfAuditFault stop (λ fault. IfSome known (λ bytes. AuditOf bytes (Err fault))) →
    IfAuditFault stop (λ fault. IfSome known (λ bytes. NoJournalOf setup bytes fault))
fault_told setup None (audit_stopped fault) told = tt
fault_told setup (Some bytes) (audit_stopped fault) told = NoJournalOf.faulty fault told
fault_told setup known JudgeTooLong told = tt
fault_told setup known (JudgeLine line fault) told = tt
fault_told setup known (Config fault) told = tt
fault_told setup known (Script fault) told = tt
fault_told setup known JournalFull told = tt
fault_told setup known (Events fault) told = tt
fault_told setup known SwarmClose told = tt
fault_told setup known Read told = tt
fault_told setup known Write told = tt
fault_told setup known NoMemory told = tt

-- ---- stops

-- a stop of an audit that is read is none of a script
pub not_of_script : (stop : Stop) (P : Type 0) → IsInputStop stop → IfRunRefusal stop P
not_of_script (audit_stopped fault) P own = tt
not_of_script Read P own = tt
not_of_script NoMemory P own = tt
not_of_script JudgeTooLong P own = tt
not_of_script (JudgeLine line fault) P own = tt
not_of_script (Config fault) P own = tt
not_of_script (Script fault) P own = absurd own
not_of_script JournalFull P own = absurd own
not_of_script (Events fault) P own = tt
not_of_script SwarmClose P own = tt
not_of_script Write P own = tt

pub of_check : (stop : Stop) → IsInputStop stop → IsCheckStop stop
of_check (audit_stopped fault) own = tt
of_check Read own = tt
of_check NoMemory own = tt
of_check JudgeTooLong own = absurd own
of_check (JudgeLine line fault) own = absurd own
of_check (Config fault) own = absurd own
of_check (Script fault) own = absurd own
of_check JournalFull own = absurd own
of_check (Events fault) own = absurd own
of_check SwarmClose own = absurd own
of_check Write own = absurd own
