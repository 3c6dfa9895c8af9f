-- how a guard goes on behind an audit
use Rattle.std.specs.Prelude.{◌≡◌, ℕ, List, ◌++◌, map, Option, IfSome, Ok, Err}
use Rattle.fy_acts.specs.declared.entry.Entry.{Entry}
use Rattle.fy_audit.specs.Audit.{AuditOf}
use Rattle.fy_audit.specs.AuditText.{audit_text}
use Rattle.fy_audit.specs.Script.{AreCommands}
use Rattle.fy_audit.specs.declared.audit.AuditFault.{AuditFault}
use Rattle.fy_audit.specs.declared.audit.AuditFault.TheVariants.{Line}
use Rattle.fy_audit.specs.declared.audit.AuditLineFault.TheVariants.{Header}
use Rattle.fy_cluster.specs.Execution.{Execution}
use Rattle.fy_cluster.specs.Replies.{Legal}
use Rattle.fy_cluster.specs.Setup.{Setup}
use Rattle.fy_cluster.specs.Survival.{by_and_act}
use Rattle.fy_cluster.specs.Versions.{LegalUnder}
use Rattle.fy_streams.specs.declared.stop.Stop.{Stop}
use Rattle.fy_streams.specs.declared.stop.Stop.TheVariants.{Audit as audit_stopped}
use Rattle.fy_acts.specs.declared.version.Version.TheVariants.{First, Second}
use Rattle.fy_guard.specs.GuardTexts.{Answered, AnsweredFrom}
use Rattle.fy_run.specs.RunTexts.{asked}
use Rattle.fy_spelling.specs.declared.command.Command.{Command}

-- the bytes are the audit of a legal journal of the second version, and it is the cluster's
pub record IsJournalOf (setup : Setup) (bytes : List ℕ) (from : Execution) : Type 0 where
  pub setup_is : from.setup ≡ setup
  pub read : AuditOf bytes (Ok (record { version = Second; entries = from.journal }))
  pub legal : Legal setup from.journal

-- a guard goes on from a cluster that has the journal of the known audit
abbrev pub GoesOn : Setup → Option (List ℕ) → (Execution → Type 0) → Type 0
GoesOn setup known P =
    (from : Execution) × IfSome known (λ bytes. IsJournalOf setup bytes from) × P from

-- the bytes are the audit of a legal journal of the first version
pub record IsOfFirstVersion (setup : Setup) (bytes : List ℕ) : Type 0 where
  pub entries : List Entry
  pub read : AuditOf bytes (Ok (record { version = First; entries = entries }))
  pub legal : LegalUnder First setup entries

-- the stop for such an audit
abbrev pub first_version_stop : Stop
first_version_stop = audit_stopped (Line 1 Header)

-- why a guard doesn't go on behind these bytes: they are no audit, by the fault that `check` tells;
-- or a legal audit of the first version, which is told as a fault of the header
pub data NoJournalOf (setup : Setup) (bytes : List ℕ) : AuditFault → Type 0 where
  faulty : (fault : AuditFault) → AuditOf bytes (Err fault) → NoJournalOf setup bytes fault
  of_first : IsOfFirstVersion setup bytes → NoJournalOf setup bytes (Line 1 Header)

-- ---- what an answer is, without a cluster

-- each line is a command, and the audit with the text behind it is one audit: that of the legal
-- journal of the acts of both
pub record IsOneAudit (setup : Setup) (audit : List ℕ) (lines : List (List ℕ)) (text : List ℕ)
    : Type 0 where
  pub before : List Entry
  pub commands : List Command
  pub journal : List Entry
  pub was : audit ≡ audit_text Second before
  pub each : AreCommands lines commands
  pub legal : Legal setup journal
  pub acts : map by_and_act journal ≡ map by_and_act before ++ map asked commands
  pub written : audit ++ text ≡ audit_text Second journal

-- what stands behind an audit makes one audit with it
abbrev pub OneAudit : Type 0
OneAudit =
    (setup : Setup) (audit : List ℕ) (from : Execution) (lines : List (List ℕ)) (text : List ℕ) →
    IsJournalOf setup audit from → AnsweredFrom from lines text →
    IsOneAudit setup audit lines text

-- and where the entries of the audit are of the acts of some lines, it is what one guard answers to
-- those lines and the later ones
abbrev pub OneGuard : Type 0
OneGuard =
    (setup : Setup) (audit : List ℕ) (from : Execution) (first later : List (List ℕ))
    (commands : List Command) (text : List ℕ) → IsJournalOf setup audit from →
    AreCommands first commands → map by_and_act from.journal ≡ map asked commands →
    AnsweredFrom from later text → Answered setup (first ++ later) (audit ++ text)
