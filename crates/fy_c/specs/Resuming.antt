-- a guard that is opened where an audit ends
use Rattle.std.specs.Prelude.{◌≡◌, ◌≢◌, ◌≤◌, ℕ, List, [], ◌∷◌, ◌++◌, length, Ok, Err}
use Rattle.std.specs.Ptr.{null_ptr}
use Rattle.fy_acts.specs.declared.entry.Entry.{Entry}
use Rattle.fy_audit.specs.Audit.{AuditOf, BeginsFaulty, BeginsWith, MayStandFrom}
use Rattle.fy_audit.specs.AuditText.{header, audit_text}
use Rattle.fy_audit.specs.declared.audit.TheConstants.{MOST_AUDIT_BYTES}
use Rattle.fy_audit.specs.declared.audit.AuditFault.TheVariants.{Line, TooLong}
use Rattle.fy_audit.specs.declared.audit.AuditLineFault.{AuditLineFault}
use Rattle.fy_audit.specs.declared.audit.AuditLineFault.TheVariants.{Header}
use Rattle.fy_cluster.specs.Execution.{Execution}
use Rattle.fy_cluster.specs.Replies.{Legal}
use Rattle.fy_cluster.specs.Setup.{Setup}
use Rattle.fy_config.specs.Config.{ConfigOf}
use Rattle.fy_acts.specs.declared.version.Version.TheVariants.{First, Second}
use Rattle.fy_c.specs.Checking.{line_fault_status}
use Rattle.fy_c.specs.Opening.{NotOpened}
use Rattle.fy_c.specs.declared.handle.FyGuard.{FyGuard}
use Rattle.fy_c.specs.declared.status.Status.{Status}
use Rattle.fy_c.specs.declared.status.Status.TheVariants.{AuditTooLong, Done, NoMemory, NoHeader, Refuted}

-- the cluster has this setup and the journal of the audit, which is legal and of the second version
pub record Follows (setup : Setup) (audit : List ℕ) (execution : Execution) : Type 0 where
  pub setup_is : execution.setup ≡ setup
  pub read : AuditOf audit (Ok (record { version = Second; entries = execution.journal }))
  pub legal : Legal setup execution.journal

-- the audit has no more bytes than one may have, and begins with the header of the second version
-- and the lines of these entries, which are a legal journal
pub record BeginsLegal (setup : Setup) (audit : List ℕ) (entries : List Entry) (rest : List ℕ)
    : Type 0 where
  pub bound : length audit ≤ MOST_AUDIT_BYTES
  pub split : audit ≡ audit_text Second entries ++ rest
  pub faultless : MayStandFrom Second 0 entries
  pub legal : Legal setup entries

-- the audit begins with a legal journal, and with the entry of the next line it isn't one: that is
-- entry `at`
pub record Refutes (setup : Setup) (audit : List ℕ) (at : ℕ) : Type 0 where
  pub before : List Entry
  pub rest : List ℕ
  pub begins : BeginsLegal setup audit before rest
  pub bad : Entry
  pub after : List ℕ
  pub next : BeginsWith Second (length before) rest bad after
  pub wrong : Legal setup (before ++ bad ∷ []) → ⊥
  pub place : at ≡ length before

-- why an audit isn't followed, in order: it is too long; it has no header; it is of the first
-- version; it begins with a legal journal, and the next line is faulty. Or an allocation failed,
-- which is asked for once all entries so far are a legal journal
pub data NotFollowed (setup : Setup) (audit : List ℕ) : Status → Type 0 where
  too_long : AuditOf audit (Err TooLong) → NotFollowed setup audit AuditTooLong
  no_header : AuditOf audit (Err (Line 1 Header)) → NotFollowed setup audit NoHeader
  of_first : length audit ≤ MOST_AUDIT_BYTES → (rest : List ℕ) → audit ≡ header First ++ rest →
      NotFollowed setup audit NoHeader
  faulty : (entries : List Entry) (rest : List ℕ) → BeginsLegal setup audit entries rest →
      (fault : AuditLineFault) → BeginsFaulty Second (length entries) rest fault →
      NotFollowed setup audit (line_fault_status fault)
  no_memory : (entries : List Entry) (rest : List ℕ) → BeginsLegal setup audit entries rest →
      NotFollowed setup audit NoMemory

-- the guard is open with the journal of the audit; or it is what it was, since the cluster file is
-- refused, or the audit, or an entry of it, whose place is told
pub data OpensAfter (config audit : List ℕ) (old new : FyGuard) (first_bad : ℕ)
    : Status → Type 0 where
  follows : new.at ≢ null_ptr → (setup : Setup) → ConfigOf config (Ok setup) →
      Follows setup audit new.value → first_bad ≡ 4294967295 →
      OpensAfter config audit old new first_bad Done
  not_opened : (status : Status) → NotOpened config status → new ≡ old → first_bad ≡ 4294967295 →
      OpensAfter config audit old new first_bad status
  not_followed : (status : Status) → (setup : Setup) → ConfigOf config (Ok setup) →
      NotFollowed setup audit status → new ≡ old → first_bad ≡ 4294967295 →
      OpensAfter config audit old new first_bad status
  refutes : (setup : Setup) → ConfigOf config (Ok setup) → Refutes setup audit first_bad →
      new ≡ old → OpensAfter config audit old new first_bad Refuted
