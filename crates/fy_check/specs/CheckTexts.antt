-- what is said of an audit under a configuration
use Rattle.std.specs.Prelude.{◌≡◌, ℕ, Bool, true, false, List, length, codes, Option, IfSome, Result, Ok, Err}
use Rattle.std.specs.Option.{option_map_or}
use Rattle.fy_audit.specs.Audit.{Audit, AuditOf}
use Rattle.fy_audit.specs.declared.audit.AuditFault.{AuditFault}
use Rattle.fy_cluster.specs.Setup.{Setup}
use Rattle.fy_replay.specs.Check.{Checks}
use Rattle.fy_replay.specs.declared.fault.CheckFault.TheVariants.{BadEntry}
use Rattle.fy_replay.specs.Replayed.{HasFirstBad}
use Rattle.fy_streams.specs.Stops.{numbered}
use Rattle.fy_check.specs.declared.check.Finding.{Finding}
use Rattle.fy_streams.specs.declared.stop.Stop.{Stop}
use Rattle.fy_streams.specs.declared.stop.Stop.TheVariants.{Audit as audit_stopped}

-- the line that says that an audit is legal, with how many entries it has
abbrev pub legal_line : ℕ → List ℕ
legal_line count = numbered (codes "legal ") count (codes "\n")

-- the line that names an entry which isn't what the rules give
abbrev pub bad_line : ℕ → List ℕ
bad_line at = numbered (codes "bad entry ") at (codes "\n")

-- the line for what was found of an audit
abbrev pub finding_line : Finding → List ℕ
finding_line finding = option_map_or bad_line finding.first_bad (legal_line finding.count)

-- bytes are an audit of so many entries, with this first bad one or none
pub record IsFound (setup : Setup) (bytes : List ℕ) (finding : Finding) : Type 0 where
  pub audit : Audit
  pub read : AuditOf bytes (Ok audit)
  pub count : finding.count ≡ length audit.entries
  pub first : HasFirstBad audit.version setup audit.entries finding.first_bad

-- this was found of known bytes
abbrev pub IfFound : Setup → Option (List ℕ) → Finding → Type 0
IfFound setup known finding = IfSome known (λ bytes. IsFound setup bytes finding)

-- CHECK: whether an audit is legal and the line that says so, or why it is refused
pub data Finds (setup : Setup) (bytes : List ℕ) : Result (Bool × List ℕ) Stop → Type 0 where
  refuses : (fault : AuditFault) → AuditOf bytes (Err fault) →
      Finds setup bytes (Err (audit_stopped fault))
  confirms : (audit : Audit) → AuditOf bytes (Ok audit) →
      Checks audit.version setup audit.entries (Ok tt) →
      Finds setup bytes (Ok (true, legal_line (length audit.entries)))
  refutes : (audit : Audit) (at : ℕ) → AuditOf bytes (Ok audit) →
      Checks audit.version setup audit.entries (Err (BadEntry at)) →
      Finds setup bytes (Ok (false, bad_line at))

-- known bytes of an audit that isn't refused, whether it is legal, and what holds of the line
abbrev pub HasVerdict : Setup → Option (List ℕ) → Bool → (List ℕ → Type 0) → Type 0
HasVerdict setup known legal P =
    IfSome known (λ bytes. (text : List ℕ) × Finds setup bytes (Ok (legal, text)) × P text)

-- bytes have one finding, so that what is found legal is not refuted or refused
abbrev pub FindingIsOne : Type 0
FindingIsOne =
    (setup : Setup) (bytes : List ℕ) (x y : Result (Bool × List ℕ) Stop) → Finds setup bytes x →
    Finds setup bytes y → x ≡ y
