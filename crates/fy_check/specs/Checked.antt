-- what is known of an audit that was checked
use Rattle.std.specs.Prelude.{◌≡◌, ℕ, Bool, List, is_none, length, Ok}
use Rattle.fy_audit.specs.Audit.{Audit, AuditOf}
use Rattle.fy_cluster.specs.Setup.{Setup}
use Rattle.fy_replay.specs.Replayed.{HasReplayed}
use Rattle.fy_check.specs.declared.check.Finding.{Finding}
use Rattle.fy_check.specs.declared.check.ReplayedAudit.{ReplayedAudit}
use Rattle.fy_check.specs.CheckTexts.{IsFound}

-- SHOW: the bytes are an audit, and it is legal where it has no first bad entry
pub record IsChecked (setup : Setup) (bytes : List ℕ) (legal : Bool) : Type 0 where
  pub finding : Finding
  pub found : IsFound setup bytes finding
  pub legal_is : legal ≡ is_none finding.first_bad

-- the bytes are an audit, and all its entries were replayed
pub record IsReplayed (setup : Setup) (bytes : List ℕ) (replayed : ReplayedAudit) : Type 0 where
  pub audit : Audit
  pub read : AuditOf bytes (Ok audit)
  pub count : replayed.count ≡ length audit.entries
  pub version : replayed.replayer.version ≡ audit.version
  pub those : HasReplayed setup audit.entries replayed.replayer
