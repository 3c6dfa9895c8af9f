-- steps of a legal journal
use Rattle.std.specs.Prelude.{◌≡◌, List, length}
use Rattle.fy_acts.specs.declared.entry.Entry.{Entry}
use Rattle.fy_acts.specs.declared.version.Version.{Version}
use Rattle.fy_cluster.specs.Setup.{Setup}
use Rattle.fy_cluster.specs.History.{history}
use Rattle.fy_cluster.specs.Versions.{LegalUnder}
use Rattle.fy_check_by_rules.specs.declared.step.FoundStep.{FoundStep}
use Rattle.fy_check_by_rules.specs.Past.{past}

-- the entries are a legal journal of the version, and the steps are what they did
pub record AreStepsOf (version : Version) (c : Setup) (entries : List Entry)
    (steps : List FoundStep) : Type 0 where
  pub past : past steps ≡ history c entries
  pub count : length steps ≡ length entries
  pub legal : LegalUnder version c entries
