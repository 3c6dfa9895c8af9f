-- a journal that is checked entry by entry
use Rattle.std.specs.Prelude.{◌≡◌, ℕ, List, Option, Some, None}
use Rattle.fy_acts.specs.declared.entry.Entry.{Entry}
use Rattle.fy_acts.specs.declared.version.Version.{Version}
use Rattle.fy_cluster.specs.Execution.{Execution}
use Rattle.fy_cluster.specs.Setup.{Setup}
use Rattle.fy_cluster.specs.Versions.{LegalUnder}
use Rattle.fy_replay.specs.Check.{IsFirstBad}

-- what was replayed: the journal's version, the state of the cluster, and the first bad entry
pub record Replayed : Type 0 where
  pub version : Version
  pub execution : Execution
  pub first_bad : Option ℕ

-- entries have this first bad one; none where they are a legal journal
abbrev pub HasFirstBad : Version → Setup → List Entry → Option ℕ → Type 0
HasFirstBad version setup entries None = LegalUnder version setup entries
HasFirstBad version setup entries (Some at) = IsFirstBad version setup entries at

-- these entries were replayed, and while none is bad they are the cluster's
pub record HasReplayed (setup : Setup) (entries : List Entry) (replayed : Replayed) : Type 0 where
  pub first : HasFirstBad replayed.version setup entries replayed.first_bad
  pub execution : replayed.first_bad ≡ None →
      replayed.execution ≡ record { setup = setup; journal = entries }
