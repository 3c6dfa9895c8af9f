-- an audit that is watched
use Rattle.std.proofs.Common.{◌≡◌, ◌∙◌, ◌++◌, List, [], ◌∷◌, ℕ, Option, Some, None, IfSome, Result, Ok, Err, OnOk, true, is_some, sym, subst}
use Rattle.fy_acts.specs.declared.entry.Entry.{Entry}
use Rattle.fy_check.specs.Checked.{IsReplayed}
use Rattle.fy_check.specs.declared.check.Finding.{Finding}
use Rattle.fy_check.specs.declared.check.ReplayedAudit.{ReplayedAudit}
use Rattle.fy_cluster.specs.Execution.{Execution}
use Rattle.fy_cluster.specs.Setup.{Setup}
use Rattle.fy_cluster.specs.Versions.{LegalUnder}
use Rattle.fy_replay.specs.Replayed.{HasFirstBad, HasReplayed, Replayed}
use Rattle.fy_verdict.specs.Told.{IsLegal, IsNotedOf, IsNotedBy, IsWatched}
use Rattle.fy_verdict.specs.declared.watched.WatchSink.{WatchSink}

-- an entry more
pub enters : {E : Type 0} (done : Result (Unit {0}) E) (old new : Replayed) (entry : Entry)
    → OnOk done ((setup : Setup) (so_far : List Entry) → HasReplayed setup so_far old
    → HasReplayed setup (so_far ++ entry ∷ []) new)
    → OnOk done (new.version ≡ old.version)
    → OnOk done ((begun : WatchSink) (so_far : List Entry)
    → HasReplayed begun.watch.replayed.execution.setup so_far old
    × (old.version ≡ begun.watch.replayed.version)
    → HasReplayed begun.watch.replayed.execution.setup (so_far ++ entry ∷ []) new
    × (new.version ≡ begun.watch.replayed.version))
enters (Ok u) old new entry steps same =
    λ begun so_far has. (steps begun.watch.replayed.execution.setup so_far has.0, same ∙ has.1)
enters (Err e) old new entry steps same = tt

-- all is noted of an audit without a bad entry
pub noted_known : (c : Setup) (known : Option (List ℕ)) (audit : ReplayedAudit) (finding : Finding) (outages : Execution)
    → finding.count ≡ audit.count → audit.replayer.first_bad ≡ None → outages ≡ audit.replayer.execution
    → IfSome known (λ bytes. IsReplayed c bytes audit)
    → IfSome known (λ bytes. IsLegal c bytes (λ journal. IsNotedOf c journal finding outages))
noted_known c None audit finding outages count none is replayed = tt
noted_known c (Some bytes) audit finding outages count none is replayed = record {
  audit = replayed.audit;
  read = replayed.read;
  legal = subst (λ version. LegalUnder version c replayed.audit.entries) replayed.version
      (subst (HasFirstBad audit.replayer.version c replayed.audit.entries) none replayed.those.first);
  holds = record {
    count = count ∙ replayed.count;
    noted = is ∙ replayed.those.execution none;
  };
}

-- what was watched of an audit
pub watched_known : (c : Setup) (known : Option (List ℕ)) (audit : ReplayedAudit) (finding : Finding) (outages : Option Execution)
    → finding.count ≡ audit.count → finding.first_bad ≡ audit.replayer.first_bad → IsNotedBy audit.replayer outages
    → IfSome known (λ bytes. IsReplayed c bytes audit) → IsWatched c known finding outages
watched_known c known audit finding None count first noted replayed =
    subst (λ (bad : Option ℕ). is_some bad ≡ true) (sym first) noted
watched_known c known audit finding (Some outages) count first noted replayed =
    noted_known c known audit finding outages count noted.0 noted.1 replayed
