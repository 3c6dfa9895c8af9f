-- what is said of an audit that was read
use Rattle.std.proofs.Common.{rules, ◌≡◌, ◌∙◌, ℕ, List, Option, Some, None, Result, Ok, Err, IfOk, IfErr, Bool, true, false, [], length, ap, subst, sym}
use Rattle.std.specs.Prelude.{IfSome}
use Rattle.std.specs.Option.{option_map_or}
use Rattle.fy_acts.specs.declared.version.Version.{Version}
use Rattle.fy_cluster.specs.Execution.{Execution}
use Rattle.fy_cluster.specs.Setup.{Setup}
use Rattle.fy_replay.specs.Replayed.{HasFirstBad, HasReplayed, Replayed}
use Rattle.fy_check.specs.declared.check.Finding.{Finding}
use Rattle.fy_check.specs.declared.check.ReplayedAudit.{ReplayedAudit}
use Rattle.fy_streams.specs.declared.stop.Stop.{Stop}
use Rattle.fy_streams.specs.declared.stop.Stop.TheVariants.{Write}
use Rattle.fy_check.specs.CheckTexts.{legal_line, bad_line, finding_line, Finds, HasVerdict, IsFound}
use Rattle.fy_check.specs.Checked.{IsReplayed}
use Rattle.fy_check.specs.Inputs.{IsReadInto}

-- what a replayer begins with is of its configuration
pub begins_with : (setup : Setup) (begun : Replayed) → HasReplayed setup [] begun → begun.first_bad ≡ None →
    begun.execution.setup ≡ setup
begins_with setup begun has none = ap (λ (e : Execution). e.setup) (has.execution none)

-- an audit that was read into a replayer was replayed
pub replayed_known : (setup : Setup) (known : Option (List ℕ)) (version : Version) (begun : Replayed) (replayed : ReplayedAudit) →
    begun.execution.setup ≡ setup → begun.version ≡ version →
    IfSome known (λ bytes. IsReadInto bytes version replayed.count (λ entries.
    HasReplayed begun.execution.setup entries replayed.replayer × (replayed.replayer.version ≡ begun.version))) →
    IfSome known (λ bytes. IsReplayed setup bytes replayed)
replayed_known setup None version begun replayed same of is = tt
replayed_known setup (Some bytes) version begun replayed same of is = record {
  audit = is.audit;
  read = is.read;
  count = is.count_is;
  version = is.holds.1 ∙ of ∙ is.version_is;
  those = subst (λ s. HasReplayed s is.audit.entries replayed.replayer) same is.holds.0;
}

-- what is found of bytes that were replayed
pub found_of_replayed : (setup : Setup) (known : Option (List ℕ)) (replayed : ReplayedAudit) (finding : Finding) →
    finding.count ≡ replayed.count → finding.first_bad ≡ replayed.replayer.first_bad →
    IfSome known (λ bytes. IsReplayed setup bytes replayed) →
    IfSome known (λ bytes. IsFound setup bytes finding)
found_of_replayed setup None replayed finding count first is = tt
found_of_replayed setup (Some bytes) replayed finding count first is = record {
  audit = is.audit;
  read = is.read;
  count = count ∙ is.count;
  first =
      subst (HasFirstBad is.audit.version setup is.audit.entries) (sym first)
      (subst (λ v. HasFirstBad v setup is.audit.entries replayed.replayer.first_bad) is.version is.those.first);
}

-- the line of a finding without a bad entry
pub line_of_none : (finding : Finding) (whole short : List ℕ → Type 0) (result : Result Bool Stop) →
    finding.first_bad ≡ None →
    IfOk result (λ said. (said ≡ true) × whole (legal_line finding.count)) →
    IfErr result (λ stop. (stop ≡ Write) × short (legal_line finding.count)) →
    IfOk result (λ said. whole (finding_line finding)) × IfErr result (λ stop. short (finding_line finding))
line_of_none finding whole short (Ok said) none done stopped =
    (subst (λ at. whole (option_map_or bad_line at (legal_line finding.count))) (sym none) done.1, tt)
line_of_none finding whole short (Err stop) none done stopped =
    (tt, subst (λ at. short (option_map_or bad_line at (legal_line finding.count))) (sym none) stopped.1)

-- the line of a finding with a bad entry
pub line_of_bad : (finding : Finding) (at : ℕ) (whole short : List ℕ → Type 0) (result : Result Bool Stop) →
    finding.first_bad ≡ Some at →
    IfOk result (λ said. (said ≡ false) × whole (bad_line at)) →
    IfErr result (λ stop. (stop ≡ Write) × short (bad_line at)) →
    IfOk result (λ said. whole (finding_line finding)) × IfErr result (λ stop. short (finding_line finding))
line_of_bad finding at whole short (Ok said) bad done stopped =
    (subst (λ found. whole (option_map_or bad_line found (legal_line finding.count))) (sym bad) done.1, tt)
line_of_bad finding at whole short (Err stop) bad done stopped =
    (tt, subst (λ found. short (option_map_or bad_line found (legal_line finding.count))) (sym bad) stopped.1)

-- a legal audit is confirmed
said_legal : (setup : Setup) (known : Option (List ℕ)) (finding : Finding)
    (P : List ℕ → Type 0) → IfSome known (λ bytes. IsFound setup bytes finding) →
    finding.first_bad ≡ None → P (legal_line finding.count) → HasVerdict setup known true P
said_legal setup None finding P found none holds = tt
said_legal setup (Some bytes) finding P found none holds = (
  legal_line (length found.audit.entries),
  Finds.confirms found.audit found.read
      (subst (HasFirstBad found.audit.version setup found.audit.entries) none found.first),
  subst (λ n. P (legal_line n)) found.count holds,
)

-- an audit with a bad entry is refuted
said_bad : (setup : Setup) (known : Option (List ℕ)) (finding : Finding) (at : ℕ)
    (P : List ℕ → Type 0) → IfSome known (λ bytes. IsFound setup bytes finding) →
    finding.first_bad ≡ Some at → P (bad_line at) → HasVerdict setup known false P
said_bad setup None finding at P found some holds = tt
said_bad setup (Some bytes) finding at P found some holds = (
  bad_line at,
  Finds.refutes found.audit at found.read
      (subst (HasFirstBad found.audit.version setup found.audit.entries) some found.first),
  holds,
)

-- what was written of a legal audit
pub legal_out : (setup : Setup) (known : Option (List ℕ)) (finding : Finding)
    (whole short : List ℕ → Type 0) (result : Result Bool Stop) →
    IfSome known (λ bytes. IsFound setup bytes finding) → finding.first_bad ≡ None →
    IfOk result (λ said. (said ≡ true) × whole (legal_line finding.count)) →
    IfErr result (λ stop. (stop ≡ Write) × short (legal_line finding.count)) →
    IfOk result (λ legal. HasVerdict setup known legal whole)
    × (result ≡ Err Write → (legal : Bool) × HasVerdict setup known legal short)
legal_out setup known finding whole short (Ok said) found none done stopped = (
  subst (λ b. HasVerdict setup known b whole) (sym done.0)
      (said_legal setup known finding whole found none done.1),
  λ bad. (true, absurd (search rules)),
)
legal_out setup known finding whole short (Err stop) found none done stopped =
    (tt, λ is. (true, said_legal setup known finding short found none stopped.1))

-- what was written of an audit with a bad entry
pub bad_out : (setup : Setup) (known : Option (List ℕ)) (finding : Finding) (at : ℕ)
    (whole short : List ℕ → Type 0) (result : Result Bool Stop) →
    IfSome known (λ bytes. IsFound setup bytes finding) → finding.first_bad ≡ Some at →
    IfOk result (λ said. (said ≡ false) × whole (bad_line at)) →
    IfErr result (λ stop. (stop ≡ Write) × short (bad_line at)) →
    IfOk result (λ legal. HasVerdict setup known legal whole)
    × (result ≡ Err Write → (legal : Bool) × HasVerdict setup known legal short)
bad_out setup known finding at whole short (Ok said) found some done stopped = (
  subst (λ b. HasVerdict setup known b whole) (sym done.0)
      (said_bad setup known finding at whole found some done.1),
  λ is. (false, absurd (search rules)),
)
bad_out setup known finding at whole short (Err stop) found some done stopped =
    (tt, λ is. (false, said_bad setup known finding at short found some stopped.1))
