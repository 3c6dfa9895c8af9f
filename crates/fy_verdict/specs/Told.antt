-- what `verdict` tells of an audit and a history, and why it doesn't
use Rattle.std.specs.Prelude.{◌≡◌, ℕ, List, length, Option, Some, None, IfSome, is_some, true, Result, Ok, Err}
use Rattle.fy_acts.specs.declared.entry.Entry.{Entry}
use Rattle.fy_audit.specs.Audit.{Audit, AuditOf}
use Rattle.fy_check.specs.Inputs.{TellsFault}
use Rattle.fy_check.specs.declared.check.Finding.{Finding}
use Rattle.fy_cluster.specs.Execution.{Execution}
use Rattle.fy_cluster.specs.Setup.{Setup}
use Rattle.fy_cluster.specs.Versions.{LegalUnder}
use Rattle.fy_histories.specs.declared.stop.HistoriesStop.{HistoriesStop}
use Rattle.fy_histories.specs.declared.stop.HistoriesStop.TheVariants.{Line, Other}
use Rattle.fy_history.specs.Histories.{IsRead, FirstFaulty}
use Rattle.fy_history.specs.declared.history.History.{History}
use Rattle.fy_lines.specs.Lines.{lines_of}
use Rattle.fy_replay.specs.Replayed.{Replayed}
use Rattle.fy_streams.specs.declared.stop.Stop.TheVariants as stop
use Rattle.fy_verdict.specs.Found.{IsFoundIn, known_of, worst_of}
use Rattle.fy_verdict.specs.declared.engine.Outcome.{Outcome}
use Rattle.fy_verdict.specs.declared.engine.Outcome.TheVariants.{NotLegal}
use Rattle.fy_verdict.specs.declared.findings.Findings.{Findings}

-- bytes are an audit that is legal under its version, and this holds of its entries
pub record IsLegal (c : Setup) (bytes : List ℕ) (P : List Entry → Type 0) : Type 0 where
  pub audit : Audit
  pub read : AuditOf bytes (Ok audit)
  pub legal : LegalUnder audit.version c audit.entries
  pub holds : P audit.entries

-- a journal has so many entries, and all of it is noted
pub record IsNotedOf (c : Setup) (journal : List Entry) (finding : Finding) (outages : Execution) : Type 0
  where
    pub count : finding.count ≡ length journal
    pub noted : outages ≡ record { setup = c; journal = journal }

-- an entry of what was watched is bad, or all of it is noted
abbrev pub IsNotedBy : Replayed → Option Execution → Type 0
IsNotedBy replayed None = is_some replayed.first_bad ≡ true
IsNotedBy replayed (Some outages) =
    (replayed.first_bad ≡ None) × (outages ≡ replayed.execution)

-- an audit was watched: it has a bad entry, or it is legal and all is noted
abbrev pub IsWatched : Setup → Option (List ℕ) → Finding → Option Execution → Type 0
IsWatched c known finding None = is_some finding.first_bad ≡ true
IsWatched c known finding (Some outages) =
    IfSome known (λ bytes. IsLegal c bytes (λ journal. IsNotedOf c journal finding outages))

-- the bytes are a history beside a journal, a text that stands for what is found in it went out,
-- whole or in part, and the outcome is the worst
pub record Tells (c : Setup) (journal : List Entry) (bytes : List ℕ)
    (spells : List (List ℕ) → Findings → List ℕ → Type 0) (outcome : Outcome) (goes : List ℕ → Type 0)
    : Type 0 where
  pub history : History
  pub read : IsRead (known_of c journal) bytes history
  pub findings : Findings
  pub found : IsFoundIn c journal history findings
  pub text : List ℕ
  pub spelled : spells history.names findings text
  pub out : goes text
  pub worst : outcome ≡ worst_of findings.counts

-- VERDICT: known bytes of an audit are legal, and known ones of a history are told of beside its
-- entries
abbrev pub TellsBoth : Setup → (audit known : Option (List ℕ)) → (List (List ℕ) → Findings → List ℕ → Type 0)
    → Outcome → (List ℕ → Type 0) → Type 0
TellsBoth c audit known spells outcome goes =
    IfSome audit (λ audit_bytes. IsLegal c audit_bytes
    (λ journal. IfSome known (λ bytes. Tells c journal bytes spells outcome goes)))

-- where a stop names a line of the history, the audit is legal, and that line is the first faulty
-- one beside its entries; where it names a fault of the audit, the audit is refused by that
abbrev pub TellsRefusal : Setup → (audit known : Option (List ℕ)) → HistoriesStop → Type 0
TellsRefusal c audit known (Line number fault) =
    IfSome audit (λ audit_bytes. IsLegal c audit_bytes (λ journal. IfSome known
    (λ bytes. FirstFaulty (known_of c journal) (lines_of bytes) number fault)))
TellsRefusal c audit known (Other stop) = TellsFault audit stop

-- a fact where the audit is refused or not legal
abbrev pub IfAuditFails : Result Outcome HistoriesStop → Type 0 → Type 0
IfAuditFails (Ok NotLegal) P = P
IfAuditFails (Err (Other (stop.Audit fault))) P = P
IfAuditFails _ P = Unit {0}

-- a stop of verdict's own, once its cluster file is read
abbrev pub IsVerdictStop : HistoriesStop → Type 0
IsVerdictStop (Line number fault) = Unit {0}
IsVerdictStop (Other (stop.Audit fault)) = Unit {0}
IsVerdictStop (Other stop.Read) = Unit {0}
IsVerdictStop (Other stop.Write) = Unit {0}
IsVerdictStop (Other stop.NoMemory) = Unit {0}
IsVerdictStop (Other _) = ⊥
