-- what is told of an audit and a history, put together
use Rattle.std.proofs.Common.{◌≡◌, ◌≢◌, ◌∙◌, ◌||◌, ℕ, nat_lt, Bool, true, false, if◌then◌else◌, List, Option, None, Some, IfSome, Result, Ok, Err, IfOk, IfErr, OnErr, is_some, length, refl, ap, subst, sym}
use Rattle.fy_acts.specs.declared.entry.Entry.{Entry}
use Rattle.fy_check.specs.declared.check.Finding.{Finding}
use Rattle.fy_cluster.specs.Execution.{Execution}
use Rattle.fy_cluster.specs.Setup.{Setup}
use Rattle.std.specs.Option.{option_map_or}
use Rattle.std.proofs.lemmas.Bool.{false≢true}
use Rattle.fy_check.specs.CheckTexts.{Finds, HasVerdict, IsFound, bad_line, finding_line, legal_line}
use Rattle.fy_check.specs.Inputs.{IsInputStop}
use Rattle.fy_replay.specs.Replayed.{HasFirstBad}
use Rattle.fy_histories.specs.Stops.{history_stop, TellsHistory, IsHistoryStop}
use Rattle.fy_histories.specs.declared.stop.HistoriesStop.{HistoriesStop}
use Rattle.fy_histories.specs.declared.stop.HistoriesStop.TheVariants.{Line, Other}
use Rattle.fy_history.specs.Histories.{IsRead, FirstFaulty}
use Rattle.fy_history.specs.declared.fault.HistoryStop.{HistoryStop}
use Rattle.fy_history.specs.declared.fault.HistoryStop.TheVariants as history
use Rattle.fy_history.specs.declared.history.History.{History}
use Rattle.fy_history.specs.declared.progress.Known.{Known}
use Rattle.fy_lines.specs.Lines.{lines_of}
use Rattle.fy_records.specs.declared.counts.Counts.{Counts}
use Rattle.fy_streams.specs.declared.stop.Stop.{Stop}
use Rattle.fy_streams.specs.declared.stop.Stop.TheVariants.{Audit, Read, Write, NoMemory}
use Rattle.fy_verdict.specs.Found.{IsFoundIn, known_of, worst_of}
use Rattle.fy_verdict.specs.Told.{IsWatched, Tells, TellsBoth, TellsRefusal, IfAuditFails, IsVerdictStop}
use Rattle.fy_verdict.specs.declared.engine.Outcome.{Outcome}
use Rattle.fy_verdict.specs.declared.engine.Outcome.TheVariants.{NotLegal, Lost, Wrong, Missing, Unreadable, Stale, Kept}
use Rattle.fy_verdict.specs.declared.findings.Findings.{Findings}

-- what was found in a history beside a journal, and its text that went out
pub tells : (c : Setup) (journal : List Entry) (known : Option (List ℕ)) (spells : List (List ℕ) → Findings → List ℕ → Type 0)
    (goes : List ℕ → Type 0) (k : Known) (history : History) (findings : Findings) (text : List ℕ) (outcome : Outcome)
    → IfSome known (λ bytes. IsRead k bytes history) → (k ≡ known_of c journal → IsFoundIn c journal history findings)
    → spells history.names findings text → goes text → outcome ≡ worst_of findings.counts
    → k ≡ known_of c journal → IfSome known (λ bytes. Tells c journal bytes spells outcome goes)
tells c journal None spells goes k history findings text outcome read found spelled out worst is = tt
tells c journal (Some bytes) spells goes k history findings text outcome read found spelled out worst is = record {
  history = history;
  read = subst (λ k. IsRead k bytes history) is read;
  findings = findings;
  found = found is;
  text = text;
  spelled = spelled;
  out = out;
  worst = worst;
}

-- what is known of the cluster of an audit of which all is noted
known_is : (c : Setup) (journal : List Entry) (count : ℕ) (k : Known)
    → k ≡ record { processes = length c.processes; entries = count } → count ≡ length journal → k ≡ known_of c journal
known_is c journal count k is counted =
    is ∙ ap (λ (n : ℕ). let k : Known = record { processes = length c.processes; entries = n } in k) counted

-- what is told beside a journal is told beside its audit
pub tells_both : (c : Setup) (audit known : Option (List ℕ)) (finding : Finding) (outages : Execution) (k : Known)
    (spells : List (List ℕ) → Findings → List ℕ → Type 0) (outcome : Outcome) (goes : List ℕ → Type 0)
    → IsWatched c audit finding (Some outages)
    → k ≡ record { processes = length c.processes; entries = finding.count }
    → (k ≡ known_of outages.setup outages.journal
    → IfSome known (λ bytes. Tells outages.setup outages.journal bytes spells outcome goes))
    → TellsBoth c audit known spells outcome goes
tells_both c None known finding outages k spells outcome goes watched is told = tt
tells_both c (Some bytes) known finding outages k spells outcome goes watched is told =
    let journal = watched.audit.entries in
    let noted = watched.holds.noted in
    record {
      audit = watched.audit;
      read = watched.read;
      legal = watched.legal;
      holds = subst (λ (o : Execution). IfSome known (λ bytes. Tells o.setup o.journal bytes spells outcome goes)) noted
          (told (known_is c journal finding.count k is watched.holds.count
          ∙ sym (ap (λ (o : Execution). known_of o.setup o.journal) noted)));
    }

-- a line of a history that is refused is so beside an audit
pub refuses : (c : Setup) (audit known : Option (List ℕ)) (finding : Finding) (outages : Execution) (k : Known)
    (stop : HistoriesStop) → IsWatched c audit finding (Some outages)
    → k ≡ record { processes = length c.processes; entries = finding.count } → IsHistoryStop stop
    → IfSome known (λ bytes. TellsHistory k bytes stop) → TellsRefusal c audit known stop
refuses c None known finding outages k (Line number fault) watched is own told = tt
refuses c (Some bytes) known finding outages k (Line number fault) watched is own told = record {
  audit = watched.audit;
  read = watched.read;
  legal = watched.legal;
  holds = subst (λ k. IfSome known (λ lines. FirstFaulty k (lines_of lines) number fault))
      (known_is c watched.audit.entries finding.count k is watched.holds.count) told;
}
refuses c audit known finding outages k (Other (Audit fault)) watched is own told = absurd own
refuses c audit known finding outages k (Other _) watched is own told = tt

-- the worst of verdicts isn't that of an audit that isn't legal
pub worst_is_legal : (counts : Counts) → worst_of counts ≡ NotLegal → ⊥
worst_is_legal counts = by (nat_lt 0 counts.lost) (nat_lt 0 counts.wrong || nat_lt 0 counts.unwritten)
    (nat_lt 0 counts.missing) (nat_lt 0 counts.unreadable) (nat_lt 0 counts.stale)
  where
    by : (lost wrong missing unreadable stale : Bool) → (if lost then Lost else if wrong then Wrong else if missing then Missing
        else if unreadable then Unreadable else if stale then Stale else Kept) ≡ NotLegal → ⊥
    by true wrong missing unreadable stale is = cc
    by false true missing unreadable stale is = cc
    by false false true unreadable stale is = cc
    by false false false true stale is = cc
    by false false false false true is = cc
    by false false false false false is = cc

-- a history that isn't read isn't written of
pub reads_only : (stop : HistoryStop) → history_stop stop ≡ Other Write → ⊥
reads_only (history.Line number fault) is = cc
reads_only history.Reader is = cc
reads_only history.NoMemory is = cc

-- ---- what comes of telling, passed on

-- what is told beside a journal is told beside its audit, if anything is
pub told_of : (c : Setup) (audit known : Option (List ℕ)) (finding : Finding) (outages : Execution) (k : Known)
    (spells : List (List ℕ) → Findings → List ℕ → Type 0) (goes : List ℕ → Type 0)
    (result : Result Outcome HistoriesStop) → IsWatched c audit finding (Some outages)
    → k ≡ record { processes = length c.processes; entries = finding.count }
    → IfOk result (λ outcome. k ≡ known_of outages.setup outages.journal
    → IfSome known (λ bytes. Tells outages.setup outages.journal bytes spells outcome goes))
    → IfOk result (λ outcome. outcome ≢ NotLegal → TellsBoth c audit known spells outcome goes)
told_of c audit known finding outages k spells goes (Ok outcome) watched is told =
    λ _. tells_both c audit known finding outages k spells outcome goes watched is told
told_of c audit known finding outages k spells goes (Err stop) watched is told = tt

-- a stop beside a journal is one beside its audit, if there is one
pub refused_of : (c : Setup) (audit known : Option (List ℕ)) (finding : Finding) (outages : Execution) (k : Known)
    (result : Result Outcome HistoriesStop) → IsWatched c audit finding (Some outages)
    → k ≡ record { processes = length c.processes; entries = finding.count } → IfErr result IsHistoryStop
    → IfErr result (λ stop. IfSome known (λ bytes. TellsHistory k bytes stop))
    → IfErr result (TellsRefusal c audit known)
refused_of c audit known finding outages k (Ok outcome) watched is own told = tt
refused_of c audit known finding outages k (Err stop) watched is own told =
    refuses c audit known finding outages k stop watched is own told

-- ---- why an audit isn't told of

-- a stop of an audit is one of verdict
pub audit_stop : (stop : Stop) → IsInputStop stop → IsVerdictStop (Other stop)
audit_stop (Audit fault) own = tt
audit_stop Read own = tt
audit_stop NoMemory own = tt
audit_stop _ own = absurd own

-- so is one of a history
pub own_stop : (stop : HistoriesStop) → IsHistoryStop stop → IsVerdictStop stop
own_stop (Line number fault) own = tt
own_stop (Other Read) own = tt
own_stop (Other Write) own = tt
own_stop (Other NoMemory) own = tt
own_stop (Other _) own = absurd own

-- and what ends with one of a history ends with one of verdict
pub own_of : (result : Result Outcome HistoriesStop) → IfErr result IsHistoryStop → IfErr result IsVerdictStop
own_of (Ok outcome) own = tt
own_of (Err stop) own = own_stop stop own

-- no stop of an audit that is read is a write fault
pub audit_reads : (stop : Stop) → IsInputStop stop → ◌≡◌ {A = HistoriesStop} (Other stop) (Other Write) → ⊥
audit_reads stop own is = let same : stop ≡ Write = cc in subst IsInputStop same own

-- what holds anyway holds where the audit fails
pub anyway : (result : Result Outcome HistoriesStop) (P : Type 0) → P → IfAuditFails result P
anyway (Ok NotLegal) P holds = holds
anyway (Ok _) P holds = tt
anyway (Err (Line number fault)) P holds = tt
anyway (Err (Other (Audit fault))) P holds = holds
anyway (Err (Other _)) P holds = tt

-- and nothing is asked where it is told of
pub told_or_not : (result : Result Outcome HistoriesStop) (P : Type 0) → IfOk result (λ outcome. outcome ≢ NotLegal)
    → IfErr result IsHistoryStop → IfAuditFails result P
told_or_not (Ok NotLegal) P legal own = absurd (legal refl)
told_or_not (Ok _) P legal own = tt
told_or_not (Err (Line number fault)) P legal own = tt
told_or_not (Err (Other (Audit fault))) P legal own = absurd own
told_or_not (Err (Other _)) P legal own = tt

-- what holds, holds of an error
pub on_err : {A E : Type 0} (r : Result A E) (P : Type 0) → P → OnErr r P
on_err (Ok _) P p = tt
on_err (Err _) P p = p

-- the line of an audit with a bad entry
pub bad_out : (setup : Setup) (known : Option (List ℕ)) (finding : Finding) (goes : List ℕ → Type 0)
    → is_some finding.first_bad ≡ true → IfSome known (λ bytes. IsFound setup bytes finding) → goes (finding_line finding)
    → HasVerdict setup known false goes
bad_out setup known finding goes some found out = by finding.first_bad refl known found
  where
    by : (bad : Option ℕ) → finding.first_bad ≡ bad → (known : Option (List ℕ))
        → IfSome known (λ bytes. IsFound setup bytes finding) → HasVerdict setup known false goes
    by None is known found = absurd (false≢true (subst (λ (bad : Option ℕ). is_some bad ≡ true) is some))
    by (Some at) is None found = tt
    by (Some at) is (Some bytes) found = (
      bad_line at,
      Finds.refutes found.audit at found.read
          (subst (HasFirstBad found.audit.version setup found.audit.entries) is found.first),
      subst (λ (bad : Option ℕ). goes (option_map_or bad_line bad (legal_line finding.count))) is out,
    )
