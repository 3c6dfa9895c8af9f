-- what is found of the records of a history beside a journal
use Rattle.std.specs.Prelude.{◌≡◌, ℕ, Bool, not, ◌||◌, nat_lt, List, length, map, filter, Option, option_map, if◌then◌else◌}
use Rattle.std.specs.List.{All}
use Rattle.fy_acts.specs.declared.entry.Entry.{Entry}
use Rattle.fy_cluster.specs.Setup.{Setup}
use Rattle.fy_history.specs.declared.history.History.{History}
use Rattle.fy_history.specs.declared.progress.Known.{Known}
use Rattle.fy_records.specs.Lines.{Lines, lines_of}
use Rattle.fy_records.specs.Verdicts.{AreJudged}
use Rattle.fy_records.specs.Counted.{AreCounts, AreKeyCounts, IsStaleness, key_counts_of, is_kept}
use Rattle.fy_records.specs.declared.counts.Counts.{Counts}
use Rattle.fy_records.specs.declared.verdict.Judged.{Judged}
use Rattle.fy_verdict.specs.declared.engine.Outcome.{Outcome}
use Rattle.fy_verdict.specs.declared.engine.Outcome.TheVariants.{Lost, Wrong, Missing, Unreadable, Stale, Kept}
use Rattle.fy_verdict.specs.declared.findings.Finding.{Finding}
use Rattle.fy_verdict.specs.declared.findings.Findings.{Findings}
use Rattle.fy_verdict.specs.Whole.{first_beyond, position_at, wholes_of}
use Rattle.fy_verdict.specs.Faults.{IsShownBy}

-- what is known of the cluster of a history: how many processes, and how many entries its audit has
abbrev pub known_of : Setup → List Entry → Known
known_of c journal = record { processes = length c.processes; entries = length journal }

-- the entry of the first entry line at which something was done beyond the guard
abbrev pub beyond_entry : List Entry → History → Option ℕ
beyond_entry journal history =
    option_map (λ line. line.entry) (first_beyond journal history.entries.items)

-- the lines of a history beside a journal, by which its records are judged
abbrev pub judged_lines : Setup → List Entry → History → Lines
judged_lines c journal history =
    lines_of history (wholes_of c journal history) (length c.processes) (length history.names)

-- a record that isn't kept has the position at which it was acknowledged, and what shows its
-- verdict
pub record IsFinding (c : Setup) (journal : List Entry) (history : History) (finding : Finding) : Type 0 where
  pub position_is : finding.position ≡ position_at history.entries.items finding.judged.acked.line
  pub shown : IsShownBy c journal (beyond_entry journal history) (judged_lines c journal history)
      finding.judged.write finding.position finding.judged.verdict finding.evidence

-- a record isn't kept
abbrev pub is_not_kept : Judged → Bool
is_not_kept judged = not (is_kept judged.verdict)

-- these are the judged records that aren't kept, each with what shows it
pub record AreNotKept (c : Setup) (journal : List Entry) (history : History) (judged : List Judged)
    (records : List Finding) : Type 0 where
  pub those : map (λ (finding : Finding). finding.judged) records ≡ filter is_not_kept judged
  pub each : All (IsFinding c journal history) records

-- FOUND: which processes counted as whole, the verdicts of the acknowledged records and their
-- counts, and of those that aren't kept what shows it
pub record IsFoundIn (c : Setup) (journal : List Entry) (history : History) (findings : Findings) : Type 0
  where
    pub wholes : findings.wholes.items ≡ wholes_of c journal history
    pub judged : AreJudged (judged_lines c journal history) findings.judged.items
    pub counts : AreCounts findings.judged.items findings.counts
    pub keys : AreKeyCounts (judged_lines c journal history) (length history.names) (key_counts_of findings.counts)
    pub staleness : IsStaleness findings.judged.items findings.counts.staleness
    pub records : AreNotKept c journal history findings.judged.items findings.records.items

-- the worst of the verdicts that were counted
abbrev pub worst_of : Counts → Outcome
worst_of counts =
    if nat_lt 0 counts.lost then Lost
    else if nat_lt 0 counts.wrong || nat_lt 0 counts.unwritten then Wrong
    else if nat_lt 0 counts.missing then Missing
    else if nat_lt 0 counts.unreadable then Unreadable
    else if nat_lt 0 counts.stale then Stale
    else Kept
