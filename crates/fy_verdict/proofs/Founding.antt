-- what is found of the records of a history, put together
use Rattle.std.proofs.Common.{◌≡◌, ◌∙◌, ℕ, ◌+◌, ◌<◌, ◌≤◌, Option, Bool, true, false, List, [], ◌∷◌, ◌++◌, length, map, take, get_or, refl, sym, ap, subst}
use Rattle.std.specs.Prelude.{filter}
use Rattle.std.specs.List.{All}
use Rattle.std.specs.FinSet as sets
use Rattle.std.specs.Ordering.{nat_cmp}
use Rattle.std.proofs.lemmas.List.{map-append}
use Rattle.std.proofs.lemmas.List.Elements.{All-nil, All-push}
use Rattle.fy_acts.specs.declared.entry.Entry.{Entry}
use Rattle.fy_cluster.specs.Setup.{Setup}
use Rattle.fy_cluster.specs.Execution.{Execution}
use Rattle.fy_history.specs.declared.history.History.{History}
use Rattle.fy_history.specs.declared.history.Write.{Write}
use Rattle.fy_holders.specs.Noted.{IsSetSince}
use Rattle.fy_records.specs.Counted.{AreCounts, AreKeyCounts, IsStaleness, key_counts_of}
use Rattle.fy_records.specs.Evidence.{AreTellers, AreHolders}
use Rattle.fy_records.specs.Indexed.{IsIndexOf}
use Rattle.fy_records.specs.Lines.{Lines, lines_of}
use Rattle.fy_records.specs.Verdicts.{AreJudged}
use Rattle.fy_records.specs.declared.index.Index.{Index}
use Rattle.fy_records.specs.declared.verdict.Judged.{Judged}
use Rattle.fy_records.specs.declared.verdict.Loss.{Loss}
use Rattle.fy_verdict.specs.Faults.{is_told_apart, IsFault, ShowsLoss}
use Rattle.fy_verdict.specs.Found.{judged_lines, is_not_kept, AreNotKept, IsFinding, IsFoundIn}
use Rattle.fy_verdict.specs.Whole.{wholes_of}
use Rattle.fy_verdict.specs.declared.findings.Fault.{Fault}
use Rattle.fy_verdict.specs.declared.findings.Finding.{Finding}
use Rattle.fy_verdict.specs.declared.findings.Findings.{Findings}
use Rattle.fy_verdict.proofs.Fronts.{filter_takes, filter_skips}

-- none so far
pub not_kept_none : (c : Setup) (journal : List Entry) (history : History) (judged : List Judged) (records : List Finding)
    → records ≡ [] → AreNotKept c journal history (take 0 judged) records
not_kept_none c journal history judged records none = subst (AreNotKept c journal history (take 0 judged)) (sym none)
    (record { those = refl; each = All-nil (IsFinding c journal history) })

-- one more that isn't kept
pub not_kept_more : (c : Setup) (journal : List Entry) (history : History) (judged : List Judged) (i : ℕ) (d : Judged)
    (records new : List Finding) (finding : Finding) → i < length judged → is_not_kept (get_or judged i d) ≡ true
    → finding.judged ≡ get_or judged i d → IsFinding c journal history finding → new ≡ records ++ finding ∷ []
    → AreNotKept c journal history (take i judged) records
    → AreNotKept c journal history (take (i + 1) judged) new
not_kept_more c journal history judged i d records new finding within passes of found is so =
    subst (AreNotKept c journal history (take (i + 1) judged)) (sym is) (record {
      those =
          map-append (λ (it : Finding). it.judged) records (finding ∷ [])
          ∙ ap (λ ys. ys ++ finding.judged ∷ []) so.those
          ∙ ap (λ (y : Judged). filter is_not_kept (take i judged) ++ y ∷ []) of
          ∙ sym (filter_takes is_not_kept judged i d within passes);
      each = All-push (IsFinding c journal history) records finding so.each found;
    })

-- one more that is kept
pub not_kept_same : (c : Setup) (journal : List Entry) (history : History) (judged : List Judged) (i : ℕ) (d : Judged)
    (records : List Finding) → i < length judged → is_not_kept (get_or judged i d) ≡ false
    → AreNotKept c journal history (take i judged) records
    → AreNotKept c journal history (take (i + 1) judged) records
not_kept_same c journal history judged i d records within fails so = record {
  those = so.those ∙ sym (filter_skips is_not_kept judged i d within fails);
  each = so.each;
}

-- an index of the lines by which records are judged
pub index_is : (c : Setup) (journal : List Entry) (history : History) (index : Index) (wholes : List Bool) (processes names : ℕ)
    → wholes ≡ wholes_of c journal history → processes ≡ length c.processes → names ≡ length history.names
    → IsIndexOf (lines_of history wholes processes names) index → IsIndexOf (judged_lines c journal history) index
index_is c journal history index wholes processes names whole all named is =
    subst (λ n. IsIndexOf (lines_of history (wholes_of c journal history) (length c.processes) n) index) named
    (subst (λ n. IsIndexOf (lines_of history (wholes_of c journal history) n names) index) all
    (subst (λ w. IsIndexOf (lines_of history w processes names) index) whole is))

-- all of it
pub found : (c : Setup) (journal : List Entry) (history : History) (findings : Findings) (index : Index)
    → findings.wholes.items ≡ wholes_of c journal history → IsIndexOf (judged_lines c journal history) index
    → ((h : Lines) → IsIndexOf h index → AreJudged h findings.judged.items)
    → AreCounts findings.judged.items findings.counts
    → ((h : Lines) → IsIndexOf h index → AreKeyCounts h h.names (key_counts_of findings.counts))
    → IsStaleness findings.judged.items findings.counts.staleness
    → AreNotKept c journal history findings.judged.items findings.records.items
    → IsFoundIn c journal history findings
found c journal history findings index wholes is judged counts keys times records = record {
  wholes = wholes;
  judged = judged (judged_lines c journal history) is;
  counts = counts;
  keys = keys (judged_lines c journal history) is;
  staleness = times;
  records = records;
}

-- what shows a loss
pub loss_shown : (beyond : Option ℕ) (h : Lines) (write : Write) (position : ℕ) (loss : Loss) (told_apart : Bool) (fault : Fault)
    (destroyed : sets.FinSet nat_cmp) (tells disks : List ℕ) (before now : Execution)
    → told_apart ≡ is_told_apart loss tells disks
    → (position ≤ length before.journal → IsFault before.setup before.journal beyond told_apart position fault)
    → now ≡ before
    → (position ≤ length now.journal → IsSetSince now.setup now.journal position destroyed)
    → AreTellers h write tells → AreHolders h write disks → position ≤ length before.journal
    → ShowsLoss before.setup before.journal beyond h write position loss fault destroyed tells disks
loss_shown beyond h write position loss told_apart fault destroyed tells disks before now apart faulty same since tellers holders within =
    record {
      fault_is = subst (λ b. IsFault before.setup before.journal beyond b position fault) apart (faulty within);
      destroyed_are = subst (λ (o : Execution). position ≤ length o.journal → IsSetSince o.setup o.journal position destroyed)
          same since within;
      tellers = tellers;
      holders = holders;
    }
