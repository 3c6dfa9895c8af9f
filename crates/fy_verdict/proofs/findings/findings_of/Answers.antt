use Rattle.std.proofs.Common.{◌∙◌, ℕ, List, length, ap, subst}
use Rattle.fy_history.specs.declared.history.EntryLine.{EntryLine}
use Rattle.fy_history.specs.declared.progress.Known.{Known}
use Rattle.fy_records.specs.Counted.{AreCounts, IsStaleness}
use Rattle.fy_records.specs.declared.verdict.Judged.{Judged}
use Rattle.fy_verdict.specs.Found.{AreNotKept}
use Rattle.fy_verdict.specs.Whole.{AreEntryLines}
use Rattle.fy_verdict.proofs.Founding.{found, index_is}
use Rattle.fy_verdict.proofs.findings.findings_of.Goals as goal

pub returns : goal.returns
returns c = λ is.
    let setup = c.args.outages.now.setup in
    let journal = c.args.outages.now.journal in
    let history = c.args.history.now in
    let index = c.in_ok-index.index in
    let lines = subst (λ (n : ℕ). AreEntryLines n history.entries.items) (ap (λ (k : Known). k.entries) is)
    (subst (AreEntryLines c.args.known.entries) c.deref.ensures.value c.in_ok-check_entry_lines.ensures) in
    let wholes = c.in_ok-wholes.ensures.each lines in
    let indexed = index_is setup journal history index c.deref-2.result.now c.args.known.processes c.in_ok-names.names
    (c.deref-2.ensures.value ∙ wholes) (ap (λ (k : Known). k.processes) is) c.in_ok-names.ensures c.in_ok-index.ensures in
    found setup journal history _ index wholes indexed c.in_ok-judged.ensures
    (subst (λ (js : List Judged). AreCounts js c.in_ok-counts.counts) c.deref-3.ensures.value c.in_ok-counts.ensures.verdicts)
    c.in_ok-counts.ensures.keys
    (subst (λ (js : List Judged). IsStaleness js c.in_ok-counts.counts.staleness) c.deref-3.ensures.value
    c.in_ok-counts.ensures.times)
    (subst (λ (js : List Judged). AreNotKept setup journal history js c.in_ok-records.records.items) c.deref-4.ensures.value
    (c.in_ok-records.ensures.those lines indexed))
