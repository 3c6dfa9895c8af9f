use Rattle.std.proofs.Common.{◌∙◌, length, sym, subst}
use Rattle.fy_cluster.specs.Execution.{Execution}
use Rattle.fy_records.specs.Indexed.{IsIndexOf}
use Rattle.fy_verdict.specs.Found.{judged_lines, IsFinding}
use Rattle.fy_verdict.specs.Whole.{AreEntryLines}
use Rattle.fy_verdict.proofs.Founding.{not_kept_more, not_kept_same}
use Rattle.fy_verdict.proofs.findings.not_kept.Goals as goal
use Rattle.fy_verdict.proofs.findings.not_kept.Goals.{then-is_not_kept+in_ok-finding+in_ok-add_finding, else-is_not_kept}

pub loop-each-preserved : goal.loop-each-preserved
loop-each-preserved c =
    let setup = c.args.outages.now.setup in
    let journal = c.args.outages.now.journal in
    let history = c.args.history.now in
    let same = c.loop-each.invariant.same in
    elim c.if-is_not_kept.branch [
      | then-is_not_kept+in_ok-finding+in_ok-add_finding w ↦ rw (w.outages-is, w.records-is) (record {
        same = w.in_ok-finding.ensures.same ∙ same;
        those = λ lines is. not_kept_more setup journal history c.args.judged.now c.loop-each.each-index _
            c.loop-each.records.items w.add_finding.new.records.items w.in_ok-finding.finding c.loop-each-test.true
            (sym c.is_not_kept.ensures ∙ w.if-is_not_kept.true) w.in_ok-finding.ensures.judged
            (subst (λ (o : Execution). AreEntryLines (length o.journal) history.entries.items
            → IsIndexOf (judged_lines o.setup o.journal history) c.args.index.now
            → IsFinding o.setup o.journal history w.in_ok-finding.finding) same w.in_ok-finding.ensures.found lines is)
            w.in_ok-add_finding.ensures (c.loop-each.invariant.those lines is);
      })
      | else-is_not_kept w ↦ rw (w.outages-is, w.records-is) (record {
        same = same;
        those = λ lines is. not_kept_same setup journal history c.args.judged.now c.loop-each.each-index _
            c.loop-each.records.items c.loop-each-test.true (sym c.is_not_kept.ensures ∙ w.if-is_not_kept.false)
            (c.loop-each.invariant.those lines is);
      })
    ]
