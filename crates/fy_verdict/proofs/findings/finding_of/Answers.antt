use Rattle.std.proofs.Common.{◌∙◌, ℕ, List, Option, length, sym, ap, subst}
use Rattle.fy_history.specs.declared.history.EntryLine.{EntryLine}
use Rattle.fy_verdict.specs.Faults.{IsShownBy}
use Rattle.fy_verdict.specs.Found.{judged_lines}
use Rattle.fy_verdict.specs.Whole.{AreEntryLines, position_at}
use Rattle.fy_verdict.proofs.findings.finding_of.Goals as goal

pub returns-clause-found : goal.returns-clause-found
returns-clause-found c = λ lines is.
    let setup = c.args.outages.now.setup in
    let journal = c.args.outages.now.journal in
    let judged = c.args.judged.now in
    let there = subst (AreEntryLines (length journal)) (sym c.deref.ensures.value) lines in
    let h = judged_lines setup journal c.args.history.now in
    record {
      position_is = c.position_at-position.ensures.position (length journal) there
          ∙ ap (λ (entries : List EntryLine). position_at entries judged.acked.line) c.deref.ensures.value;
      shown = subst (λ (b : Option ℕ). IsShownBy setup journal b h judged.write c.position_at-position.result
          judged.verdict c.in_ok-evidence.evidence) c.requires.beyond
          (c.in_ok-evidence.ensures.shown h is (c.position_at-position.ensures.within (length journal) there));
    }
