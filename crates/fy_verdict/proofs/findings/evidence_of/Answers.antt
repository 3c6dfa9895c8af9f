use Rattle.std.proofs.Common.{sym, subst}
use Rattle.std.proofs.lemmas.Result.{IfOk-weaker}
use Rattle.fy_verdict.specs.Faults.{IsShownBy}
use Rattle.fy_records.specs.declared.verdict.Verdict.{Verdict}
use Rattle.fy_verdict.proofs.findings.evidence_of.Goals as goal

pub returns-in-Missing-clause-shown : goal.returns-in-Missing-clause-shown
returns-in-Missing-clause-shown c =
    IfOk-weaker c.evidence_of_missing.result _ _
    (λ evidence shown h is within. subst (λ (v : Verdict). IsShownBy c.args.outages.now.setup c.args.outages.now.journal
    c.args.beyond h c.args.judged.now.write c.args.position v evidence) (sym c.in-Missing.is)
    (shown c.args.outages.now.setup c.args.outages.now.journal c.args.beyond c.args.position h is))
    c.evidence_of_missing.ensures
