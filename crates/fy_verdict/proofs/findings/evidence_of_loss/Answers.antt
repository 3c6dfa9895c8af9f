use Rattle.std.proofs.Common.{◌≡◌, ◌∙◌, ℕ, List, ap}
use Rattle.fy_verdict.specs.Faults.{is_told_apart}
use Rattle.fy_verdict.proofs.Founding.{loss_shown}
use Rattle.fy_verdict.proofs.findings.evidence_of_loss.Goals as goal

pub returns-clause-shown : goal.returns-clause-shown
returns-clause-shown c = λ h is within.
    let tells = c.in_ok-tells.tells.items in
    let disks = c.in_ok-disks.disks.items in
    let apart : c.is_told_apart-told_apart.result ≡ is_told_apart c.args.loss tells disks =
    c.is_told_apart-told_apart.ensures
    ∙ ap (λ (x : List ℕ). is_told_apart c.args.loss x c.deref-2.result.now) c.deref.ensures.value
    ∙ ap (λ (x : List ℕ). is_told_apart c.args.loss tells x) c.deref-2.ensures.value in
    loss_shown c.args.beyond h c.args.write.now c.args.position c.args.loss c.is_told_apart-told_apart.result
    c.in_ok-fault.fault c.destroyed_since.result tells disks c.args.outages.now c.fault_at.new.outages apart
    c.in_ok-fault.ensures.fault c.in_ok-fault.ensures.same c.destroyed_since.ensures.destroyed
    (c.in_ok-tells.ensures h is) (c.in_ok-disks.ensures h is) within
