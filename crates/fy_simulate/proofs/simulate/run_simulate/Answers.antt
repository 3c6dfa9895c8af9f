use Rattle.std.proofs.Common.{◌≡◌, true, inr}
use Rattle.std.proofs.lemmas.Result.{IfOk-weaker, IfErr-at_err}
use Rattle.std.specs.Io.KnownBytes.{Appends}
use Rattle.fy_lines.specs.Prefixes.{AppendsProperPrefix}
use Rattle.fy_audit.specs.AuditText.{audit_text}
use Rattle.fy_simulate.specs.Simulate.{HasSimulatedAudit}
use Rattle.fy_simulate.proofs.Turning.{has_audit}
use Rattle.fy_simulate.proofs.simulate.run_simulate.Goals as goal

pub returns-clause-done : goal.returns-clause-done
returns-clause-done g c =
    let was = g.W.Write.contents c.args.writer.now in
    let now = g.W.Write.contents c.write_audit.new.writer in
    let journal = c.journal.result.now in
    IfOk-weaker c.write_audit.result
    (λ done. (done ≡ true) × Appends was now (audit_text journal.version journal.entries))
    (λ done. (done ≡ true) × HasSimulatedAudit c.args.config.now c.args.seed c.args.plan c.args.acts
    (Appends was now))
    (λ done out. (
      out.0,
      has_audit c.args.config.now c.args.seed c.args.plan c.args.acts
          c.in_ok-cluster.cluster.journal journal.version journal.entries (Appends was now)
          c.in_ok-cluster.ensures c.journal.ensures.journal c.journal.ensures.version out.1,
    ))
    c.write_audit.ensures.done

pub returns-clause-front_out : goal.returns-clause-front_out
returns-clause-front_out g c is =
    let was = g.W.Write.contents c.args.writer.now in
    let now = g.W.Write.contents c.write_audit.new.writer in
    let journal = c.journal.result.now in
    has_audit c.args.config.now c.args.seed c.args.plan c.args.acts c.in_ok-cluster.cluster.journal
    journal.version journal.entries (AppendsProperPrefix was now)
    c.in_ok-cluster.ensures c.journal.ensures.journal c.journal.ensures.version
    (IfErr-at_err (λ _. AppendsProperPrefix was now (audit_text journal.version journal.entries))
    is c.write_audit.ensures.short)

pub returns-clause-no_memory : goal.returns-clause-no_memory
returns-clause-no_memory g c is =
    let was = g.W.Write.contents c.args.writer.now in
    let now = g.W.Write.contents c.write_audit.new.writer in
    let journal = c.journal.result.now in
    inr (has_audit c.args.config.now c.args.seed c.args.plan c.args.acts
    c.in_ok-cluster.cluster.journal
    journal.version journal.entries (AppendsProperPrefix was now)
    c.in_ok-cluster.ensures c.journal.ensures.journal c.journal.ensures.version
    (IfErr-at_err (λ _. AppendsProperPrefix was now (audit_text journal.version journal.entries))
    is c.write_audit.ensures.short))
