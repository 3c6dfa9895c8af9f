use Rattle.std.proofs.Common.{inr, subst}
use Rattle.std.proofs.lemmas.Result.{IfOk-weaker}
use Rattle.std.specs.Prelude.{OnErr}
use Rattle.std.specs.Io.KnownBytes.{Appends}
use Rattle.fy_lines.specs.Prefixes.{AppendsProperPrefix}
use Rattle.fy_audit.specs.AuditText.{audit_text}
use Rattle.fy_swarm.proofs.Swarming.{has_swarm_audit}
use Rattle.fy_swarm.proofs.swarm.run_swarm.Goals as goal

pub returns-clause-done : goal.returns-clause-done
returns-clause-done g c =
    IfOk-weaker c.write_audit.result _ _
    (λ done out. (
      out.0,
      has_swarm_audit c.args.config.now c.args.seed c.in_ok-cluster.cluster.journal
          c.journal.result.now.version c.journal.result.now.entries
          (Appends (g.W.Write.contents c.args.writer.now)
          (g.W.Write.contents c.write_audit.new.writer))
          c.in_ok-cluster.ensures.swarm c.journal.ensures.journal c.journal.ensures.version out.1,
    ))
    c.write_audit.ensures.done

pub returns-clause-front_out : goal.returns-clause-front_out
returns-clause-front_out g c is =
    let short = AppendsProperPrefix (g.W.Write.contents c.args.writer.now)
    (g.W.Write.contents c.write_audit.new.writer) in
    let text = audit_text c.journal.result.now.version c.journal.result.now.entries in
    has_swarm_audit c.args.config.now c.args.seed c.in_ok-cluster.cluster.journal
    c.journal.result.now.version c.journal.result.now.entries short
    c.in_ok-cluster.ensures.swarm c.journal.ensures.journal c.journal.ensures.version
    (subst (λ result. OnErr result (short text)) is c.write_audit.ensures.short)

pub returns-clause-no_memory : goal.returns-clause-no_memory
returns-clause-no_memory g c is =
    let short = AppendsProperPrefix (g.W.Write.contents c.args.writer.now)
    (g.W.Write.contents c.write_audit.new.writer) in
    let text = audit_text c.journal.result.now.version c.journal.result.now.entries in
    let out =
    has_swarm_audit c.args.config.now c.args.seed c.in_ok-cluster.cluster.journal
    c.journal.result.now.version c.journal.result.now.entries short
    c.in_ok-cluster.ensures.swarm c.journal.ensures.journal c.journal.ensures.version
    (subst (λ result. OnErr result (short text)) is c.write_audit.ensures.short) in
    inr out
