use Rattle.std.specs.Io.KnownBytes.{Appends}
use Rattle.std.specs.Prelude.{false}
use Rattle.fy_check.specs.CheckTexts.{HasVerdict}
use Rattle.fy_lines.specs.Prefixes.{AppendsProperPrefix}
use Rattle.fy_verdict.proofs.Telling.{bad_out, on_err}
use Rattle.fy_verdict.proofs.engine.refute.Goals as goal

pub returns-clause-refuted : goal.returns-clause-refuted
returns-clause-refuted g c = λ setup known found.
    bad_out setup known c.args.finding
    (Appends (g.W.Write.contents c.args.writer.now) (g.W.Write.contents c.write_finding.new.writer)) c.requires found
    c.in_ok-write_finding.ensures.line

pub returns-in_err-write_finding-clause-front_out : goal.returns-in_err-write_finding-clause-front_out
returns-in_err-write_finding-clause-front_out g c = λ setup known found.
    let goes = AppendsProperPrefix (g.W.Write.contents c.args.writer.now) (g.W.Write.contents c.write_finding.new.writer) in
    on_err c.from_residual.result (HasVerdict setup known false goes)
    (bad_out setup known c.args.finding goes c.requires found c.in_err-write_finding.ensures.short)
