use Rattle.std.proofs.Common.{◌≡◌, subst}
use Rattle.std.specs.Prelude.{OnOk, OnErr}
use Rattle.std.specs.Io.KnownBytes.{Appends}
use Rattle.fy_lines.specs.Prefixes.{AppendsProperPrefix}
use Rattle.fy_audit.specs.AuditText.{header}
use Rattle.fy_acts.specs.declared.version.Version.TheVariants.{Second}
use Rattle.fy_guard.proofs.guard.write_header.Goals as goal

pub returns-clause-out : goal.returns-clause-out
returns-clause-out g c =
    let before = g.W.Write.contents c.args.writer.now in
    let after = g.W.Write.contents c.write_bytes.new.writer in
    let bytes = c.as_bytes.ensures.value in
    let text = c.header_text.ensures in
    let head : c.as_bytes.result.now ≡ header Second = cc in
    subst (λ text. OnOk c.write_bytes.result (Appends before after text)) head c.write_bytes.ensures.ok

pub returns-clause-short : goal.returns-clause-short
returns-clause-short g c =
    let before = g.W.Write.contents c.args.writer.now in
    let after = g.W.Write.contents c.write_bytes.new.writer in
    let bytes = c.as_bytes.ensures.value in
    let text = c.header_text.ensures in
    let head : c.as_bytes.result.now ≡ header Second = cc in
    subst (λ text. OnErr c.write_bytes.result (AppendsProperPrefix before after text)) head
    c.write_bytes.ensures.short
